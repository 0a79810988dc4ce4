use Rattle.std.proofs.Common.{◌+◌, arith, replicate}
use Rattle.blob_pages.proofs.Groups.{puts_in, own_there, own_group, own_sound, own_owned, own_within, own_packed}
use Rattle.blob_pages.proofs.table.clear_of.Goals as goal

pub index_mut-requires : goal.index_mut-requires
index_mut-requires c = omega (arith, own_group c.args.groups.now.items c.requires.packed c.args.i c.requires.owned)

pub clear_in-requires-clause-sound : goal.clear_in-requires-clause-sound
clear_in-requires-clause-sound c = own_sound c.args.groups.now.items c.requires.packed c.args.i c.requires.owned c.index_mut.result.now c.index_mut.ensures.value

pub clear_in-requires-clause-owned : goal.clear_in-requires-clause-owned
clear_in-requires-clause-owned c = own_owned c.args.groups.now.items c.requires.packed c.args.i c.requires.owned c.index_mut.result.now c.index_mut.ensures.value

pub clear_in-requires-clause-within : goal.clear_in-requires-clause-within
clear_in-requires-clause-within c = own_within c.args.groups.now.items c.requires.packed c.args.i c.requires.owned c.index_mut.result.now c.index_mut.ensures.value (c.args.at + c.args.len) c.requires.within

pub returns-clause-puts : goal.returns-clause-puts
returns-clause-puts c = puts_in c.args.groups.now.items c.requires.packed c.args.i c.index_mut.result.now c.clear_in.new.group c.args.at (replicate c.args.len 0)
    (own_there c.args.groups.now.items c.requires.packed c.args.i c.requires.owned) c.index_mut.ensures.value c.clear_in.ensures.puts

pub returns-clause-packed : goal.returns-clause-packed
returns-clause-packed c = own_packed c.args.groups.now.items c.requires.packed c.args.i c.requires.owned c.index_mut.result.now c.index_mut.ensures.value c.clear_in.new.group c.args.at (replicate c.args.len 0) c.clear_in.ensures.puts c.clear_in.ensures.sound
