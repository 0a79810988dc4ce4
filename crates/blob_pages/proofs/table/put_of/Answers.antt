use Rattle.std.proofs.Common.{◌+◌, length, arith}
use Rattle.blob_pages.proofs.Groups.{puts_in, own_there, own_group, own_sound, own_owned, own_within, own_packed}
use Rattle.blob_pages.proofs.table.put_of.Goals as goal

pub index_mut-requires : goal.index_mut-requires
index_mut-requires c = omega (arith, own_group c.args.groups.now.items c.requires.packed c.args.i c.requires.owned)

pub put_in-requires-clause-sound : goal.put_in-requires-clause-sound
put_in-requires-clause-sound c = own_sound c.args.groups.now.items c.requires.packed c.args.i c.requires.owned c.index_mut.result.now c.index_mut.ensures.value

pub put_in-requires-clause-owned : goal.put_in-requires-clause-owned
put_in-requires-clause-owned c = own_owned c.args.groups.now.items c.requires.packed c.args.i c.requires.owned c.index_mut.result.now c.index_mut.ensures.value

pub put_in-requires-clause-within : goal.put_in-requires-clause-within
put_in-requires-clause-within c = own_within c.args.groups.now.items c.requires.packed c.args.i c.requires.owned c.index_mut.result.now c.index_mut.ensures.value (c.args.at + length c.args.run.now) c.requires.within

pub returns-clause-puts : goal.returns-clause-puts
returns-clause-puts c = puts_in c.args.groups.now.items c.requires.packed c.args.i c.index_mut.result.now c.put_in.new.group c.args.at c.args.run.now
    (own_there c.args.groups.now.items c.requires.packed c.args.i c.requires.owned) c.index_mut.ensures.value c.put_in.ensures.puts

pub returns-clause-packed : goal.returns-clause-packed
returns-clause-packed c = own_packed c.args.groups.now.items c.requires.packed c.args.i c.requires.owned c.index_mut.result.now c.index_mut.ensures.value c.put_in.new.group c.args.at c.args.run.now c.put_in.ensures.puts c.put_in.ensures.sound
