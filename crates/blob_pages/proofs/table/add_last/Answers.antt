use Rattle.std.proofs.Common.{◌-◌, arith}
use Rattle.blob_pages.proofs.Groups.{packed_more, adds_push}
use Rattle.blob_pages.proofs.table.add_last.Goals as goal

pub returns-clause-packed : goal.returns-clause-packed
returns-clause-packed c =
    let gs = c.args.groups.now.items in
    packed_more gs c.requires.packed (c.len-last.result - 1) c.index_mut.result.now c.push_in.new.group c.args.page (omega (arith, c.requires.some)) (omega (arith, c.requires.some)) c.index_mut.ensures.value c.push_in.result c.push_in.ensures.pushed c.requires.room c.push_in.ensures.sound

pub returns-clause-adds : goal.returns-clause-adds
returns-clause-adds c =
    let gs = c.args.groups.now.items in
    adds_push gs c.requires.packed (c.len-last.result - 1) c.index_mut.result.now c.push_in.new.group c.args.page (omega (arith, c.requires.some)) (omega (arith, c.requires.some)) c.index_mut.ensures.value c.push_in.result c.push_in.ensures.pushed c.requires.full c.requires.owned
