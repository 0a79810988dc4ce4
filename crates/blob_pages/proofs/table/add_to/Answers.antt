use Rattle.std.proofs.Common.{ap, length, arith}
use Rattle.blob_pages.specs.Groups.{all_pages}
use Rattle.blob_pages.proofs.Groups.{length_most}
use Rattle.blob_pages.proofs.table.add_to.Goals as goal

pub add_group-requires-clause-room : goal.add_group-requires-clause-room
add_group-requires-clause-room c = omega (arith, length_most c.args.groups.now.items c.requires.packed.most, c.if-count_of-len.false, ap (λ l. length (all_pages l)) c.as_slice.ensures.value)
