use Rattle.std.proofs.Common.{◌/◌, ◌∙◌, sym, subst, arith}
use Rattle.blob_pages.specs.Groups.{group_size, IsSound}
use Rattle.blob_pages.proofs.Groups.{owner_of, owner_past}
use Rattle.blob_pages.proofs.table.is_owned_in.Goals as goal

pub is_owned-requires : goal.is_owned-requires
is_owned-requires c = subst IsSound (sym c.index-groups-i.is) (c.requires.sound (c.args.i / group_size) c.index-groups-i.result (omega arith))

pub returns : goal.returns
returns c = c.is_owned.ensures ∙ owner_of c.args.groups.now c.requires c.args.i c.index-groups-i.result (omega arith) c.index-groups-i.is

pub returns-then-i-groups : goal.returns-then-i-groups
returns-then-i-groups c = sym (owner_past c.args.groups.now c.requires c.args.i (omega arith))
