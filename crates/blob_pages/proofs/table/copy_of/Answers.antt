use Rattle.std.proofs.Common.{All, ◌∙◌, ap, map, subst, sym, arith}
use Rattle.std.proofs.lemmas.List.Elements.{All-push}
use Rattle.blob_pages.specs.Groups.{group_bytes, IsSound}
use Rattle.blob_pages.proofs.Groups.{copied_by, needed_there, packed_copy, first_copy}
use Rattle.blob_pages.proofs.table.copy_of.Goals as goal

pub bounds-groups-k : goal.bounds-groups-k
bounds-groups-k c = omega (arith, needed_there c.args.groups.now c.requires.packed c.groups_for-needed.result c.args.count c.groups_for-needed.ensures.high c.requires.there)

pub loop-k-preserved : goal.loop-k-preserved
loop-k-preserved c = record {
  copied = ap (map group_bytes) c.in_ok-push.ensures.items
      ∙ copied_by group_bytes c.args.groups.now c.loop-k.copies.items c.loop-k.k c.index-groups-k.result c.in_ok-copy.copy c.loop-k.invariant.copied (omega (arith, needed_there c.args.groups.now c.requires.packed c.groups_for-needed.result c.args.count c.groups_for-needed.ensures.high c.requires.there)) c.index-groups-k.is c.in_ok-copy.ensures.bytes;
  sound = subst (All IsSound) (sym c.in_ok-push.ensures.items) (All-push IsSound c.loop-k.copies.items c.in_ok-copy.copy c.loop-k.invariant.sound
      (c.in_ok-copy.ensures.sound (subst IsSound (sym c.index-groups-k.is) (c.requires.packed.sound c.loop-k.k c.index-groups-k.result (omega (arith, needed_there c.args.groups.now c.requires.packed c.groups_for-needed.result c.args.count c.groups_for-needed.ensures.high c.requires.there))))));
}

pub returns-clause-packed : goal.returns-clause-packed
returns-clause-packed c =
    let gs = c.args.groups.now in
    packed_copy gs c.loop-k.copies.items c.loop-k.k c.args.count c.requires.packed c.loop-k.invariant.copied (omega (arith, needed_there c.args.groups.now c.requires.packed c.groups_for-needed.result c.args.count c.groups_for-needed.ensures.high c.requires.there)) c.loop-k.invariant.sound

pub returns-clause-ok : goal.returns-clause-ok
returns-clause-ok c =
    let gs = c.args.groups.now in
    first_copy gs c.loop-k.copies.items c.loop-k.k c.args.count c.requires.packed c.loop-k.invariant.copied (omega (arith, needed_there c.args.groups.now c.requires.packed c.groups_for-needed.result c.args.count c.groups_for-needed.ensures.high c.requires.there)) (omega (arith, c.groups_for-needed.ensures.low)) c.requires.there
