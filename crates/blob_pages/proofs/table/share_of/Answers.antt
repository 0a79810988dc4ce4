use Rattle.std.proofs.Common.{All, ◌+◌, ◌∙◌, ap, map, take, subst, sym, arith}
use Rattle.std.proofs.lemmas.List.Elements.{All-push}
use Rattle.blob_pages.specs.declared.group.Group.{Group}
use Rattle.blob_pages.specs.Groups.{group_bytes, group_pages, NoneOwned, IsSound}
use Rattle.blob_pages.proofs.Groups.{copied_by, needed_there, group_count, shared_packed, shared_table, shared_bytes, packed_copy, first_copy, same_groups, shared_all}
use Rattle.blob_pages.proofs.table.share_of.Goals as goal

-- no page of a group has only one value
abbrev IsSharedGroup : Group → Type 0
IsSharedGroup g = NoneOwned (group_pages g)

pub index_mut-requires : goal.index_mut-requires
index_mut-requires c = omega (arith, needed_there c.args.groups.now.items c.requires.packed c.groups_for-needed.result c.args.count c.groups_for-needed.ensures.high c.requires.there, group_count c.args.groups.now.items c.loop-k.groups.items c.loop-k.invariant.table)

pub share_group-requires : goal.share_group-requires
share_group-requires c = subst IsSound (sym c.index_mut.ensures.value)
    (c.loop-k.invariant.packed.sound c.loop-k.k c.index_mut.result.now (omega (arith, needed_there c.args.groups.now.items c.requires.packed c.groups_for-needed.result c.args.count c.groups_for-needed.ensures.high c.requires.there, group_count c.args.groups.now.items c.loop-k.groups.items c.loop-k.invariant.table)))

pub returns-in_err-copy-clause-packed : goal.returns-in_err-copy-clause-packed
returns-in_err-copy-clause-packed c = shared_packed c.args.groups.now.items c.loop-k.groups.items c.loop-k.invariant.table c.loop-k.invariant.packed c.loop-k.k c.index_mut.result.now c.share_group.new.group (omega (arith, needed_there c.args.groups.now.items c.requires.packed c.groups_for-needed.result c.args.count c.groups_for-needed.ensures.high c.requires.there)) c.index_mut.ensures.value c.share_group.ensures.bytes c.share_group.ensures.sound

pub returns-in_err-copy-clause-bytes : goal.returns-in_err-copy-clause-bytes
returns-in_err-copy-clause-bytes c = shared_bytes c.args.groups.now.items c.loop-k.groups.items c.loop-k.invariant.table c.loop-k.invariant.packed c.loop-k.k c.index_mut.result.now c.share_group.new.group (omega (arith, needed_there c.args.groups.now.items c.requires.packed c.groups_for-needed.result c.args.count c.groups_for-needed.ensures.high c.requires.there)) c.index_mut.ensures.value c.share_group.ensures.bytes c.share_group.ensures.sound

pub returns-in_err-push-clause-packed : goal.returns-in_err-push-clause-packed
returns-in_err-push-clause-packed c = shared_packed c.args.groups.now.items c.loop-k.groups.items c.loop-k.invariant.table c.loop-k.invariant.packed c.loop-k.k c.index_mut.result.now c.share_group.new.group (omega (arith, needed_there c.args.groups.now.items c.requires.packed c.groups_for-needed.result c.args.count c.groups_for-needed.ensures.high c.requires.there)) c.index_mut.ensures.value c.share_group.ensures.bytes c.share_group.ensures.sound

pub returns-in_err-push-clause-bytes : goal.returns-in_err-push-clause-bytes
returns-in_err-push-clause-bytes c = shared_bytes c.args.groups.now.items c.loop-k.groups.items c.loop-k.invariant.table c.loop-k.invariant.packed c.loop-k.k c.index_mut.result.now c.share_group.new.group (omega (arith, needed_there c.args.groups.now.items c.requires.packed c.groups_for-needed.result c.args.count c.groups_for-needed.ensures.high c.requires.there)) c.index_mut.ensures.value c.share_group.ensures.bytes c.share_group.ensures.sound

pub loop-k-preserved : goal.loop-k-preserved
loop-k-preserved c = record {
  table = shared_table c.args.groups.now.items c.loop-k.groups.items c.loop-k.invariant.table c.loop-k.invariant.packed c.loop-k.k c.index_mut.result.now c.share_group.new.group (omega (arith, needed_there c.args.groups.now.items c.requires.packed c.groups_for-needed.result c.args.count c.groups_for-needed.ensures.high c.requires.there)) c.index_mut.ensures.value c.share_group.ensures.bytes c.share_group.ensures.sound;
  packed = shared_packed c.args.groups.now.items c.loop-k.groups.items c.loop-k.invariant.table c.loop-k.invariant.packed c.loop-k.k c.index_mut.result.now c.share_group.new.group (omega (arith, needed_there c.args.groups.now.items c.requires.packed c.groups_for-needed.result c.args.count c.groups_for-needed.ensures.high c.requires.there)) c.index_mut.ensures.value c.share_group.ensures.bytes c.share_group.ensures.sound;
  copied = ap (map group_bytes) c.in_ok-push.ensures.items
      ∙ copied_by group_bytes c.loop-k.groups.items c.loop-k.copies.items c.loop-k.k c.index_mut.result.now c.in_ok-copy.copy (c.loop-k.invariant.copied ∙ ap (take c.loop-k.k) (sym c.loop-k.invariant.table))
      (omega (arith, needed_there c.args.groups.now.items c.requires.packed c.groups_for-needed.result c.args.count c.groups_for-needed.ensures.high c.requires.there, group_count c.args.groups.now.items c.loop-k.groups.items c.loop-k.invariant.table)) c.index_mut.ensures.value c.in_ok-copy.ensures.ok
      ∙ ap (take (c.loop-k.k + 1)) c.loop-k.invariant.table;
  shared = subst (All IsSharedGroup) (sym c.in_ok-push.ensures.items) (All-push IsSharedGroup c.loop-k.copies.items c.in_ok-copy.copy c.loop-k.invariant.shared c.in_ok-copy.ensures.shared);
}

pub returns-clause-bytes : goal.returns-clause-bytes
returns-clause-bytes c = same_groups c.args.groups.now.items c.loop-k.groups.items c.loop-k.invariant.table

pub returns-clause-copy : goal.returns-clause-copy
returns-clause-copy c = packed_copy c.args.groups.now.items c.loop-k.copies.items c.loop-k.k c.args.count c.requires.packed c.loop-k.invariant.copied (omega (arith, needed_there c.args.groups.now.items c.requires.packed c.groups_for-needed.result c.args.count c.groups_for-needed.ensures.high c.requires.there)) (λ j d l _. c.loop-k.invariant.shared j d l)

pub returns-clause-ok : goal.returns-clause-ok
returns-clause-ok c = first_copy c.args.groups.now.items c.loop-k.copies.items c.loop-k.k c.args.count c.requires.packed c.loop-k.invariant.copied (omega (arith, needed_there c.args.groups.now.items c.requires.packed c.groups_for-needed.result c.args.count c.groups_for-needed.ensures.high c.requires.there)) (omega (arith, c.groups_for-needed.ensures.low)) c.requires.there

pub returns-clause-shared : goal.returns-clause-shared
returns-clause-shared c = shared_all c.loop-k.copies.items c.loop-k.invariant.shared
