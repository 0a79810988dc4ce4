use Rattle.std.proofs.Common.{◌≡◌, ◌∙◌, ◌<◌, arith, length, get_or, ap, sym, None}
use Rattle.std.proofs.lemmas.List.{get_or_default}
use Rattle.blob_model.specs.Files.{is_removed_by}
use Rattle.blob_pending.specs.Lists.{is_removed_in}
use Rattle.blob_pending.specs.Views.{left_in}
use Rattle.blob_pending.proofs.ListSteps.{held_same, below_set}
use Rattle.blob_pending.proofs.partition.note_each.Goals as goal

pub loop-list-preserved : goal.loop-list-preserved
loop-list-preserved g c =
    let is = c.loop-list.lists in
    let k = c.loop-list.list-index in
    let h : k < length is = omega arith in
    let e = get_or is k c.list-item.result in
    record {
      held = held_same g.S.Durable.place is k e c.note.new.self h (get_or_default is k c.list-item.result e h) c.note.ensures.origin (ap left_in c.note.ensures.entries) ∙ c.loop-list.invariant.held;
      noted = below_set (λ i. i.ends ≡ is_removed_in g.S.Durable.place (g.S.Durable.directory c.args.store.now) c.args.partition.now None i) is k c.note.new.self h c.loop-list.invariant.noted
          (c.note.ensures.noted ∙ c.is_removed-ends.ensures ∙ ap (λ o. is_removed_by (g.S.Durable.directory c.args.store.now) c.args.partition.now None (g.S.Durable.place o)) (sym c.note.ensures.origin));
    }
