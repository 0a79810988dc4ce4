use Rattle.std.proofs.Common.{rules, ◌≡◌, ◌∙◌, List, sym, ap, subst}
use Rattle.blob_model.specs.Pending.{Pending, has_barrier}
use Rattle.blob_pending.specs.Blocks.{AreBounded}
use Rattle.blob_pending.specs.Marks.{marks_of, barriers_in}
use Rattle.blob_pending.specs.Views.{views, AreDropped, CountsCovered}
use Rattle.blob_pending.specs.declared.entry.Entry.{Entry}
use Rattle.blob_pending.proofs.incarnation.Incarnation.reserve.Goals as goal

pub add-requires : goal.add-requires
add-requires g c =
    let value : c.deref.result.now ≡ c.args.self.now.entries.items = search rules in
    subst (λ (q : List Entry). AreBounded c.args.self.now.bounds (views q)) (sym value) c.args.self.now.bounded

pub invariant_of-self : goal.invariant_of-self
invariant_of-self g c = record {
  dropped = c.args.self.now.dropped;
  marked = c.args.self.now.marked;
  barred = c.args.self.now.barred;
  queued = c.args.self.now.queued;
  bounded = subst (λ (q : List Entry). AreBounded c.add.new.self (views q)) c.deref.ensures.value c.add.ensures;
  counted = c.args.self.now.counted;
}

pub reserve_ranges-requires : goal.reserve_ranges-requires
reserve_ranges-requires g c = subst (λ (q : List Entry). AreBounded c.add.new.self (views q)) c.deref.ensures.value c.add.ensures

pub invariant_of-self-in-Ranges : goal.invariant_of-self-in-Ranges
invariant_of-self-in-Ranges g c = record {
  dropped = subst (λ (q : List Pending). AreDropped c.args.self.now.front q) (sym c.reserve_ranges.ensures.views) c.args.self.now.dropped;
  barred = c.args.self.now.barred ∙ ap barriers_in (sym c.reserve_ranges.ensures.views);
  marked = c.args.self.now.marked ∙ ap marks_of (sym c.reserve_ranges.ensures.views);
  queued = c.args.self.now.queued ∙ ap has_barrier (sym c.reserve_ranges.ensures.views);
  bounded = subst (λ (q : List Pending). AreBounded c.add.new.self q) (sym c.reserve_ranges.ensures.views) (subst (λ (q : List Entry). AreBounded c.add.new.self (views q)) c.deref.ensures.value c.add.ensures);
  counted = subst (λ (q : List Pending). CountsCovered c.args.self.now.covered q) (sym c.reserve_ranges.ensures.views) c.args.self.now.counted;
}

-- capacity for one more entry
pub invariant_of-self-4 : goal.invariant_of-self-4
invariant_of-self-4 g c =
    let list = c.match-room.self in
    let same : c.reserve_exact.new.self.items ≡ list.entries.items = c.reserve_exact.ensures.items in
    record {
      dropped = subst (λ (q : List Entry). AreDropped list.front (views q)) (sym same) list.dropped;
      barred = list.barred ∙ ap (λ (q : List Entry). barriers_in (views q)) (sym same);
      marked = list.marked ∙ ap (λ (q : List Entry). marks_of (views q)) (sym same);
      queued = list.queued ∙ ap (λ (q : List Entry). has_barrier (views q)) (sym same);
      bounded = subst (λ (q : List Entry). AreBounded list.bounds (views q)) (sym same) list.bounded;
      counted = subst (λ (q : List Entry). CountsCovered list.covered (views q)) (sym same) list.counted;
    }
