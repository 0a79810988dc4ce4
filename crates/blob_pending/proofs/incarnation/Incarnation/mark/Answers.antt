use Rattle.std.proofs.Common.{rules, ◌≡◌, ◌++◌, ◌∷◌, [], List, ℕ, sym, ◌∙◌, ap, subst, true≢false, arith}
use Rattle.blob_model.specs.Pending.{Pending, Marker, has_barrier}
use Rattle.blob_pending.specs.Blocks.{AreBounded}
use Rattle.blob_pending.specs.Marks.{marks_of, barriers_in}
use Rattle.blob_pending.specs.Views.{views, AreDropped, CountsCovered}
use Rattle.blob_pending.specs.declared.entry.Entry.TheVariants as entry
use Rattle.blob_pending.proofs.Bounded.{bounded_push, barrier_mark}
use Rattle.blob_pending.proofs.CutSteps.{views_push}
use Rattle.blob_pending.proofs.Dropping.{dropped_push, barriers_push}
use Rattle.blob_pending.proofs.Left.{counts_push}
use Rattle.blob_pending.proofs.Marking.{marks-mark}
use Rattle.blob_pending.proofs.incarnation.Incarnation.mark.Goals as goal

pub invariant_of-self : goal.invariant_of-self
invariant_of-self g c =
    let q = views c.args.self.now.entries.items in
    let pushed : views c.push-2.new.self.items ≡ q ++ Marker c.args.number ∷ [] = views_push c.args.self.now.entries.items c.push-2.new.self.items (entry.Marker c.args.number) (search rules) in
    record {
      dropped = subst (λ (r : List Pending). AreDropped c.args.self.now.front r) (sym pushed) (dropped_push c.args.self.now.front q (Marker c.args.number) c.args.self.now.dropped);
      marked = c.push.ensures ∙ ap (λ (ms : List ℕ). ms ++ c.args.number ∷ []) c.args.self.now.marked ∙ sym (ap marks_of pushed ∙ marks-mark q c.args.number);
      barred = omega (arith, c.args.self.now.barred, ap barriers_in pushed, barriers_push q (Marker c.args.number));
      queued = c.args.self.now.queued ∙ sym (ap has_barrier pushed ∙ barrier_mark q c.args.number);
      bounded = subst (λ (r : List Pending). AreBounded c.args.self.now.bounds r) (sym pushed) (bounded_push c.args.self.now.bounds q (Marker c.args.number) c.args.self.now.bounded);
      counted = subst (λ (r : List Pending). CountsCovered c.args.self.now.covered r) (sym pushed)
          (counts_push c.args.self.now.covered c.args.self.now.covered q (Marker c.args.number) c.args.self.now.counted (λ never. absurd (true≢false never)) (omega arith));
    }
