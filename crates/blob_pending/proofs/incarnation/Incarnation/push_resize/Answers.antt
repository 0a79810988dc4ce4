use Rattle.std.proofs.Common.{rules, ◌≡◌, ◌++◌, ◌∷◌, [], List, sym, ◌∙◌, ap, subst, true≢false, refl, arith}
use Rattle.blob_model.specs.Pending.{Pending, has_barrier}
use Rattle.blob_pending.specs.Blocks.{AreBounded}
use Rattle.blob_pending.specs.Marks.{marks_of, barriers_in}
use Rattle.blob_pending.specs.Views.{view, views, AreDropped, CountsCovered}
use Rattle.blob_pending.specs.declared.entry.Entry.{Entry}
use Rattle.blob_pending.specs.declared.entry.Entry.TheVariants as entry
use Rattle.blob_pending.proofs.Bounded.{bounded_push, barrier_resize}
use Rattle.blob_pending.proofs.CutSteps.{views_push}
use Rattle.blob_pending.proofs.Dropping.{dropped_push, barriers_push}
use Rattle.blob_pending.proofs.Left.{counts_push}
use Rattle.blob_pending.proofs.Marking.{marks-push}
use Rattle.blob_pending.proofs.incarnation.Incarnation.push_resize.Goals as goal

pub invariant_of-self : goal.invariant_of-self
invariant_of-self g c =
    let q = c.args.self.now.entries.items in
    let e : Entry = entry.Resize c.args.len in
    let pushed : views c.push.new.self.items ≡ views q ++ view e ∷ [] = views_push q c.push.new.self.items e (search rules) in
    record {
      dropped = subst (λ (r : List Pending). AreDropped c.args.self.now.front r) (sym pushed) (dropped_push c.args.self.now.front (views q) (view e) c.args.self.now.dropped);
      marked = c.args.self.now.marked ∙ sym (ap marks_of pushed ∙ marks-push (views q) (view e) refl);
      barred = omega (arith, c.args.self.now.barred, ap barriers_in pushed, barriers_push (views q) (view e));
      queued = sym (ap has_barrier pushed ∙ barrier_resize (views q) c.args.len);
      bounded = subst (λ (r : List Pending). AreBounded c.args.self.now.bounds r) (sym pushed) (bounded_push c.args.self.now.bounds (views q) (view e) c.args.self.now.bounded);
      counted = subst (λ (r : List Pending). CountsCovered c.args.self.now.covered r) (sym pushed)
          (counts_push c.args.self.now.covered c.args.self.now.covered (views q) (view e) c.args.self.now.counted (λ never. absurd (true≢false never)) (omega arith));
    }
