use Rattle.std.proofs.Common.{◌≡◌, ◌∙◌, List, filter, sym, ap, subst}
use Rattle.blob_model.specs.Pending.{Pending, has_barrier}
use Rattle.blob_pending.specs.declared.extent.Extent.{Extent}
use Rattle.blob_pending.specs.Blocks.{AreBoundedBy}
use Rattle.blob_pending.specs.Marks.{marks_of, barriers_in}
use Rattle.blob_pending.specs.Views.{views, is_left, AreDropped, CountsCovered}
use Rattle.blob_pending.proofs.Copying.{views_copied}
use Rattle.blob_pending.proofs.copies.IncarnationClone.clone.Goals as goal

pub invariant_of-result : goal.invariant_of-result
invariant_of-result g c =
    let s = c.args.self.now in
    let q = views s.entries.items in
    let same : views c.in_ok-clone-2.field-0.items ≡ q = views_copied s.entries.items c.in_ok-clone-2.field-0.items c.in_ok-clone-2.ensures.cases.0 in
    let bounds = c.in_ok-clone-4.ensures.cases in
    record {
      dropped = subst (λ (r : List Pending). AreDropped s.front r) (sym same) s.dropped;
      marked = c.in_ok-clone-3.ensures.cases ∙ s.marked ∙ sym (ap marks_of same);
      barred = s.barred ∙ sym (ap barriers_in same);
      queued = s.queued ∙ sym (ap has_barrier same);
      bounded = (
        subst (λ (r : List Pending). AreBoundedBy 64 c.in_ok-clone-4.field-0.blocks.items r) (sym same) (subst (λ (bs : List Extent). AreBoundedBy 64 bs q) (sym bounds.0) s.bounded.0),
        subst (λ (r : List Pending). AreBoundedBy 4096 c.in_ok-clone-4.field-0.groups.items r) (sym same) (subst (λ (bs : List Extent). AreBoundedBy 4096 bs q) (sym bounds.1) s.bounded.1),
      );
      counted = subst (λ (r : List Pending). CountsCovered s.covered r) (sym same) s.counted;
    }

pub returns : goal.returns
returns g c =
    let s = c.args.self.now in
    let same : views c.in_ok-clone-2.field-0.items ≡ views s.entries.items = views_copied s.entries.items c.in_ok-clone-2.field-0.items c.in_ok-clone-2.ensures.cases.0 in
    record { cases = (c.in_ok-clone.ensures.cases, ap (λ (q : List Pending). filter is_left q) same) }
