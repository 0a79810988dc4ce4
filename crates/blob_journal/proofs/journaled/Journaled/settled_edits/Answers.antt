use Rattle.std.proofs.Common.{◌≡◌, List, None, Some, ap, take, ◌∙◌}
use Rattle.std.specs.Prelude.{slice_get}
use Rattle.std.proofs.Math.Logic.{∥∥₁_elim}
use Rattle.blob_directory.specs.declared.unsettled.Unsettled.{Unsettled}
use Rattle.blob_journal.specs.Found.{told_by}
use Rattle.blob_journal.proofs.Unsettled.{settled_by_first, settled_by_none, settled_prop}
use Rattle.blob_journal.proofs.journaled.Journaled.settled_edits.Goals as goal

pub returns-in-None : goal.returns-in-None
returns-in-None g c =
    let self = c.args.self.now in
    let first : None ≡ slice_get self.unsettled.edits.items 0 = c.in-None.ensures.value ∙ ap (λ (l : List Unsettled). slice_get l 0) c.as_slice.ensures in
    ∥∥₁_elim self.kept (settled_prop (take self.journal.records (told_by self.journal))) (λ k. settled_by_none self.journal.records self.unsettled.edits.items (told_by self.journal) first k.unsettled)

pub returns-in-Some : goal.returns-in-Some
returns-in-Some g c =
    let self = c.args.self.now in
    let first : Some c.in-Some.edit.now ≡ slice_get self.unsettled.edits.items 0 = c.in-Some.ensures.value ∙ ap (λ (l : List Unsettled). slice_get l 0) c.as_slice.ensures in
    ∥∥₁_elim self.kept (settled_prop (take c.in-Some.edit.now.record (told_by self.journal))) (λ k.
    settled_by_first k.records c.in-Some.edit.now self.unsettled.edits.items (told_by self.journal) first k.listed k.unsettled)
