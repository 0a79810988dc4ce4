use Rattle.std.proofs.Common.{◌∙◌, inr, sym, ap₂, Option, ℕ, List}
use Rattle.blob_header.specs.declared.version.BlobVersion.{BlobVersion}
use Rattle.std.specs.Range.{range_inclusive_start, range_inclusive_end}
use Rattle.blob_model.specs.Opening.{Declines}
use Rattle.blob_header.specs.Refusals.{BlobVersionMismatch}
use Rattle.blob_memory.specs.Found.{opening_with}
use Rattle.blob_memory.proofs.Openings.{held_opens, held_declined, held_accepted}
use Rattle.blob_memory.proofs.item.Held.found.Goals as goal

pub returns-then-not-has_version-clause-err : goal.returns-then-not-has_version-clause-err
returns-then-not-has_version-clause-err c = inr (λ p n.
    held_opens p n c.args.is_ended c.args.self.now (range_inclusive_start c.args.versions.now).0 (range_inclusive_end c.args.versions.now).0 c.has_version.ensures.fits
    ∙ held_declined c.args.self.now c.args.is_ended (range_inclusive_start c.args.versions.now).0 (range_inclusive_end c.args.versions.now).0 (sym c.has_version.ensures.within ∙ c.if-not-has_version.true)
    ∙ sym (ap₂ (λ (a b : BlobVersion). Declines (BlobVersionMismatch a.0 b.0 c.args.self.now.version.0)) (c.new.ensures.start ∙ c.start.ensures) (c.new.ensures.end ∙ c.end.ensures)))

pub returns-clause-opening : goal.returns-clause-opening
returns-clause-opening c = λ p n.
    held_opens p n c.args.is_ended c.args.self.now (range_inclusive_start c.args.versions.now).0 (range_inclusive_end c.args.versions.now).0 c.has_version.ensures.fits
    ∙ held_accepted c.args.self.now c.args.is_ended (range_inclusive_start c.args.versions.now).0 (range_inclusive_end c.args.versions.now).0 (sym c.has_version.ensures.within ∙ c.if-not-has_version.false)
    ∙ sym (ap₂ (λ (k : Option ℕ) (v : List ℕ). opening_with k c.args.self.now.layout c.args.self.now.version.0 v) c.then_some.ensures c.in_ok-copy.ensures)
