-- Text that is appended in steps.
use Rattle.std.proofs.Common.{◌≡◌, ℕ, List, [], ◌++◌, sym, ap, ◌∙◌, append_assoc, append-nil}
use Rattle.blob_file_scripts.specs.ReplyLines.{Appends}

pub appends_none : (old new : List ℕ) → new ≡ old → Appends old new
appends_none old new same = record { added = []; is = same ∙ sym (append-nil old) }

pub appends_more : (old mid new added : List ℕ) → Appends old mid → new ≡ mid ++ added → Appends old new
appends_more old mid new added before is =
    record { added = before.added ++ added; is = is ∙ ap (λ text. text ++ added) before.is ∙ append_assoc old before.added added }

pub appends_both : (old mid new : List ℕ) → Appends old mid → Appends mid new → Appends old new
appends_both old mid new before after = appends_more old mid new after.added before after.is
