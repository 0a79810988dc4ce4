-- A word that isn't in the rows of a table, row by row.
use Rattle.std.proofs.Common.{◌≡◌, ◌≢◌, ℕ, List, Bool, None, if◌then◌else◌, ap, ◌∙◌}
use Rattle.std.proofs.lemmas.Bool.{false_from_ne_true}
use Rattle.std.proofs.lemmas.Slice.Eq.{bytes_eq-Decides}
use Rattle.std.specs.Str.{bytes_eq}
use Rattle.blob_tokens.specs.Forms.{Form}

-- the row has another word
pub passes : {X : Type 0} (word row : List ℕ) (here after : Form X) (tokens : List (List ℕ)) → word ≢ row → (if bytes_eq word row then here else after) tokens ≡ after tokens
passes word row here after tokens other =
    ap (λ (b : Bool). (if b then here else after) tokens) (false_from_ne_true (bytes_eq word row) (λ e. other ((bytes_eq-Decides word row).0 e)))

-- the row has another word, and the rows after it don't have this one either
pub passed : {X : Type 0} (word row : List ℕ) (here after : Form X) (tokens : List (List ℕ)) → word ≢ row → after tokens ≡ None
    → (if bytes_eq word row then here else after) tokens ≡ None
passed word row here after tokens other none = passes word row here after tokens other ∙ none
