-- A script's replies, with remarks after some of them.
use Rattle.std.specs.Prelude.{◌≡◌, ◌≢◌, ℕ, List, [], ◌∷◌, ◌++◌, All, Option, Some}
use Rattle.std.specs.List.{flat_map}
use Rattle.std.specs.Io.KnownBytes.{Appends}

-- a line has no line feed in it
abbrev pub IsLine : List ℕ → Type 0
IsLine line = All (λ byte. byte ≢ 10) line

-- a line as a remark: after "# ", and with a line feed
abbrev pub remark : List ℕ → List ℕ
remark line = 35 ∷ 32 ∷ line ++ 10 ∷ []

pub record AreRemarks (text : List ℕ) : Type 0 where
  pub lines : List (List ℕ)
  pub each : All IsLine lines
  pub written : text ≡ flat_map remark lines

-- remarks were added
pub record Remarks (old new : List ℕ) : Type 0 where
  pub added : List ℕ
  pub are : AreRemarks added
  pub adds : new ≡ old ++ added

-- remarks were added, and another is begun
pub record IsRemarking (old new line : List ℕ) : Type 0 where
  pub remarks : Remarks old new
  pub is : IsLine line

-- wherever the remarks began, they go on
abbrev pub GoesOn : List ℕ → List ℕ → List ℕ → List ℕ → Type 0
GoesOn to line to' line' = (old : List ℕ) → IsRemarking old to line → IsRemarking old to' line'

-- a line with its line feed, alone and with the remarks after it
abbrev pub as_line : List ℕ × List ℕ → List ℕ
as_line piece = piece.0 ++ 10 ∷ []

abbrev pub with_remarks : List ℕ × List ℕ → List ℕ
with_remarks piece = piece.0 ++ 10 ∷ piece.1

-- a text is what was printed, with nothing but remarks between its lines
pub record IsExplained (printed text : List ℕ) : Type 0 where
  pub pieces : List (List ℕ × List ℕ)
  pub remarks : All (λ piece. AreRemarks piece.1) pieces
  pub rest : List ℕ
  pub lines : printed ≡ flat_map as_line pieces ++ rest
  pub written : text ≡ flat_map with_remarks pieces ++ rest

-- what a run that prints so has written, explained
pub record Explains (Prints : Option (List ℕ) → Option (List ℕ) → Type 0) (old new : Option (List ℕ)) : Type 0 where
  pub printed : List ℕ
  pub prints : Prints (Some []) (Some printed)
  pub text : List ℕ
  pub explained : IsExplained printed text
  pub added : Appends old new text
