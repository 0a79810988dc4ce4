-- What files do for the lines of a script, and what is printed.
use Rattle.std.specs.Prelude.{◌≡◌, ◌==◌, ℕ, Bool, true, false, List, [], ◌∷◌, ◌++◌, if◌then◌else◌, codes, slice_index, take, MatchOption, Option, Some, None}
use Rattle.std.specs.Str.{byte}
use Rattle.std.specs.Str.Pattern.{FindsText}
use Rattle.blob_tokens.specs.Tokens.{tokens}
use Rattle.blob_script.specs.Scripts.{lines_of}
use Rattle.blob_fs.specs.Files.{KeepsNames}
use Rattle.blob_file_sessions.specs.Held.{fs_of}
use Rattle.blob_file_sessions.specs.declared.kept.KeptFiles.{KeptFiles}
use Rattle.blob_file_scripts.specs.Answers.{Answers}
use Rattle.blob_file_scripts.specs.CallLines.{Said, said_of}

-- the line without a comment: what is before its first number sign that follows a space
abbrev pub IsCodeOf : List ℕ → List ℕ → Type 0
IsCodeOf line code = (found : Option (ℕ × ℕ)) × FindsText (codes " #") line found × MatchOption found (code ≡ line) (λ at. code ≡ take at.0 line)

-- an empty line or a comment: no token, or a number sign at the start of the first one
abbrev pub is_blank : List (List ℕ) → Bool
is_blank [] = true
is_blank (word ∷ tokens) = slice_index word 0 == byte "#"

-- A line without a call: if it is blank, it changes nothing and has no reply. Otherwise it is a setting, which changes no name.
abbrev pub DoesNoCall : Bool → KeptFiles → KeptFiles → Option (List ℕ) → Type 0
DoesNoCall true k k' reply = (reply ≡ None) × (k' ≡ k)
DoesNoCall false k k' reply = (reply ≡ Some (codes "ok")) × KeepsNames (fs_of k) (fs_of k')

-- a call was made, and this reply to it is printed; or there was none
abbrev pub DoesSaid : Option (Option Said) → Bool → KeptFiles → KeptFiles → Option (List ℕ) → Type 0
DoesSaid None blank k k' reply = ⊥
DoesSaid (Some (Some said)) blank k k' None = ⊥
DoesSaid (Some (Some said)) blank k k' (Some reply) = Answers said k k' [] reply
DoesSaid (Some None) blank k k' reply = DoesNoCall blank k k' reply

-- the same by the tokens of a line
abbrev pub DoesLine : List (List ℕ) → KeptFiles → KeptFiles → Option (List ℕ) → Type 0
DoesLine tokens k k' reply = DoesSaid (said_of tokens) (is_blank tokens) k k' reply

-- a reply is added to the text as a line; if only the last one is printed, it replaces the text
abbrev pub with_reply : Bool → List ℕ → Option (List ℕ) → List ℕ
with_reply last text None = text
with_reply last text (Some reply) = (if last then [] else text) ++ (reply ++ 10 ∷ [])

-- a line was taken
pub record TakesLine (last : Bool) (line : List ℕ) (k k' : KeptFiles) (old new : List ℕ) : Type 0 where
  pub code : List ℕ
  pub is : IsCodeOf line code
  pub reply : Option (List ℕ)
  pub does : DoesLine (tokens code) k k' reply
  pub prints : new ≡ with_reply last old reply

-- lines were taken, in order
abbrev pub TakesLines : Bool → List (List ℕ) → KeptFiles → KeptFiles → List ℕ → List ℕ → Type 0
TakesLines last [] k k' old new = (k' ≡ k) × (new ≡ old)
TakesLines last (line ∷ lines) k k' old new =
    (mid : KeptFiles) × (text : List ℕ) × TakesLine last line k mid old text × TakesLines last lines mid k' text new

-- the first lines of a script were taken, and these are the others
pub record TakesFirst (last : Bool) (script rest : List ℕ) (k k' : KeptFiles) (old new : List ℕ) : Type 0 where
  pub front : List (List ℕ)
  pub lines : lines_of script ≡ front ++ lines_of rest
  pub takes : TakesLines last front k k' old new
