-- Names that were forgotten, and numbers from before.
use Rattle.std.specs.Prelude.{◌≡◌, ◌<◌, ℕ, List, ◌∷◌, ◌++◌, Bool, true, false, ◌&&◌, Option, Some, None}
use Rattle.std.specs.Str.{bytes_eq}
use Rattle.blob_header.specs.Refusals.{Refusal}
use Rattle.blob_debt.specs.History.{AdmittedOpen, Call, History, Operation, To, Forget, Skip, Admit, Settle, Clear, events}
use Rattle.blob_debt.specs.Debts.{IsNumbered}

-- whether a call forgets a name
abbrev pub forgets : Call → List ℕ → List ℕ → Bool
forgets (To q m (Admit false g)) p n = bytes_eq q p && bytes_eq m n
forgets (To q m operation) p n = false
forgets (Forget q (Some m)) p n = bytes_eq q p && bytes_eq m n
forgets (Forget q None) p n = bytes_eq q p
forgets (Skip gs ts) p n = false

-- a history in which a name was forgotten after the earlier calls
pub record IsForgottenAfter (h earlier : History) (p n : List ℕ) : Type 0 where
  pub later : History
  pub call : Call
  pub parts : h ≡ later ++ call ∷ earlier
  pub forgotten : forgets call p n ≡ true
  pub numbered : IsNumbered h

-- for each name that was forgotten, and each number that was given before
abbrev pub ForOlder : (History → ℕ) → (History → List ℕ → List ℕ → ℕ → Type 0) → Type 0
ForOlder given holds = (h earlier : History) (p n : List ℕ) → IsForgottenAfter h earlier p n → (number : ℕ) → number < given earlier → holds h p n number

-- an operation on a name changes no name
abbrev pub IsIgnored : History → List ℕ → List ℕ → Operation → Type 0
IsIgnored h p n operation = events (To p n operation ∷ h) ≡ events h

-- a settlement of this token is ignored, whatever it leaves
abbrev pub IgnoresSettlement : History → List ℕ → List ℕ → ℕ → Type 0
IgnoresSettlement h p n token = (dirty : Bool) (failed : Option Refusal) → IsIgnored h p n (Settle token dirty failed)

-- a clear by this generation is ignored, whatever its outcome
abbrev pub IgnoresClear : History → List ℕ → List ℕ → ℕ → Type 0
IgnoresClear h p n generation = (outcome : Option Refusal) → IsIgnored h p n (Clear generation outcome)

-- the open of this name with this number
abbrev pub open_with_number : List ℕ → List ℕ → ℕ → AdmittedOpen
open_with_number p n number = record { partition = p; name = n; number = number }
