-- The words of a session's generator: how many are left, and words that are inserted before them.
use Rattle.std.specs.Prelude.{◌≡◌, ◌⊎◌, ℕ, List, true, is_some}
use Rattle.blob_lab_store.specs.Generators.{PushesWords, generator_of}
use Rattle.blob_lab_store.specs.LabStands.{LabStandsFor}
use Rattle.blob_tree.specs.WordsLeft.{EndsAfter}
use Rattle.blob_lab_model.specs.States.{State}
use Rattle.blob_sessions.specs.declared.kept.Kept.{Kept}
use Rattle.blob_statuses.specs.declared.ran.Ran.{Ran}
use Rattle.blob_statuses.specs.declared.ran.TheConstants.{CLOSED, DONE, ENDLESS, NO_MEMORY}
use Rattle.blob_sessions.specs.declared.session.Session.{Session}
use Rattle.blob_sessions.specs.Sessions.{OnHeld, kept_of}

-- `len` words are left, after which all words are zero; or a seed gives the words after them
pub record TellsWordsLeft (k : Kept) (ran : Ran) : Type 0 where
  pub done : ran.status ≡ DONE → (v : State) → LabStandsFor k.lab v → EndsAfter v.stream ran.len
  pub endless : ran.status ≡ ENDLESS → (ran.len ≡ 0) × (is_some (generator_of k.lab).1 ≡ true)
  pub status : (ran.status ≡ DONE) ⊎ (ran.status ≡ ENDLESS)

-- these words come next; the rest stays as it is
pub record TakesWords (k k' : Kept) (words : List ℕ) (status : ℕ) : Type 0 where
  pub done : status ≡ DONE → PushesWords k.lab words k'.lab × (k' ≡ record k { lab = k'.lab })
  pub no_memory : status ≡ NO_MEMORY → k' ≡ k
  pub known : (status ≡ DONE) ⊎ (status ≡ NO_MEMORY)

-- the same of a session
abbrev pub InsertsWords : Session → Session → List ℕ → ℕ → Type 0
InsertsWords before after words status = OnHeld (kept_of before) (kept_of after) (λ k k'. TakesWords k k' words status) (status ≡ CLOSED)
