-- The generator of a laboratory, and words that are inserted before its next one.
use Rattle.std.specs.Prelude.{◌≡◌, ◌++◌, ℕ, List, None}
use Rattle.blob_faulty.specs.Wrapper.{rng_of}
use Rattle.blob_lab_model.specs.Scripted.{Left, scripted_stream}
use Rattle.blob_lab_model.specs.States.{State}
use Rattle.blob_lab_store.specs.LabStands.{LabStandsFor}
use Rattle.blob_lab_store.specs.declared.lab.Lab.{Lab}

-- the given words that are left, and the state of a seed after them, if there is one
abbrev pub generator_of : Lab → Left
generator_of lab = rng_of lab.wrapper

-- These words come first, then those that were left. Only the generator changes.
pub record PushesWords (lab : Lab) (words : List ℕ) (lab' : Lab) : Type 0 where
  pub generator : generator_of lab' ≡ (words ++ (generator_of lab).0, (generator_of lab).1)
  pub stands : (v : State) → LabStandsFor lab v → LabStandsFor lab' (record v { stream = scripted_stream (generator_of lab') })

-- These words come next, and then zeros. Only the generator changes.
abbrev pub SetsWords : Lab → List ℕ → Lab → Type 0
SetsWords lab words lab' = (v : State) → LabStandsFor lab v → LabStandsFor lab' (record v { stream = scripted_stream (words, None) })
