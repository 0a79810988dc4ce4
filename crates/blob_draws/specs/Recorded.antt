-- What a call records in the log, and how it changes the handle, over a store that injects nothing: the table of `Changes`, part by part.
use Rattle.std.specs.Prelude.{ℕ, Bool, List, [], ◌∷◌, Option}
use Rattle.rand_core.specs.Stream.{Stream}
use Rattle.blob_model.specs.Log.{Entry, Kept}
use Rattle.blob_header.specs.Refusals.{Refusal}
use Rattle.blob_draws.specs.declared.config.Config.{Config}
use Rattle.blob_draws.specs.Changes.{Changes, write_changes, resize_changes}
use Rattle.blob_draws.specs.Faults.{ResizeFate, retention, write_fate}

abbrev pub kept_entries : ℕ → List ℕ → List Entry
kept_entries offset [] = []
kept_entries offset (b ∷ bytes) = Kept offset (b ∷ bytes) ∷ []

-- by the draws of a write
abbrev pub written_by : Config → Stream → Bool → ℕ → List ℕ → Option Refusal → Changes
written_by config stream sync offset bytes answer = write_changes (write_fate config sync offset bytes stream).0 (retention config.write_rate) sync offset bytes answer

-- what a write records, by its answer
abbrev pub recorded_write : Config → ℕ → Stream → Bool → ℕ → List ℕ → Option Refusal → List Entry
recorded_write config number stream sync offset bytes answer = (written_by config stream sync offset bytes answer).entries number

-- a resize that survives, to the size that it reached
abbrev pub recorded_resize : ResizeFate → ℕ → Option Refusal → List Entry
recorded_resize fate len answer = (resize_changes fate len answer).entries 0

-- The live bytes of the inner handle.

abbrev pub live_of_write : Config → Stream → Bool → List ℕ → ℕ → List ℕ → Option Refusal → List ℕ
live_of_write config stream sync live offset bytes answer = (written_by config stream sync offset bytes answer).live live

abbrev pub live_of_resize : ResizeFate → List ℕ → ℕ → Option Refusal → List ℕ
live_of_resize fate live len answer = (resize_changes fate len answer).live live

-- The tracked size.

abbrev pub size_of_write : Config → Stream → Bool → ℕ → ℕ → List ℕ → Option Refusal → ℕ
size_of_write config stream sync size offset bytes answer = (written_by config stream sync offset bytes answer).size size

abbrev pub size_of_resize : ResizeFate → ℕ → ℕ → Option Refusal → ℕ
size_of_resize fate size len answer = (resize_changes fate len answer).size size
