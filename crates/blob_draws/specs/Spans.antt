-- Runs of a write by their positions.
use Rattle.std.specs.Prelude.{◌≡◌, ℕ, ◌+◌, ◌-◌, ◌<◌, ◌≤◌, All, Bool, List, length, map, reverse, take, drop, slice_index}
use Rattle.blob_model.specs.Runs.{Run, runs, with_byte}
use Rattle.blob_draws.specs.declared.runs.Span.{Span}

-- the run of a write at offset that a span is
abbrev pub piece : ℕ → List ℕ → Span → Run
piece offset bytes s = (offset + s.start, take (s.end - s.start) (drop s.start bytes))

abbrev pub pieces : ℕ → List ℕ → List Span → List Run
pieces offset bytes ss = map (piece offset bytes) ss

-- they are the maximal runs of the chosen bytes of a write, wherever it is and whatever its bytes are
abbrev pub AreRuns : List Bool → List Span → Type 0
AreRuns chosen ss = (offset : ℕ) (bytes : List ℕ) → length bytes ≡ length chosen → pieces offset bytes ss ≡ runs offset bytes chosen

abbrev pub ends_by : ℕ → Span → Type 0
ends_by end s = s.end ≤ end

-- a selected position is added before all runs, of which the lowest is last in the list
abbrev pub JoinsRuns : ℕ → List Span → List Span → Type 0
JoinsRuns position old new = (offset : ℕ) (bytes : List ℕ) → position < length bytes
    → pieces offset bytes (reverse new) ≡ with_byte (offset + position) (slice_index bytes position) (pieces offset bytes (reverse old))

-- if all spans ended by an end after this position, they still do
abbrev pub KeepsEnds : ℕ → List Span → List Span → Type 0
KeepsEnds position old new = (end : ℕ) → position < end → All (ends_by end) old → All (ends_by end) new
