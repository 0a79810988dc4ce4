-- The runs of a failed write that aren't written yet.
use Rattle.std.specs.Prelude.{ℕ, ◌+◌, ◌≤◌, true, List, [], ◌∷◌, length, map, reverse, Option}
use Rattle.blob_model.specs.Holes.{Holes}
use Rattle.blob_model.specs.Live.{live_after}
use Rattle.blob_header.specs.Refusals.{Refusal}
use Rattle.blob_model.specs.Runs.{Run}
use Rattle.blob_faulty.specs.declared.write_runs.Piece.{Piece}

abbrev pub run_of : Piece → Run
run_of p = (p.offset, p.bytes.now)

-- the next run is the last piece
abbrev pub runs_in : List Piece → List Run
runs_in ps = map run_of (reverse ps)

-- the start and the end of each run
abbrev pub extents : List Run → Holes
extents rs = map (λ r. (r.0, r.0 + length r.1)) rs

-- the start of the first run, which is the lowest, or 0 if there is none
abbrev pub first_start : List Run → ℕ
first_start [] = 0
first_start (r ∷ rs) = r.0

abbrev pub EndsWithin : ℕ → Run → Type 0
EndsWithin end r = r.0 + length r.1 ≤ end

-- the live bytes if the first run was rejected
abbrev pub first_after : List ℕ → List Run → Option Refusal → List ℕ
first_after live [] answer = live
first_after live (r ∷ rs) answer = live_after true live r.0 r.1 answer
