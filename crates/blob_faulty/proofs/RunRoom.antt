-- Capacity for the runs of a failed write.
use Rattle.std.proofs.Common.{◌≡◌, ℕ, suc, ◌+◌, List, [], ◌∷◌, length, reverse, All, ◌∙◌, arith}
use Rattle.std.proofs.lemmas.List.{length-map, length-reverse}
use Rattle.blob_model.specs.Holes.{AreApart}
use Rattle.blob_model.specs.Runs.{Run, AreRunsApart}
use Rattle.blob_faulty.specs.declared.write_runs.Piece.{Piece}
use Rattle.blob_draws.specs.Answers.{last_end}
use Rattle.blob_faulty.specs.Pieces.{run_of, runs_in, extents, first_start, EndsWithin}
use Rattle.blob_faulty.proofs.FailedSteps.{end_by_last}
use Rattle.blob_pending.specs.Rooms.{AreWithin}

-- runs that are apart
apart_within : (from end : ℕ) (rs : List Run) → AreRunsApart from rs → All (EndsWithin end) rs → AreApart from (extents rs) end
apart_within from end [] apart ends = tt
apart_within from end (r ∷ rs) apart ends =
    (apart.0, omega (arith, apart.1), ends 0 r (omega arith), apart_within (suc (r.0 + length r.1)) end rs apart.2 (λ k d l. ends (suc k) d (omega arith)))

from_first : (rs : List Run) → AreRunsApart 0 rs → AreRunsApart (first_start rs) rs
from_first [] apart = tt
from_first (r ∷ rs) apart = (omega arith, apart.1, apart.2)

pub sooner : (from : ℕ) (rs : List Run) → AreRunsApart from rs → AreRunsApart 0 rs
sooner from [] apart = tt
sooner from (r ∷ rs) apart = (omega arith, apart.1, apart.2)

extent : Run → ℕ × ℕ
extent r = (r.0, r.0 + length r.1)

pub runs_within : (ps : List Piece) → AreRunsApart 0 (runs_in ps) → AreWithin (first_start (runs_in ps)) (last_end 0 (runs_in ps)) (length ps) (extents (runs_in ps))
unfolding extent
runs_within ps apart = record {
  few = let len : length (extents (runs_in ps)) ≡ length ps = length-map (runs_in ps) extent ∙ length-map (reverse ps) run_of ∙ length-reverse ps in omega arith;
  apart = apart_within (first_start (runs_in ps)) (last_end 0 (runs_in ps)) (runs_in ps) (from_first (runs_in ps) apart) (end_by_last 0 0 (runs_in ps) apart);
}
