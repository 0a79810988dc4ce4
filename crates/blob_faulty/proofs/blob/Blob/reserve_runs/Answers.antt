use Rattle.std.proofs.Common.{rules, ℕ, length, sym, subst, arith}
use Rattle.std.proofs.lemmas.Grind.{common_steps}
use Rattle.blob_draws.specs.Answers.{last_end}
use Rattle.blob_faulty.specs.Pieces.{runs_in, extents}
use Rattle.blob_pending.specs.Rooms.{AreWithin}
use Rattle.blob_faulty.proofs.RunRoom.{runs_within}
use Rattle.blob_faulty.proofs.blob.Blob.reserve_runs.Goals as goal

pub returns-clause-ranges : goal.returns-clause-ranges
returns-clause-ranges g c =
    let ps = c.args.pieces.now in
    record {
      at = first_of (search rules, grind (arith, common_steps));
      inside = first_of (search rules, grind (arith, common_steps));
      ranges = λ d. c.in_ok-list.ensures.ok.here.room d (extents (runs_in ps))
          (subst (λ (end : ℕ). AreWithin c.lowest_start-start.result end (length ps) (extents (runs_in ps))) (sym c.highest_end-end.ensures)
          (subst (λ (start : ℕ). AreWithin start (last_end 0 (runs_in ps)) (length ps) (extents (runs_in ps))) (sym c.lowest_start-start.ensures) (runs_within ps c.requires)));
    }
