use Rattle.std.proofs.Common.{◌≡◌, ◌∙◌, ◌+◌, ◌-◌, ℕ, ap, arith, sym}
use Rattle.blob_model.specs.Bytes.{reach}
use Rattle.blob_model.specs.Runs.{is_chosen}
use Rattle.blob_overlay.proofs.Overlays.{reach_gap}
use Rattle.blob_overlay.proofs.overlay.reach_of.Goals as goal

pub loop-count-preserved : goal.loop-count-preserved
loop-count-preserved c =
    let keep = is_chosen c.args.keep.now in
    let left : ℕ = c.loop-count.count - 8 in
    let eight : left + 8 ≡ c.loop-count.count = omega arith in record {
      within = omega (arith, c.loop-count.invariant.within);
      same = sym (reach_gap c.args.offset left 8 keep (λ i l u. c.eight_at.ensures.none (omega arith) i l u))
          ∙ ap (λ n. reach c.args.offset n keep) eight ∙ c.loop-count.invariant.same;
    }
