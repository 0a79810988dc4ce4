use Rattle.std.proofs.Common.{◌≡◌, arith, drop}
use Rattle.blob_fs.specs.Bytes.{common_length}
use Rattle.blob_fs.proofs.Cutting.{common_past_seen}
use Rattle.blob_fs.proofs.truncations.kept_length.Goals as goal

pub returns-else-at-live : goal.returns-else-at-live
returns-else-at-live c =
    let at = c.loop-at.at in
    let none : common_length (drop at c.args.found.now) (drop at c.args.live.now) ≡ 0 = common_past_seen c.args.found.now c.args.live.now at (omega (arith, c.if-at-live.false)) in
    omega (arith, none, c.loop-at.invariant)
