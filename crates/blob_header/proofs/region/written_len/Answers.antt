use Rattle.std.proofs.Common.{◌≡◌, ◌-◌, replicate, ap, ◌∙◌, arith}
use Rattle.std.proofs.lemmas.Slice.Eq.{slice_eq-Decides}
use Rattle.std.proofs.lemmas.Bool.Decides.{Decides-eqb}
use Rattle.blob_header.proofs.Fronts.{more_zeros}
use Rattle.blob_header.proofs.region.written_len.Goals as goal

pub loop-len-preserved : goal.loop-len-preserved
loop-len-preserved c =
    let size : 256 ≡ c.loop-len.len - (c.loop-len.len - 256) = omega arith in
    let block = (slice_eq-Decides Decides-eqb _ _ c.eq.result c.eq.ensures).0 c.if-eq.true ∙ ap (λ n. replicate n 0) size in
    record {
      within = omega arith;
      zeros = more_zeros c.args.bytes.now (c.loop-len.len - 256) c.loop-len.len (omega arith) block c.loop-len.invariant.zeros;
    }
