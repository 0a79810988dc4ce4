use Rattle.std.proofs.Common.{◌∙◌, sym, ap, ◌+◌, ◌&&◌, Bool, drop, arith}
use Rattle.std.proofs.lemmas.List.{take_rest}
use Rattle.blob_pending.specs.Contents.{are_zeros}
use Rattle.blob_pending.proofs.Zeros.{follows}
use Rattle.blob_pending.proofs.content.is_of_zeros.Goals as goal

pub returns-then-not-has_32_zeros : goal.returns-then-not-has_32_zeros
returns-then-not-has_32_zeros c =
    let i = c.loop-at.at in
    let bytes = c.args.bytes.now in
    sym (sym c.loop-at.invariant.rest ∙ follows i 32 bytes ∙ ap (λ (front : Bool). front && are_zeros (drop (i + 32) bytes)) (sym c.has_32_zeros.ensures ∙ c.if-not-has_32_zeros.true))

pub loop-at-preserved : goal.loop-at-preserved
loop-at-preserved c =
    let i = c.loop-at.at in
    let bytes = c.args.bytes.now in
    record {
      within = omega arith;
      rest = sym (sym c.loop-at.invariant.rest ∙ follows i 32 bytes ∙ ap (λ (front : Bool). front && are_zeros (drop (i + 32) bytes)) (sym c.has_32_zeros.ensures ∙ c.if-not-has_32_zeros.false));
    }

pub returns : goal.returns
returns c = c.are_few_zeros.ensures ∙ ap are_zeros (take_rest c.args.bytes.now c.loop-at.at) ∙ c.loop-at.invariant.rest
