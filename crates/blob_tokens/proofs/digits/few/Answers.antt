use Rattle.std.proofs.Common.{◌≡◌, ◌-◌, ◌∙◌, length, take, drop, ap, arith}
use Rattle.blob_tokens.specs.Digits.{marked}
use Rattle.blob_tokens.proofs.Decimals.{marked_split}
use Rattle.blob_tokens.proofs.digits.few.Goals as goal

pub returns : goal.returns
returns c =
    let digits = c.args.digits.now in
    let split = marked_split (length digits - 4) digits (omega arith) in
    let front : c.short-2.result ≡ marked (take (length digits - 4) digits) = c.short-2.ensures.value ∙ ap marked c.split_at.ensures.front in
    let back : c.four.result ≡ marked (drop (length digits - 4) digits) = c.four.ensures.value ∙ ap marked c.split_at.ensures.back in
    omega (arith, split, front, back)
