use Rattle.std.proofs.Common.{rules, Some, None, refl, ap, arith}
use Rattle.blob_tokens.proofs.Decimals.{few_number, has_some}
use Rattle.blob_tokens.proofs.digits.parse.Goals as goal

pub returns-then-value-ge-NO_DIGITS : goal.returns-then-value-ge-NO_DIGITS
returns-then-value-ge-NO_DIGITS c =
    few_number c.args.digits.now None (has_some c.args.digits.now (λ e. search rules)) (omega arith) (λ h. absurd (omega (arith, h))) (λ _. refl)

pub returns : goal.returns
returns c =
    few_number c.args.digits.now (Some c.few-value.result) (has_some c.args.digits.now (λ e. search rules)) (omega arith) (λ _. ap Some c.few-value.ensures)
    (λ h. absurd (omega (arith, h)))
