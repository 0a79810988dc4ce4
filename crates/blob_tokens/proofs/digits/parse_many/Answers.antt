use Rattle.std.proofs.Common.{rules, ◌≡◌, ◌≤◌, ◌<◌, ◌+◌, ◌*◌, ◌%◌, ◌^◌, ℕ, List, length, take, drop, refl, sym, ap, subst, ◌∙◌, arith}
use Rattle.blob_tokens.specs.Digits.{marked}
use Rattle.blob_tokens.proofs.Decimals.{Parsed, front_refused, has_some, made_is, no_number, parsed_bad, parsed_done, parsed_full, parsed_start, parsed_step, too_much}
use Rattle.blob_tokens.proofs.digits.parse_many.Goals as goal

pub returns-then-value-ge-NO_DIGITS : goal.returns-then-value-ge-NO_DIGITS
returns-then-value-ge-NO_DIGITS c =
    let digits : List ℕ = c.args.digits.now in
    let first : c.few-value.result ≡ marked (take (length digits % 8) digits) = c.few-value.ensures ∙ ap marked c.split_at.ensures.front in
    no_number digits (λ n. front_refused digits (length digits % 8) (omega arith) (omega (arith, first)) n.digits.1)

pub loop-rest-init : goal.loop-rest-init
loop-rest-init c =
    let digits : List ℕ = c.args.digits.now in
    let n : ℕ = length digits % 8 in
    let first : c.few-value.result ≡ marked (take n digits) = c.few-value.ensures ∙ ap marked c.split_at.ensures.front in
    let parsed : Parsed digits (drop n digits) (marked (take n digits)) = parsed_start digits n (omega arith) refl (omega (arith, first)) in
    record {
      parsed = subst (λ r. Parsed digits r c.few-value.result) (sym c.split_at.ensures.back) (subst (Parsed digits (drop n digits)) (sym first) parsed);
      small = omega arith;
    }

pub returns-then-read-ge-NO_DIGITS : goal.returns-then-read-ge-NO_DIGITS
returns-then-read-ge-NO_DIGITS c =
    let rest : List ℕ = c.loop-rest.rest.now in
    let block : c.few-read.result ≡ marked (take 8 rest) = c.few-read.ensures ∙ ap marked c.split_at-in-loop-rest.ensures.front in
    parsed_bad c.args.digits.now rest c.loop-rest.value (omega (arith, block)) c.loop-rest.invariant.parsed

pub returns-in_err-checked_mul : goal.returns-in_err-checked_mul
returns-in_err-checked_mul c =
    let rest : List ℕ = c.loop-rest.rest.now in
    let block : c.few-read.result ≡ marked (take 8 rest) = c.few-read.ensures ∙ ap marked c.split_at-in-loop-rest.ensures.front in
    let some : 0 < length rest = has_some rest (λ e. search rules) in
    let full : 2 ^ 64 ≤ c.loop-rest.value * 100000000 = too_much _ _ c.checked_mul.ensures c.in_err-checked_mul.was in
    c.from_residual.ensures
    ∙ parsed_full c.args.digits.now rest c.loop-rest.value (omega (arith, some, c.loop-rest.invariant.parsed.whole)) (omega (arith, block)) c.loop-rest.invariant.parsed (omega (arith, full))

pub returns-in_err-value : goal.returns-in_err-value
returns-in_err-value c =
    let rest : List ℕ = c.loop-rest.rest.now in
    let block : c.few-read.result ≡ marked (take 8 rest) = c.few-read.ensures ∙ ap marked c.split_at-in-loop-rest.ensures.front in
    let some : 0 < length rest = has_some rest (λ e. search rules) in
    let product : c.in_ok-checked_mul.field-0 ≡ c.loop-rest.value * 100000000 = (made_is _ _ _ c.checked_mul.ensures c.in_ok-checked_mul.was).0 in
    let full : 2 ^ 64 ≤ c.in_ok-checked_mul.field-0 + c.few-read.result = too_much _ _ c.checked_add.ensures c.in_err-value.was in
    c.from_residual-in_err-value.ensures
    ∙ parsed_full c.args.digits.now rest c.loop-rest.value (omega (arith, some, c.loop-rest.invariant.parsed.whole)) (omega (arith, block)) c.loop-rest.invariant.parsed (omega (arith, full, product, block))

pub loop-rest-preserved : goal.loop-rest-preserved
loop-rest-preserved c =
    let digits : List ℕ = c.args.digits.now in
    let rest : List ℕ = c.loop-rest.rest.now in
    let value : ℕ = c.loop-rest.value in
    let block : c.few-read.result ≡ marked (take 8 rest) = c.few-read.ensures ∙ ap marked c.split_at-in-loop-rest.ensures.front in
    let some : 0 < length rest = has_some rest (λ e. search rules) in
    let product : c.in_ok-checked_mul.field-0 ≡ value * 100000000 = (made_is _ _ _ c.checked_mul.ensures c.in_ok-checked_mul.was).0 in
    let made = made_is _ _ _ c.checked_add.ensures c.in_ok-value.was in
    let sum : value * 100000000 + marked (take 8 rest) ≡ c.in_ok-value.value = omega (arith, made.0, product, block) in
    let next : Parsed digits (drop 8 rest) (value * 100000000 + marked (take 8 rest)) =
    parsed_step digits rest value (omega (arith, some, c.loop-rest.invariant.parsed.whole)) (omega (arith, block)) c.loop-rest.invariant.parsed in
    record {
      parsed = subst (λ r. Parsed digits r c.in_ok-value.value) (sym c.split_at-in-loop-rest.ensures.back) (subst (Parsed digits (drop 8 rest)) sum next);
      small = made.1;
    }

pub returns : goal.returns
returns c =
    let rest : List ℕ = c.loop-rest.rest.now in
    parsed_done c.args.digits.now rest c.loop-rest.value (omega arith) (search rules) c.loop-rest.invariant.small c.loop-rest.invariant.parsed
