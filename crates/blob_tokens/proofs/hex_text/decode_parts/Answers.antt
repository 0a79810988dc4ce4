use Rattle.std.proofs.Common.{◌≡◌, ◌++◌, ap, subst, sym, ◌∙◌, arith, rules}
use Rattle.std.specs.Prelude.{IsErr}
use Rattle.hex.specs.Hex.{decode_pairs}
use Rattle.blob_tokens.proofs.HexParts.{Parts, parts_step, parts_bad, parts_done, was_ok, was_err}
use Rattle.blob_tokens.proofs.hex_text.decode_parts.Goals as goal

pub returns-then-not-decode_pairs-clause-bad : goal.returns-then-not-decode_pairs-clause-bad
returns-then-not-decode_pairs-clause-bad c =
    let inv = c.loop-rest.invariant in
    let bad = was_err (decode_pairs 0 c.split_at.result.0.now) _ c.decode_pairs.result c.decode_pairs.ensures c.if-not-decode_pairs.true in
    λ _. parts_bad c.args.digits.now c.loop-rest.rest.now c.loop-rest.bytes.items c.min.result (omega (arith, c.min.ensures, inv.even)) (omega (arith, c.min.ensures))
    (subst (λ t. IsErr (decode_pairs 0 t)) c.split_at.ensures.front bad) inv

pub loop-rest-preserved : goal.loop-rest-preserved
loop-rest-preserved c =
    let inv = c.loop-rest.invariant in
    let part = c.decode_pairs.new.bytes in
    let good = was_ok (decode_pairs 0 c.split_at.result.0.now) part c.decode_pairs.result c.decode_pairs.ensures c.if-not-decode_pairs.false in
    let items : c.extend_from_slice.new.self.items ≡ c.loop-rest.bytes.items ++ part = search rules in
    let next = parts_step c.args.digits.now c.loop-rest.rest.now c.loop-rest.bytes.items part c.min.result (omega (arith, c.min.ensures, inv.even)) (omega (arith, c.min.ensures))
    (ap (decode_pairs 0) (sym c.split_at.ensures.front) ∙ good) inv in
    subst (λ xs. Parts c.args.digits.now xs c.extend_from_slice.new.self.items) (sym c.split_at.ensures.back)
    (subst (Parts c.args.digits.now _) (sym items) next)

pub returns-clause-ok : goal.returns-clause-ok
returns-clause-ok c = parts_done c.args.digits.now c.loop-rest.rest.now c.loop-rest.bytes.items (search rules) c.loop-rest.invariant
