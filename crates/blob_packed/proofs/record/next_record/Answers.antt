use Rattle.std.proofs.Common.{◌≡◌, ◌∷◌, length, rules, arith}
use Rattle.std.proofs.lemmas.Grind.{common_steps}
use Rattle.blob_packed.proofs.Scans.{found_at, nothing_at, passed_at}
use Rattle.blob_packed.proofs.record.next_record.Goals as goal

pub returns-in-Some-first_record-clause-found : goal.returns-in-Some-first_record-clause-found
returns-in-Some-first_record-clause-found c =
    let r = c.in-Some-first_record.record in
    let e = c.in-Some-first_record.ensures in
    found_at c.args.next r.number c.args.bytes.now c.loop-behind.rest.now r.rest.now (r.bytes.now, r.is_settled) e.begins e.number e.bytes e.rest c.loop-behind.invariant.same

pub loop-behind-preserved : goal.loop-behind-preserved
loop-behind-preserved c =
    let is : c.loop-behind.rest.now ≡ c.in-Some.field-0-0.now ∷ c.in-Some.behind.now = search rules in
    record {
      same = passed_at c.args.next c.in-Some.field-0-0.now c.args.bytes.now c.loop-behind.rest.now c.in-Some.behind.now c.in-None.ensures.begins is c.loop-behind.invariant.same;
      short = grind (arith, common_steps);
    }

pub returns-clause-none : goal.returns-clause-none
returns-clause-none c =
    let is : length c.loop-behind.rest.now ≡ 0 = search rules in
    λ _. nothing_at c.args.next c.args.bytes.now c.loop-behind.rest.now is c.loop-behind.invariant.same
