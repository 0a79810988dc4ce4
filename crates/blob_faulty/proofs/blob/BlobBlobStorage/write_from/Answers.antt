use Rattle.std.proofs.Common.{rules, ◌≡◌, ◌≢◌, ◌+◌, ◌^◌, ◌<◌, [], Bool, true, length, None, Some, arith, ap, subst}
use Rattle.std.proofs.lemmas.Grind.{common_steps}
use Rattle.rand_core.specs.Stream.{Stream}
use Rattle.blob_faulty.proofs.Adding.{nothing_changed}
use Rattle.blob_header.specs.Refusals.{error_of, Memory, OffsetOverflow}
use Rattle.blob_draws.specs.Fates.{has_uncounted_end, write_fate_of}
use Rattle.blob_draws.specs.Faults.{WriteFate, drawn_fate}
use Rattle.blob_faulty.specs.HandleLeaves.{WriteLeaves}
use Rattle.blob_faulty.proofs.WriteLeaving.{write_idle, write_leaves, write_uncounted, write_undrawn}
use Rattle.blob_faulty.proofs.blob.BlobBlobStorage.write_from.Given.{Over}
use Rattle.blob_faulty.proofs.blob.BlobBlobStorage.write_from.Goals as goal

pub returns-then-is_empty-clause-synced : goal.returns-then-is_empty-clause-synced
returns-then-is_empty-clause-synced g c sync =
    let none : c.args.bytes.now ≡ [] = first_of (search rules, grind (arith, common_steps)) in
    nothing_changed _ _ c.args.offset c.args.bytes.now (ap length none)

pub returns-in_err-fate-clause-leaves : goal.returns-in_err-fate-clause-leaves
returns-in_err-fate-clause-leaves g c =
    let memory : error_of c.from_residual.result ≡ Some Memory = first_of (search rules, grind (arith, common_steps)) in
    let some : c.contains-sync.result ≡ true → c.args.bytes.now ≢ [] = first_of (search rules, grind (arith, common_steps)) in
    subst (λ (s : Bool). WriteLeaves g.S.Durable g.B.Blob g.R.Rng.stream c.args.offset c.args.bytes.now s c.args.self.now c.args.store.now (error_of c.from_residual.result) c.args.self.now (record c.args.store.now { rng = c.draw_write.new.rng })) c.contains-sync.ensures
    (write_undrawn g.S.Durable g.B.Blob g.R.Rng.stream c.args.self.now c.args.store.now c.draw_write.new.rng c.contains-sync.result c.args.offset c.args.bytes.now (error_of c.from_residual.result) some memory)

-- what was drawn
drawn : (g : Over) (c : goal.After-write_by_fate g) → write_fate_of c.in_ok-fate.fate ≡ (drawn_fate c.args.store.now.config c.contains-sync.result c.args.offset (length c.args.bytes.now) (g.R.Rng.stream c.args.store.now.rng)).0
drawn g c = ap (λ (d : WriteFate × Stream). d.0) c.in_ok-fate.ensures.ok

left : (g : Over) (c : goal.After-write_by_fate g) → g.R.Rng.stream c.draw_write.new.rng ≡ (drawn_fate c.args.store.now.config c.contains-sync.result c.args.offset (length c.args.bytes.now) (g.R.Rng.stream c.args.store.now.rng)).1
left g c = ap (λ (d : WriteFate × Stream). d.1) c.in_ok-fate.ensures.ok

pub returns-clause-leaves : goal.returns-clause-leaves
returns-clause-leaves g c =
    let r = c.write_by_fate in
    let some : c.contains-sync.result ≡ true → c.args.bytes.now ≢ [] = first_of (search rules, grind (arith, common_steps)) in
    let fits : c.args.offset + length c.args.bytes.now < 2 ^ 64 = first_of (search rules, grind (arith, common_steps)) in
    subst (λ (s : Bool). WriteLeaves g.S.Durable g.B.Blob g.R.Rng.stream c.args.offset c.args.bytes.now s c.args.self.now c.args.store.now (error_of r.result) r.new.self r.new.store) c.contains-sync.ensures
    (write_leaves g.S.Durable g.B.Blob g.R.Rng.stream c.args.self.now r.new.self c.args.store.now r.new.store c.draw_write.new.rng c.contains-sync.result c.args.offset c.args.bytes.now (error_of r.result) (write_fate_of c.in_ok-fate.fate)
    some fits (drawn g c) (left g c) r.ensures.asked r.ensures.wrote r.ensures.failed)

-- A write that draws nothing.

pub returns-then-is_empty-clause-leaves : goal.returns-then-is_empty-clause-leaves
returns-then-is_empty-clause-leaves g c =
    let sync : c.contains-sync.result ≡ true = first_of (search rules, cc) in
    let none : c.args.bytes.now ≡ [] = first_of (search rules, grind (arith, common_steps)) in
    subst (λ (s : Bool). WriteLeaves g.S.Durable g.B.Blob g.R.Rng.stream c.args.offset c.args.bytes.now s c.args.self.now c.args.store.now None c.args.self.now c.args.store.now) c.contains-sync.ensures
    (write_idle g.S.Durable g.B.Blob g.R.Rng.stream c.args.self.now c.args.store.now c.contains-sync.result c.args.offset c.args.bytes.now sync none)

pub returns-in_default-clause-leaves : goal.returns-in_default-clause-leaves
returns-in_default-clause-leaves g c =
    let some : c.contains-sync.result ≡ true → c.args.bytes.now ≢ [] = first_of (search rules, grind (arith, common_steps)) in
    let over : has_uncounted_end c.args.offset c.args.bytes.now ≡ true = first_of (search rules, grind (arith, common_steps)) in
    subst (λ (s : Bool). WriteLeaves g.S.Durable g.B.Blob g.R.Rng.stream c.args.offset c.args.bytes.now s c.args.self.now c.args.store.now (Some OffsetOverflow) c.args.self.now c.args.store.now) c.contains-sync.ensures
    (write_uncounted g.S.Durable g.B.Blob g.R.Rng.stream c.args.self.now c.args.store.now c.contains-sync.result c.args.offset c.args.bytes.now some over)
