use Rattle.std.proofs.Common.{rules, ◌≡◌, inl, inr, sym, ◌∙◌, subst, Bool, Some, None, Result, Ok, Err, OnOk, OnErr}
use Rattle.blob_header.specs.declared.error.Error.{Error}
use Rattle.blob_base.specs.Callers.{First, Second}
use Rattle.blob_model.specs.Durable.{Durable, durable_without}
use Rattle.blob_model.specs.Live.{live_written}
use Rattle.blob_header.specs.Refusals.{Refusal, error_of, refusal_of}
use Rattle.blob_base.proofs.any_store.write_and_remove.Goals as goal

pub returns-in_err-write_at-clause-answer : goal.returns-in_err-write_at-clause-answer
returns-in_err-write_at-clause-answer g c =
    let e : error_of c.from_residual.result ≡ Some (refusal_of c.in_err-write_at.field-0.0) = search rules in
    rw e (First _ (subst (λ (sync : Bool). g.B.Blob.allows_write c.args.blob.now c.args.store.now c.args.offset c.args.bytes sync (Some (refusal_of c.in_err-write_at.field-0.0))) c.requires c.in_err-write_at.ensures.allowed))

pub returns-clause-answer : goal.returns-clause-answer
returns-clause-answer g c =
    let left = c.in_ok-write_at.ensures in
    let allowed = subst (λ (sync : Bool). g.B.Blob.allows_write c.args.blob.now c.args.store.now c.args.offset c.args.bytes sync None) c.requires left.allowed in
    Second c.write_at.new.self c.write_at.new.store _ allowed (left.synced c.requires, left.directory) c.remove.ensures.allowed

pub returns-clause-durable : goal.returns-clause-durable
returns-clause-durable g c = subst (λ (before : Durable). OnOk c.remove.result (g.S.Durable.durable c.remove.new.self ≡ durable_without before c.args.partition.now (Some c.args.name.now))) (c.in_ok-write_at.ensures.synced c.requires) c.remove.ensures.durable

-- by a result: a fact that always holds, one after an error, and one after a known error
always : {P : Type 0} (answer : Result (Unit {0}) Error) → P → OnOk answer P
always (Ok x) p = p
always (Err e) p = tt

left_by : {P Q : Type 0} (answer : Result (Unit {0}) Error) → OnErr answer P → (P → Q) → OnErr answer Q
left_by (Ok x) p so = tt
left_by (Err e) p so = so p

known : {P : Type 0} (answer : Result (Unit {0}) Error) (refusal : Refusal) → error_of answer ≡ Some refusal → OnErr answer P → P
known (Ok x) refusal told p = absurd (never told)
  where
    never : None ≡ Some refusal → ⊥
    never q = cc
known (Err e) refusal told p = p

pub returns-clause-live : goal.returns-clause-live
returns-clause-live g c =
    always c.remove.result
    (subst (λ (sync : Bool). g.B.Blob.live c.write_at.new.self ≡ live_written sync (g.B.Blob.live c.args.blob.now) c.args.offset c.args.bytes) c.requires c.in_ok-write_at.ensures.live)

pub returns-in_err-write_at-clause-memory_live : goal.returns-in_err-write_at-clause-memory_live
returns-in_err-write_at-clause-memory_live g c =
    let e : error_of c.from_residual.result ≡ Some (refusal_of c.in_err-write_at.field-0.0) = search rules in
    λ memory. inl (c.in_err-write_at.ensures.memory (sym e ∙ memory)).0

pub returns-clause-memory_live : goal.returns-clause-memory_live
returns-clause-memory_live g c =
    λ memory. inr
    (subst (λ (sync : Bool). g.B.Blob.live c.write_at.new.self ≡ live_written sync (g.B.Blob.live c.args.blob.now) c.args.offset c.args.bytes) c.requires c.in_ok-write_at.ensures.live)

pub returns-in_err-write_at-clause-memory : goal.returns-in_err-write_at-clause-memory
returns-in_err-write_at-clause-memory g c =
    let e : error_of c.from_residual.result ≡ Some (refusal_of c.in_err-write_at.field-0.0) = search rules in
    λ memory. inl (c.in_err-write_at.ensures.memory (sym e ∙ memory)).1

pub returns-clause-memory : goal.returns-clause-memory
returns-clause-memory g c =
    λ memory. inr ((known c.remove.result _ memory c.remove.ensures.err).1 ∙ c.in_ok-write_at.ensures.synced c.requires)

pub returns-in_err-write_at-clause-direct : goal.returns-in_err-write_at-clause-direct
returns-in_err-write_at-clause-direct g c =
    λ direct. by_result c.from_residual.result (inl (c.in_err-write_at.ensures.direct_durable direct))
  where
    by_result : {P : Type 0} (answer : Result (Unit {0}) Error) → P → OnErr answer P
    by_result (Ok x) p = tt
    by_result (Err e) p = p

pub returns-clause-direct : goal.returns-clause-direct
returns-clause-direct g c =
    λ direct. left_by c.remove.result c.remove.ensures.err (λ left. inr (left.1 ∙ c.in_ok-write_at.ensures.synced c.requires))

pub returns-clause-err : goal.returns-clause-err
returns-clause-err g c = left_by c.remove.result c.remove.ensures.err (λ left. left.0 ∙ c.in_ok-write_at.ensures.directory)
