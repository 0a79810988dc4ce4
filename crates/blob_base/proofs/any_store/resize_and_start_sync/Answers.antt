use Rattle.std.proofs.Common.{rules, ◌≡◌, inl, inr, refl, sym, ◌∙◌, subst, Option, Some, None, IsSome, Result, Ok, Err, OnOk, OnErr}
use Rattle.blob_header.specs.declared.error.Error.{Error}
use Rattle.blob_base.specs.Callers.{First, Second}
use Rattle.blob_header.specs.Refusals.{Refusal, error_of, refusal_of}
use Rattle.blob_base.proofs.any_store.resize_and_start_sync.Goals as goal

pub returns-in_err-resize-clause-answer : goal.returns-in_err-resize-clause-answer
returns-in_err-resize-clause-answer g c =
    let e : error_of c.from_residual.result ≡ Some (refusal_of c.in_err-resize.field-0.0) = search rules in
    rw e (First _ c.in_err-resize.ensures.allowed)

pub returns-clause-answer : goal.returns-clause-answer
returns-clause-answer g c =
    let left = c.in_ok-resize.ensures in
    rw c.finish.ensures.outcome (Second c.resize.new.self c.resize.new.store _ left.allowed (left.live, left.place, left.durable, left.directory) c.start_sync-handle.ensures.allowed)

-- if the outcome and the result have the same error, what follows from an Ok outcome follows from an Ok result
if_told : {P : Type 0} (answer outcome : Result (Unit {0}) Error) → error_of answer ≡ error_of outcome → (error_of outcome ≡ None → P) → OnOk answer P
if_told (Ok x) outcome told so = so (sym told)
if_told (Err e) outcome told so = tt

pub returns-clause-durable : goal.returns-clause-durable
returns-clause-durable g c =
    let left = c.in_ok-resize.ensures in
    if_told c.finish.result _ c.finish.ensures.outcome (λ done. c.finish.ensures.durable ∙ c.start_sync-handle.ensures.synced done ∙ rw (left.durable, left.place, left.live) refl)

pub returns-clause-live : goal.returns-clause-live
returns-clause-live g c =
    if_told c.finish.result _ c.finish.ensures.outcome (λ done. c.start_sync-handle.ensures.live ∙ c.in_ok-resize.ensures.live)

pub returns-in_err-resize-clause-memory : goal.returns-in_err-resize-clause-memory
returns-in_err-resize-clause-memory g c =
    let e : error_of c.from_residual.result ≡ Some (refusal_of c.in_err-resize.field-0.0) = search rules in
    λ memory. inl (c.in_err-resize.ensures.memory (sym e ∙ memory))

pub returns-clause-memory : goal.returns-clause-memory
returns-clause-memory g c = λ memory. inr (c.start_sync-handle.ensures.live ∙ c.in_ok-resize.ensures.live)

-- and what follows from an error of the one follows from an error of the other
if_refused : {P : Type 0} (answer outcome : Result (Unit {0}) Error) → error_of answer ≡ error_of outcome → (IsSome (error_of outcome) → P) → OnErr answer P
if_refused (Ok x) outcome told so = tt
if_refused (Err e) outcome told so = so (subst (λ (r : Option Refusal). IsSome r) told refl)

pub returns-clause-err : goal.returns-clause-err
returns-clause-err g c =
    if_refused c.finish.result _ c.finish.ensures.outcome
    (λ some. c.finish.ensures.durable ∙ c.start_sync-handle.ensures.err some ∙ c.in_ok-resize.ensures.durable)
