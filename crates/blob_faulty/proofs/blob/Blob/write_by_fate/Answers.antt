use Rattle.std.proofs.Common.{rules, ◌≡◌, Bool, false, true, [], ◌∷◌, Option, Some, None, refl, ap, sym, ◌∙◌, subst, arith}
use Rattle.std.specs.Prelude.{◌⊎◌, is_some, IsSome}
use Rattle.std.proofs.lemmas.Grind.{common_steps}
use Rattle.blob_header.specs.Refusals.{Refusal, error_of, refusal_of}
use Rattle.blob_model.specs.Runs.{runs}
use Rattle.blob_draws.specs.Changes.{lacks_number}
use Rattle.blob_draws.specs.Answers.{or_memory, injected_for, allows_runs}
use Rattle.blob_draws.specs.Faults.{WriteFate, Done, Unsynced, Failed, retention}
use Rattle.blob_draws.specs.Fates.{write_fate_of}
use Rattle.blob_base.specs.HandleCalls.{Write}
use Rattle.blob_faulty.specs.Writes.{FailedBy}
use Rattle.blob_faulty.specs.Asked.{Unasked, InnerMade, AsksWrite, or_failed, kept_calls}
use Rattle.blob_faulty.proofs.Asking.{asked_once, faulted, refused_too}
use Rattle.blob_faulty.proofs.Fronts.{some_refusal}
use Rattle.blob_faulty.proofs.Fated.{done_synced, done_plain, done_unsynced, done_failed, fault_allowed, refusal_allowed, injected_not_failed}
use Rattle.blob_faulty.proofs.Fating.{unsynced_refused, failed_refused, runs_uninjected, reserve_uninjected, of_fate}
use Rattle.blob_faulty.proofs.blob.Blob.write_by_fate.Given.{Over}
use Rattle.blob_faulty.proofs.blob.Blob.write_by_fate.Goals as goal

-- what the step in the place of a write returned, if the write passes it on
same_unsynced : (g : Over) (c : goal.After-from_residual g) → error_of c.write_plain-in-Unsynced.result ≡ error_of c.from_residual.result
same_unsynced g c = first_of (search rules, cc, grind (arith, common_steps))

some_unsynced : (g : Over) (c : goal.After-from_residual g) → IsSome (error_of c.write_plain-in-Unsynced.result)
some_unsynced g c = first_of (search rules, cc, grind (arith, common_steps))

same_failed : (g : Over) (c : goal.After-drop-kept g) → error_of c.lay_kept.result ≡ error_of c.from_residual-in_err-lay_kept-in-Failed.result
same_failed g c = first_of (search rules, cc, grind (arith, common_steps))

some_failed : (g : Over) (c : goal.After-drop-kept g) → IsSome (error_of c.lay_kept.result)
some_failed g c = first_of (search rules, cc, grind (arith, common_steps))

pub returns-in_err-write_plain-in-Unsynced-clause-wrote :
    goal.returns-in_err-write_plain-in-Unsynced-clause-wrote
returns-in_err-write_plain-in-Unsynced-clause-wrote g c =
    let e = c.in_err-write_plain-in-Unsynced.field-0.0 in
    let same : error_of c.from_residual.result ≡ Some (refusal_of e) = first_of (search rules, cc, grind (arith, common_steps)) in
    let is : error_of c.write_plain-in-Unsynced.result ≡ Some (refusal_of e) = same_unsynced g c ∙ same in
    let fate : write_fate_of c.args.fate ≡ Unsynced = ap write_fate_of c.in-Unsynced.is in
    of_fate _ _ _ _ _ _ _ _ _ _ fate same
    (unsynced_refused _ _ _ c.args.sync _ _ (lacks_number (is_some (retention c.args.store.now.config.write_rate)) c.args.store.now.next_write c.args.bytes.now) (g.B.Blob.allows_write c.args.self.now.inner c.args.store.now.inner c.args.offset c.args.bytes.now false)
    (error_of c.write_plain-in-Unsynced.result) (refusal_of e) is
    (λ direct. g.met.B.Blob.uninjected c.args.self.now.inner c.args.store.now.inner c.args.offset c.args.bytes.now false direct) c.write_plain-in-Unsynced.ensures.allowed c.write_plain-in-Unsynced.ensures.recorded)

pub returns-in_err-lay_kept-in-Failed-clause-wrote :
    goal.returns-in_err-lay_kept-in-Failed-clause-wrote
returns-in_err-lay_kept-in-Failed-clause-wrote g c =
    let e = c.in_err-lay_kept-in-Failed.field-0.0 in
    let same : error_of c.from_residual-in_err-lay_kept-in-Failed.result ≡ Some (refusal_of e) = first_of (search rules, cc, grind (arith, common_steps)) in
    let is : error_of c.lay_kept.result ≡ Some (refusal_of e) = same_failed g c ∙ same in
    let fate : write_fate_of c.args.fate ≡ Failed c.deref.result.now = ap write_fate_of c.in-Failed.is ∙ ap Failed (sym c.deref.ensures.value) in
    of_fate _ _ _ _ _ _ _ _ _ _ fate same
    (failed_refused c.deref.result.now _ _ _ c.args.sync _ _ (error_of c.lay_kept.result) (refusal_of e) is
    (λ direct. runs_uninjected (g.B.Blob.allows_write c.args.self.now.inner c.args.store.now.inner) (g.B.Blob.allows_reserve c.args.self.now.inner c.args.store.now.inner) g.B.Blob.is_direct (runs c.args.offset c.args.bytes.now c.deref.result.now) (refusal_of e)
    (λ o b. g.met.B.Blob.uninjected c.args.self.now.inner c.args.store.now.inner o b true direct)
    (λ end. reserve_uninjected _ (g.met.B.Blob.reserve_refused c.args.self.now.inner c.args.store.now.inner end _))
    (subst (λ (a : Option Refusal). or_memory (allows_runs (g.B.Blob.allows_write c.args.self.now.inner c.args.store.now.inner) (g.B.Blob.allows_reserve c.args.self.now.inner c.args.store.now.inner) g.B.Blob.is_direct (runs c.args.offset c.args.bytes.now c.deref.result.now)) a) is c.lay_kept.ensures.allowed))
    c.lay_kept.ensures.laid)

pub returns-then-sync-clause-asked : goal.returns-then-sync-clause-asked
returns-then-sync-clause-asked g c =
    let r = c.write_synced in
    let fate : write_fate_of c.args.fate ≡ Done = ap write_fate_of c.in-Done.is in
    let sync : c.args.sync ≡ true = c.if-sync.true in
    subst (λ (f : WriteFate). AsksWrite g.B.Blob c.args.self.now c.args.store.now r.new.self r.new.store f c.args.sync c.args.offset c.args.bytes.now (error_of r.result)) (sym fate)
    (subst (λ (s : Bool). AsksWrite g.B.Blob c.args.self.now c.args.store.now r.new.self r.new.store Done s c.args.offset c.args.bytes.now (error_of r.result)) (sym sync)
    (asked_once g.B.Blob c.args.self.now c.args.store.now r.new.self r.new.store (Write c.args.offset c.args.bytes.now true) _ r.ensures.asked))

pub returns-else-sync-clause-asked : goal.returns-else-sync-clause-asked
returns-else-sync-clause-asked g c =
    let r = c.write_plain in
    let fate : write_fate_of c.args.fate ≡ Done = ap write_fate_of c.in-Done.is in
    let sync : c.args.sync ≡ false = c.if-sync.false in
    subst (λ (f : WriteFate). AsksWrite g.B.Blob c.args.self.now c.args.store.now r.new.self r.new.store f c.args.sync c.args.offset c.args.bytes.now (error_of r.result)) (sym fate)
    (subst (λ (s : Bool). AsksWrite g.B.Blob c.args.self.now c.args.store.now r.new.self r.new.store Done s c.args.offset c.args.bytes.now (error_of r.result)) (sym sync)
    (asked_once g.B.Blob c.args.self.now c.args.store.now r.new.self r.new.store (Write c.args.offset c.args.bytes.now false) _ r.ensures.asked))

pub returns-in_ok-write_plain-in-Unsynced-clause-asked : goal.returns-in_ok-write_plain-in-Unsynced-clause-asked
returns-in_ok-write_plain-in-Unsynced-clause-asked g c =
    let r = c.write_plain-in-Unsynced in
    let fate : write_fate_of c.args.fate ≡ Unsynced = ap write_fate_of c.in-Unsynced.is in
    rw fate (faulted g.B.Blob c.args.self.now c.args.store.now r.new.self r.new.store (InnerMade g.B.Blob c.args.self.now c.args.store.now r.new.self r.new.store (Write c.args.offset c.args.bytes.now false ∷ []))
    (asked_once g.B.Blob c.args.self.now c.args.store.now r.new.self r.new.store (Write c.args.offset c.args.bytes.now false) None c.in_ok-write_plain-in-Unsynced.ensures.asked))

pub returns-in_err-write_plain-in-Unsynced-clause-asked : goal.returns-in_err-write_plain-in-Unsynced-clause-asked
returns-in_err-write_plain-in-Unsynced-clause-asked g c =
    let r = c.write_plain-in-Unsynced in
    let fate : write_fate_of c.args.fate ≡ Unsynced = ap write_fate_of c.in-Unsynced.is in
    let same : error_of r.result ≡ error_of c.from_residual.result = same_unsynced g c in
    let some : IsSome (error_of r.result) = some_unsynced g c in
    rw fate (subst (λ (a : Option Refusal). Unasked g.B.Blob c.args.self.now c.args.store.now r.new.self r.new.store a ⊎ injected_for (InnerMade g.B.Blob c.args.self.now c.args.store.now r.new.self r.new.store (Write c.args.offset c.args.bytes.now false ∷ [])) a) same
    (refused_too g.B.Blob c.args.self.now c.args.store.now r.new.self r.new.store (InnerMade g.B.Blob c.args.self.now c.args.store.now r.new.self r.new.store (Write c.args.offset c.args.bytes.now false ∷ [])) (error_of r.result) some
    (asked_once g.B.Blob c.args.self.now c.args.store.now r.new.self r.new.store (Write c.args.offset c.args.bytes.now false) _ r.ensures.asked)))

pub returns-in_ok-lay_kept-in-Failed-clause-asked : goal.returns-in_ok-lay_kept-in-Failed-clause-asked
returns-in_ok-lay_kept-in-Failed-clause-asked g c =
    let r = c.lay_kept in
    let fate : write_fate_of c.args.fate ≡ Failed c.deref.result.now = ap write_fate_of c.in-Failed.is ∙ ap Failed (sym c.deref.ensures.value) in
    rw fate (faulted g.B.Blob c.args.self.now c.args.store.now r.new.self r.new.store (or_failed (InnerMade g.B.Blob c.args.self.now c.args.store.now r.new.self r.new.store (kept_calls (runs c.args.offset c.args.bytes.now c.deref.result.now))))
    c.in_ok-lay_kept-in-Failed.ensures.asked)

pub returns-in_err-lay_kept-in-Failed-clause-asked : goal.returns-in_err-lay_kept-in-Failed-clause-asked
returns-in_err-lay_kept-in-Failed-clause-asked g c =
    let r = c.lay_kept in
    let fate : write_fate_of c.args.fate ≡ Failed c.deref.result.now = ap write_fate_of c.in-Failed.is ∙ ap Failed (sym c.deref.ensures.value) in
    let same : error_of r.result ≡ error_of c.from_residual-in_err-lay_kept-in-Failed.result = same_failed g c in
    let some : IsSome (error_of r.result) = some_failed g c in
    rw fate (subst (λ (a : Option Refusal). Unasked g.B.Blob c.args.self.now c.args.store.now r.new.self r.new.store a ⊎ injected_for (or_failed (InnerMade g.B.Blob c.args.self.now c.args.store.now r.new.self r.new.store (kept_calls (runs c.args.offset c.args.bytes.now c.deref.result.now)))) a) same
    (refused_too g.B.Blob c.args.self.now c.args.store.now r.new.self r.new.store (or_failed (InnerMade g.B.Blob c.args.self.now c.args.store.now r.new.self r.new.store (kept_calls (runs c.args.offset c.args.bytes.now c.deref.result.now)))) (error_of r.result) some
    r.ensures.asked))

pub returns-then-sync-clause-failed : goal.returns-then-sync-clause-failed
returns-then-sync-clause-failed g c is =
    let fate : write_fate_of c.args.fate ≡ Done = ap write_fate_of c.in-Done.is in
    let r = c.write_synced in
    subst (λ (f : WriteFate). FailedBy g.S.Durable g.B.Blob c.args.self.now c.args.store.now r.new.self r.new.store f c.args.offset c.args.bytes.now) (sym fate)
    (r.ensures.recorded.refused refl (some_refusal _ _ is))

pub returns-else-sync-clause-failed : goal.returns-else-sync-clause-failed
returns-else-sync-clause-failed g c is =
    let fate : write_fate_of c.args.fate ≡ Done = ap write_fate_of c.in-Done.is in
    let r = c.write_plain in
    subst (λ (f : WriteFate). FailedBy g.S.Durable g.B.Blob c.args.self.now c.args.store.now r.new.self r.new.store f c.args.offset c.args.bytes.now) (sym fate)
    (r.ensures.recorded.refused refl (some_refusal _ _ is))

pub returns-in_err-write_plain-in-Unsynced-clause-failed : goal.returns-in_err-write_plain-in-Unsynced-clause-failed
returns-in_err-write_plain-in-Unsynced-clause-failed g c is =
    let r = c.write_plain-in-Unsynced in
    let fate : write_fate_of c.args.fate ≡ Unsynced = ap write_fate_of c.in-Unsynced.is in
    let same : error_of r.result ≡ error_of c.from_residual.result = same_unsynced g c in
    subst (λ (f : WriteFate). FailedBy g.S.Durable g.B.Blob c.args.self.now c.args.store.now r.new.self r.new.store f c.args.offset c.args.bytes.now) (sym fate)
    (r.ensures.recorded.refused refl (some_refusal (error_of r.result) _ (same ∙ is)))

pub returns-in_err-lay_kept-in-Failed-clause-failed : goal.returns-in_err-lay_kept-in-Failed-clause-failed
returns-in_err-lay_kept-in-Failed-clause-failed g c is =
    let r = c.lay_kept in
    let fate : write_fate_of c.args.fate ≡ Failed c.deref.result.now = ap write_fate_of c.in-Failed.is ∙ ap Failed (sym c.deref.ensures.value) in
    let same : error_of r.result ≡ error_of c.from_residual-in_err-lay_kept-in-Failed.result = same_failed g c in
    subst (λ (f : WriteFate). FailedBy g.S.Durable g.B.Blob c.args.self.now c.args.store.now r.new.self r.new.store f c.args.offset c.args.bytes.now) (sym fate) (r.ensures.front (same ∙ is))

-- What was done is recorded by the outcome.

pub returns-then-sync-clause-wrote : goal.returns-then-sync-clause-wrote
returns-then-sync-clause-wrote g c =
    done_synced _ _ _ _ _ _ _ _ (ap write_fate_of c.in-Done.is) c.if-sync.true (c.requires.some c.if-sync.true) c.write_synced.ensures.recorded

pub returns-else-sync-clause-wrote : goal.returns-else-sync-clause-wrote
returns-else-sync-clause-wrote g c = done_plain _ _ _ _ _ _ _ _ (ap write_fate_of c.in-Done.is) c.if-sync.false c.write_plain.ensures.recorded

pub returns-in_ok-write_plain-in-Unsynced-clause-wrote : goal.returns-in_ok-write_plain-in-Unsynced-clause-wrote
returns-in_ok-write_plain-in-Unsynced-clause-wrote g c = of_fate _ _ _ _ _ _ _ _ _ _ (ap write_fate_of c.in-Unsynced.is) refl (done_unsynced _ _ _ _ _ _ c.in_ok-write_plain-in-Unsynced.ensures.recorded)

pub returns-in_ok-lay_kept-in-Failed-clause-wrote : goal.returns-in_ok-lay_kept-in-Failed-clause-wrote
returns-in_ok-lay_kept-in-Failed-clause-wrote g c =
    of_fate _ _ _ _ _ _ _ _ _ _ (ap write_fate_of c.in-Failed.is ∙ ap Failed (sym c.deref.ensures.value)) refl (done_failed c.deref.result.now _ _ _ _ _ _ c.in_ok-lay_kept-in-Failed.ensures.laid)

pub returns-in_ok-write_plain-in-Unsynced-clause-failed : goal.returns-in_ok-write_plain-in-Unsynced-clause-failed
returns-in_ok-write_plain-in-Unsynced-clause-failed g c is = injected_not_failed is

pub returns-in_ok-lay_kept-in-Failed-clause-failed : goal.returns-in_ok-lay_kept-in-Failed-clause-failed
returns-in_ok-lay_kept-in-Failed-clause-failed g c is = injected_not_failed is

-- And it returns what the outcome allows.

pub returns-then-sync-clause-allowed : goal.returns-then-sync-clause-allowed
returns-then-sync-clause-allowed g c =
    let fate : write_fate_of c.args.fate ≡ Done = ap write_fate_of c.in-Done.is in
    let sync : c.args.sync ≡ true = c.if-sync.true in
    rw fate (rw sync c.write_synced.ensures.allowed)

pub returns-else-sync-clause-allowed : goal.returns-else-sync-clause-allowed
returns-else-sync-clause-allowed g c =
    let fate : write_fate_of c.args.fate ≡ Done = ap write_fate_of c.in-Done.is in
    let sync : c.args.sync ≡ false = c.if-sync.false in
    rw fate (rw sync c.write_plain.ensures.allowed)

pub returns-in_ok-write_plain-in-Unsynced-clause-allowed : goal.returns-in_ok-write_plain-in-Unsynced-clause-allowed
returns-in_ok-write_plain-in-Unsynced-clause-allowed g c = rw (ap write_fate_of c.in-Unsynced.is) (fault_allowed _ _ c.in_ok-write_plain-in-Unsynced.ensures.allowed)

pub returns-in_err-write_plain-in-Unsynced-clause-allowed : goal.returns-in_err-write_plain-in-Unsynced-clause-allowed
returns-in_err-write_plain-in-Unsynced-clause-allowed g c =
    let same : error_of c.write_plain-in-Unsynced.result ≡ error_of c.from_residual.result = same_unsynced g c in
    let some : IsSome (error_of c.write_plain-in-Unsynced.result) = some_unsynced g c in
    let fate : write_fate_of c.args.fate ≡ Unsynced = ap write_fate_of c.in-Unsynced.is in
    rw fate (rw (sym same) (refusal_allowed _ _ _ some c.write_plain-in-Unsynced.ensures.allowed))

pub returns-in_ok-lay_kept-in-Failed-clause-allowed : goal.returns-in_ok-lay_kept-in-Failed-clause-allowed
returns-in_ok-lay_kept-in-Failed-clause-allowed g c =
    let fate : write_fate_of c.args.fate ≡ Failed c.deref.result.now = ap write_fate_of c.in-Failed.is ∙ ap Failed (sym c.deref.ensures.value) in
    rw fate (fault_allowed false (allows_runs (g.B.Blob.allows_write c.args.self.now.inner c.args.store.now.inner) (g.B.Blob.allows_reserve c.args.self.now.inner c.args.store.now.inner) g.B.Blob.is_direct (runs c.args.offset c.args.bytes.now c.deref.result.now)) c.in_ok-lay_kept-in-Failed.ensures.allowed)

pub returns-in_err-lay_kept-in-Failed-clause-allowed : goal.returns-in_err-lay_kept-in-Failed-clause-allowed
returns-in_err-lay_kept-in-Failed-clause-allowed g c =
    let same : error_of c.lay_kept.result ≡ error_of c.from_residual-in_err-lay_kept-in-Failed.result = same_failed g c in
    let fate : write_fate_of c.args.fate ≡ Failed c.deref.result.now = ap write_fate_of c.in-Failed.is ∙ ap Failed (sym c.deref.ensures.value) in
    rw fate (rw (sym same) (refusal_allowed false (allows_runs (g.B.Blob.allows_write c.args.self.now.inner c.args.store.now.inner) (g.B.Blob.allows_reserve c.args.self.now.inner c.args.store.now.inner) g.B.Blob.is_direct (runs c.args.offset c.args.bytes.now c.deref.result.now)) _ (some_failed g c) c.lay_kept.ensures.allowed))
