use Rattle.std.proofs.Common.{rules, ◌≡◌, true, false, [], ◌∷◌, Option, None, inl, inr, refl, sym, ◌∙◌, ap, subst, arith}
use Rattle.std.specs.Prelude.{◌⊎◌, IsSome}
use Rattle.std.proofs.lemmas.Grind.{common_steps}
use Rattle.blob_base.specs.HandleCalls.{Resize}
use Rattle.blob_header.specs.Refusals.{Refusal, Injected, error_of, refusal_of}
use Rattle.blob_draws.specs.Answers.{injected_for}
use Rattle.blob_draws.specs.Fates.{resize_fate_of}
use Rattle.blob_draws.specs.Faults.{ResizeFate, Resizes, Stays, Reaches}
use Rattle.blob_faulty.specs.Asked.{Unasked, InnerMade, InnerReached, AsksResize}
use Rattle.blob_faulty.proofs.Asking.{once, asked_once, faulted, refused_too}
use Rattle.blob_faulty.proofs.Fronts.{asked_of, some_refusal}
use Rattle.blob_faulty.proofs.Plainly.{same_rest, same_view}
use Rattle.blob_faulty.proofs.Resizing.{done_only, of_fate, of_reaches, of_stays, of_survives, reaches_none, unrecorded_by}
use Rattle.blob_faulty.proofs.blob.Blob.resize_by_fate.Given.{Over}
use Rattle.blob_faulty.proofs.blob.Blob.resize_by_fate.Goals as goal

pub returns-in-Resizes-true-clause-asked : goal.returns-in-Resizes-true-clause-asked
returns-in-Resizes-true-clause-asked g c =
    let fate : resize_fate_of c.args.fate ≡ Resizes true = first_of (search rules, cc, grind (arith, common_steps)) in
    let r = c.resize_pending in
    subst (λ (f : ResizeFate). AsksResize g.B.Blob c.args.self.now c.args.store.now r.new.self r.new.store f c.args.len (error_of r.result)) (sym fate)
    (asked_once g.B.Blob c.args.self.now c.args.store.now r.new.self r.new.store (Resize c.args.len) _ r.ensures.asked)

pub returns-in-Resizes-false-clause-asked : goal.returns-in-Resizes-false-clause-asked
returns-in-Resizes-false-clause-asked g c =
    let fate : resize_fate_of c.args.fate ≡ Resizes false = first_of (search rules, cc, grind (arith, common_steps)) in
    let r = c.resize_unrecorded in
    subst (λ (f : ResizeFate). AsksResize g.B.Blob c.args.self.now c.args.store.now r.new.self r.new.store f c.args.len (error_of r.result)) (sym fate)
    (inr (once g.B.Blob.leaves (Resize c.args.len) _ _ _ _ _ r.ensures.asked))

pub returns-in-Stays-clause-asked : goal.returns-in-Stays-clause-asked
returns-in-Stays-clause-asked g c =
    let fate : resize_fate_of c.args.fate ≡ Stays = ap resize_fate_of c.in-Stays.is in
    rw fate (inr (inl (refl, (refl, refl, refl))))

pub returns-in_ok-resize_pending-in-Reaches-clause-asked : goal.returns-in_ok-resize_pending-in-Reaches-clause-asked
returns-in_ok-resize_pending-in-Reaches-clause-asked g c =
    let r = c.resize_pending-in-Reaches in
    let fate : resize_fate_of c.args.fate ≡ Reaches c.in-Reaches.size = ap resize_fate_of c.in-Reaches.is in
    rw fate (faulted g.B.Blob c.args.self.now c.args.store.now r.new.self r.new.store (InnerMade g.B.Blob c.args.self.now c.args.store.now r.new.self r.new.store (Resize c.in-Reaches.size ∷ []))
    (asked_once g.B.Blob c.args.self.now c.args.store.now r.new.self r.new.store (Resize c.in-Reaches.size) None c.in_ok-resize_pending-in-Reaches.ensures.asked))

-- if that is refused, the resize returns the same error
same_answer : (g : Over) (c : goal.After-from_residual g) → error_of c.resize_pending-in-Reaches.result ≡ error_of c.from_residual.result
same_answer g c = first_of (search rules, cc, grind (arith, common_steps))

refusal : (g : Over) (c : goal.After-from_residual g) → IsSome (error_of c.resize_pending-in-Reaches.result)
refusal g c = first_of (search rules, cc, grind (arith, common_steps))

pub returns-in_err-resize_pending-in-Reaches-clause-asked : goal.returns-in_err-resize_pending-in-Reaches-clause-asked
returns-in_err-resize_pending-in-Reaches-clause-asked g c =
    let r = c.resize_pending-in-Reaches in
    let fate : resize_fate_of c.args.fate ≡ Reaches c.in-Reaches.size = ap resize_fate_of c.in-Reaches.is in
    let same : error_of r.result ≡ error_of c.from_residual.result = same_answer g c in
    let some : IsSome (error_of r.result) = refusal g c in
    rw fate (subst (λ (a : Option Refusal). Unasked g.B.Blob c.args.self.now c.args.store.now r.new.self r.new.store a ⊎ injected_for (InnerMade g.B.Blob c.args.self.now c.args.store.now r.new.self r.new.store (Resize c.in-Reaches.size ∷ [])) a) same
    (refused_too g.B.Blob c.args.self.now c.args.store.now r.new.self r.new.store (InnerMade g.B.Blob c.args.self.now c.args.store.now r.new.self r.new.store (Resize c.in-Reaches.size ∷ [])) (error_of r.result) some
    (asked_once g.B.Blob c.args.self.now c.args.store.now r.new.self r.new.store (Resize c.in-Reaches.size) _ r.ensures.asked)))

-- What is recorded.

pub returns-in-Resizes-true-clause-resized : goal.returns-in-Resizes-true-clause-resized
returns-in-Resizes-true-clause-resized g c =
    let fate : resize_fate_of c.args.fate ≡ Resizes true = first_of (search rules, cc, grind (arith, common_steps)) in
    of_survives _ _ _ _ _ _ fate c.resize_pending.ensures.recorded

pub returns-in-Resizes-false-clause-resized : goal.returns-in-Resizes-false-clause-resized
returns-in-Resizes-false-clause-resized g c =
    let fate : resize_fate_of c.args.fate ≡ Resizes false = first_of (search rules, cc, grind (arith, common_steps)) in
    let r = c.resize_unrecorded in
    of_fate _ _ _ _ _ _ (Resizes false) fate (done_only _ _ _ _ r.result r.ensures.wrote r.ensures.untracked r.ensures.durable (same_rest g.S.Durable g.B.Blob c.args.self.now r.new.self c.args.store.now r.new.store r.ensures.rest))

pub returns-in-Stays-clause-resized : goal.returns-in-Stays-clause-resized
returns-in-Stays-clause-resized g c = of_stays _ _ _ _ (ap resize_fate_of c.in-Stays.is)

pub returns-in_ok-resize_pending-in-Reaches-clause-resized : goal.returns-in_ok-resize_pending-in-Reaches-clause-resized
returns-in_ok-resize_pending-in-Reaches-clause-resized g c = of_reaches _ _ _ _ _ c.in-Reaches.size (ap resize_fate_of c.in-Reaches.is) c.in_ok-resize_pending-in-Reaches.ensures.recorded

pub returns-in_err-resize_pending-in-Reaches-clause-resized : goal.returns-in_err-resize_pending-in-Reaches-clause-resized
returns-in_err-resize_pending-in-Reaches-clause-resized g c =
    let r = c.resize_pending-in-Reaches in
    let e = c.in_err-resize_pending-in-Reaches.field-0.0 in
    let same : error_of r.result ≡ error_of c.from_residual.result = same_answer g c in
    of_fate _ _ _ _ _ _ (Reaches c.in-Reaches.size) (ap resize_fate_of c.in-Reaches.is) (rw (sym same)
    (reaches_none c.in-Reaches.size _ _ _ _ (g.B.Blob.allows_resize c.args.self.now.inner c.args.store.now.inner c.in-Reaches.size) (error_of r.result) (refusal_of e) (same ∙ first_of (search rules, cc))
    (λ direct. g.met.B.Blob.resize_uninjected c.args.self.now.inner c.args.store.now.inner c.in-Reaches.size direct) r.ensures.allowed r.ensures.recorded))

-- What is recorded if a draw fails it.

pub returns-in-Resizes-true-clause-reached : goal.returns-in-Resizes-true-clause-reached
returns-in-Resizes-true-clause-reached g c is = inl (c.resize_pending.ensures.recorded.refused refl (some_refusal _ _ is))

pub returns-in-Resizes-false-clause-reached : goal.returns-in-Resizes-false-clause-reached
returns-in-Resizes-false-clause-reached g c is =
    let r = c.resize_unrecorded in
    inl (unrecorded_by _ _ r.result Injected r.ensures.untracked (same_rest g.S.Durable g.B.Blob c.args.self.now r.new.self c.args.store.now r.new.store r.ensures.rest) is)

pub returns-in-Stays-clause-reached : goal.returns-in-Stays-clause-reached
returns-in-Stays-clause-reached g c is = inl (same_view _).records

pub returns-in_ok-resize_pending-in-Reaches-clause-reached : goal.returns-in_ok-resize_pending-in-Reaches-clause-reached
returns-in_ok-resize_pending-in-Reaches-clause-reached g c is =
    let r = c.resize_pending-in-Reaches in
    let made = once g.B.Blob.leaves (Resize c.in-Reaches.size) None _ _ _ _ (asked_of g.B.Blob c.args.self.now c.args.store.now r.new.self r.new.store c.in_ok-resize_pending-in-Reaches.ensures.asked) in
    inr (subst (λ (f : ResizeFate). InnerReached g.B.Blob c.args.self.now c.args.store.now r.new.self r.new.store f) (sym (ap resize_fate_of c.in-Reaches.is)) made)

pub returns-in_err-resize_pending-in-Reaches-clause-reached : goal.returns-in_err-resize_pending-in-Reaches-clause-reached
returns-in_err-resize_pending-in-Reaches-clause-reached g c is = inl (c.resize_pending-in-Reaches.ensures.recorded.refused refl (refusal g c))
