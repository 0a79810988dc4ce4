use Rattle.std.proofs.Common.{◌≡◌, Some, refl, sym, subst, Option}
use Rattle.blob_sessions.specs.DurableBlobs.{CopiesDigest}
use Rattle.blob_sessions.specs.Sessions.{IsClosed, OnHeld, kept_of}
use Rattle.blob_sessions.specs.declared.kept.Kept.{Kept}
use Rattle.blob_c.proofs.blobcrash_audit.Goals as goal

pub returns : goal.returns
returns c =
    let v : Kept = c.in-Some.kept.value in
    let ran = c.audit-ran.result in
    let old = c.args.into.now in
    let new = c.audit-ran.new.into in
    let copies : CopiesDigest v ran old new = subst (λ (k : Kept). CopiesDigest k ran old new) c.deref.ensures c.audit-ran.ensures in
    let held : OnHeld (Some v) (Some v) (λ k k'. (k' ≡ k) × CopiesDigest k ran old new) (IsClosed ran old new) = (refl, copies) in
    subst (λ (a : Option Kept). OnHeld a (kept_of c.put.new.self) (λ k k'. (k' ≡ k) × CopiesDigest k ran old new) (IsClosed ran old new)) c.in-Some.ensures.was
    (subst (λ (b : Option Kept). OnHeld (Some v) b (λ k k'. (k' ≡ k) × CopiesDigest k ran old new) (IsClosed ran old new)) (sym c.put.ensures) held)
