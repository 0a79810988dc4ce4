use Rattle.std.proofs.Common.{◌≡◌, Some, sym, subst, Option}
use Rattle.blob_statuses.specs.declared.ran.TheConstants.{CLOSED}
use Rattle.blob_sessions.specs.Sessions.{OnHeld, WritesSupplied, kept_of}
use Rattle.blob_sessions.specs.declared.kept.Kept.{Kept}
use Rattle.blob_c.proofs.blobcrash_write.Goals as goal

pub returns : goal.returns
returns c =
    let status = c.supplied_write-status.result in
    let Open : Kept → Kept → Type 0 = λ k k'. WritesSupplied k k' c.args.handle c.args.offset c.args.bytes.now c.args.sync status in
    let made : Open c.in-Some.kept.value c.supplied_write-status.new.self =
    subst (λ (k : Kept). Open k c.supplied_write-status.new.self) c.deref_mut.ensures.value c.supplied_write-status.ensures in
    subst (λ (a : Option Kept). OnHeld a (kept_of c.put.new.self) Open (status ≡ CLOSED)) c.in-Some.ensures.was
    (subst (λ (b : Option Kept). OnHeld (Some c.in-Some.kept.value) b Open (status ≡ CLOSED)) (sym c.put.ensures) made)
