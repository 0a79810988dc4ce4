use Rattle.std.proofs.Common.{◌≡◌, Some, sym, subst, Option}
use Rattle.blob_statuses.specs.declared.ran.TheConstants.{CLOSED}
use Rattle.blob_sessions.specs.Sessions.{OnHeld, ReadsSupplied, kept_of}
use Rattle.blob_sessions.specs.declared.kept.Kept.{Kept}
use Rattle.blob_c.proofs.blobcrash_read.Goals as goal

pub returns : goal.returns
returns c =
    let status = c.supplied_read-status.result in
    let Open : Kept → Kept → Type 0 = λ k k'. ReadsSupplied k k' c.args.handle c.args.offset status c.args.into.now c.supplied_read-status.new.into in
    let made : Open c.in-Some.kept.value c.supplied_read-status.new.self =
    subst (λ (k : Kept). Open k c.supplied_read-status.new.self) c.deref_mut.ensures.value c.supplied_read-status.ensures in
    subst (λ (a : Option Kept). OnHeld a (kept_of c.put.new.self) Open ((status ≡ CLOSED) × (c.supplied_read-status.new.into ≡ c.args.into.now))) c.in-Some.ensures.was
    (subst (λ (b : Option Kept). OnHeld (Some c.in-Some.kept.value) b Open ((status ≡ CLOSED) × (c.supplied_read-status.new.into ≡ c.args.into.now))) (sym c.put.ensures) made)
