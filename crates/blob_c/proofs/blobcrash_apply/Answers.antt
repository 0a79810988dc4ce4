use Rattle.std.proofs.Common.{◌≡◌, Some, sym, subst, Option}
use Rattle.blob_statuses.specs.declared.ran.TheConstants.{CLOSED}
use Rattle.blob_sessions.specs.Applying.{AppliesSupplied}
use Rattle.blob_sessions.specs.Sessions.{OnHeld, kept_of}
use Rattle.blob_sessions.specs.Typed.{without_reply}
use Rattle.blob_sessions.specs.declared.kept.Kept.{Kept}
use Rattle.blob_c.proofs.blobcrash_apply.Goals as goal

pub returns : goal.returns
returns c =
    let reply = c.supplied_apply-reply.result in
    let Open : Kept → Kept → Type 0 = λ k k'. AppliesSupplied k k' c.args.asked.now c.args.partition.now c.args.name.now reply in
    let made : Open c.in-Some.kept.value c.supplied_apply-reply.new.self =
    subst (λ (k : Kept). Open k c.supplied_apply-reply.new.self) c.deref_mut.ensures.value c.supplied_apply-reply.ensures in
    subst (λ (a : Option Kept). OnHeld a (kept_of c.put.new.self) Open (reply ≡ without_reply CLOSED)) c.in-Some.ensures.was
    (subst (λ (b : Option Kept). OnHeld (Some c.in-Some.kept.value) b Open (reply ≡ without_reply CLOSED)) (sym c.put.ensures) made)
