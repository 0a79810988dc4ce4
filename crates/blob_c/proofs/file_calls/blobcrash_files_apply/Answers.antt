use Rattle.std.proofs.Common.{◌≡◌, Some, sym, subst, Option}
use Rattle.blob_statuses.specs.declared.ran.TheConstants.{CLOSED}
use Rattle.blob_file_sessions.specs.Exports.{OnHeld}
use Rattle.blob_file_sessions.specs.Held.{files_of}
use Rattle.blob_file_sessions.specs.Replies.{no_reply}
use Rattle.blob_file_sessions.specs.Supplies.{AnswersSupplied}
use Rattle.blob_file_sessions.specs.declared.kept.KeptFiles.{KeptFiles}
use Rattle.blob_c.proofs.file_calls.blobcrash_files_apply.Goals as goal

pub returns : goal.returns
returns c =
    let reply = c.supplied_apply-reply.result in
    let Open : KeptFiles → KeptFiles → Type 0 = λ k k'. AnswersSupplied k c.args.asked.now c.args.path.now c.args.to.now k' reply in
    let made : Open c.in-Some.kept.value c.supplied_apply-reply.new.self =
    subst (λ (k : KeptFiles). Open k c.supplied_apply-reply.new.self) c.deref_mut.ensures.value c.supplied_apply-reply.ensures in
    subst (λ (a : Option KeptFiles). OnHeld a (files_of c.put.new.self) Open (reply ≡ no_reply CLOSED)) c.in-Some.ensures.was
    (subst (λ (b : Option KeptFiles). OnHeld (Some c.in-Some.kept.value) b Open (reply ≡ no_reply CLOSED)) (sym c.put.ensures) made)
