use Rattle.std.proofs.Common.{◌≡◌, Some, sym, subst, Option}
use Rattle.blob_sessions.specs.Sessions.{stopped}
use Rattle.blob_statuses.specs.declared.ran.TheConstants.{CLOSED}
use Rattle.blob_file_sessions.specs.Exports.{OnHeld}
use Rattle.blob_file_sessions.specs.Held.{files_of}
use Rattle.blob_file_sessions.specs.Supplies.{ReadsSupplied}
use Rattle.blob_file_sessions.specs.declared.kept.KeptFiles.{KeptFiles}
use Rattle.blob_c.proofs.file_calls.blobcrash_files_read.Goals as goal

pub returns : goal.returns
returns c =
    let ran = c.supplied_read-ran.result in
    let old = c.args.into.now in
    let new = c.supplied_read-ran.new.into in
    let Open : KeptFiles → KeptFiles → Type 0 = λ k k'. ReadsSupplied k c.args.descriptor c.args.offset old new k' ran in
    let made : Open c.in-Some.kept.value c.supplied_read-ran.new.self =
    subst (λ (k : KeptFiles). Open k c.supplied_read-ran.new.self) c.deref_mut.ensures.value c.supplied_read-ran.ensures in
    subst (λ (a : Option KeptFiles). OnHeld a (files_of c.put.new.self) Open ((ran ≡ stopped CLOSED) × (new ≡ old))) c.in-Some.ensures.was
    (subst (λ (b : Option KeptFiles). OnHeld (Some c.in-Some.kept.value) b Open ((ran ≡ stopped CLOSED) × (new ≡ old))) (sym c.put.ensures) made)
