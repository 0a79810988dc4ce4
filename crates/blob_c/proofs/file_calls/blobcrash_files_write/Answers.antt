use Rattle.std.proofs.Common.{◌≡◌, Some, sym, subst, Option}
use Rattle.blob_statuses.specs.declared.ran.TheConstants.{CLOSED}
use Rattle.blob_file_sessions.specs.Exports.{OnHeld}
use Rattle.blob_file_sessions.specs.Held.{files_of}
use Rattle.blob_file_sessions.specs.Supplies.{WritesSupplied}
use Rattle.blob_file_sessions.specs.declared.kept.KeptFiles.{KeptFiles}
use Rattle.blob_c.proofs.file_calls.blobcrash_files_write.Goals as goal

pub returns : goal.returns
returns c =
    let status = c.supplied_write-status.result in
    let Open : KeptFiles → KeptFiles → Type 0 = λ k k'. WritesSupplied k c.args.descriptor c.args.offset c.args.bytes.now k' status in
    let made : Open c.in-Some.kept.value c.supplied_write-status.new.self =
    subst (λ (k : KeptFiles). Open k c.supplied_write-status.new.self) c.deref_mut.ensures.value c.supplied_write-status.ensures in
    subst (λ (a : Option KeptFiles). OnHeld a (files_of c.put.new.self) Open (status ≡ CLOSED)) c.in-Some.ensures.was
    (subst (λ (b : Option KeptFiles). OnHeld (Some c.in-Some.kept.value) b Open (status ≡ CLOSED)) (sym c.put.ensures) made)
