use Rattle.std.proofs.Common.{ap, subst, sym, ◌∙◌, ◌≡◌, rules}
use Rattle.blob_faulty.specs.Wrapper.{size_of}
use Rattle.blob_journal.specs.declared.store.FileBlob.{FileBlob}
use Rattle.blob_fs.specs.Fixed.{AllFixed}
use Rattle.blob_fs.proofs.Fixing.{is_whole}
use Rattle.blob_header.specs.Refusals.{error_of}
use Rattle.blob_journal.specs.Limits.{IsLimit}
use Rattle.blob_fs.proofs.recovery.reopen.Goals as goal

pub returns-clause-whole : goal.returns-clause-whole
returns-clause-whole g c =
    let store = c.open_left.new.store in
    let same = sym c.new-file.ensures.blob in
    is_whole store _ (subst (λ (b : FileBlob). AllFixed store b) same c.in_ok-blob.ensures.fixes) (c.size-synced.ensures ∙ ap (λ (b : FileBlob). size_of b.blob) same)
    c.new-file.ensures.truncations c.new-file.ensures.shown

pub returns-in_err-blob-clause-errors : goal.returns-in_err-blob-clause-errors
returns-in_err-blob-clause-errors g c = λ q sizes.
    let said : error_of c.from_residual.result ≡ error_of c.open_left.result = search rules in
    subst (IsLimit _) (sym said) (c.open_left.ensures.errors q sizes)
