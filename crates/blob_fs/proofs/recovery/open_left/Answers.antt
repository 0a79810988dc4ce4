use Rattle.std.proofs.Common.{ℕ, List, arith, subst, ◌≡◌, rules, sym}
use Rattle.blob_journal.specs.Blobs.{HasDurable}
use Rattle.blob_journal.specs.Fixed.{IsOpen}
use Rattle.blob_fs.proofs.Fixing.{all_fixed, but_twice}
use Rattle.blob_header.specs.Refusals.{error_of}
use Rattle.blob_journal.specs.Limits.{IsLimit}
use Rattle.blob_fs.proofs.States.{stored_used}
use Rattle.blob_fs.proofs.recovery.open_left.Goals as goal

pub returns-clause-left : goal.returns-clause-left
returns-clause-left g c =
    let d = c.in_ok-blob.ensures.left in
    let blob = c.in_ok-blob.blob in
    let own : IsOpen c.open_cut.new.store c.args.inode blob = c.blobs.ensures.is_open c.open_cut.new.store c.args.inode blob _ d.has in
    record {
      bytes = d.bytes;
      is = d.is;
      has = subst (λ (l : List ℕ). HasDurable c.sync_file.new.self c.args.inode c.sync_file.new.file l) (c.blobs.ensures.reads blob _ d.has.seen) (c.in_ok-sync_file.ensures.synced c.args.inode own);
      size = d.size;
    }

pub returns-clause-others : goal.returns-clause-others
returns-clause-others g c = λ other below apart.
    let d = c.in_ok-blob.ensures.left in
    c.blobs.ensures.twice c.args.store.now c.open_cut.new.store c.sync_file.new.self other (c.in_ok-blob.ensures.others other below apart)
    (c.in_ok-sync_file.ensures.others c.args.inode _ (omega arith) d.has.is other below apart)

pub returns-clause-still : goal.returns-clause-still
returns-clause-still g c =
    let blob = c.in_ok-blob.blob in
    let own : IsOpen c.open_cut.new.store c.args.inode blob = c.blobs.ensures.is_open c.open_cut.new.store c.args.inode blob _ c.in_ok-blob.ensures.left.has in
    but_twice c.args.inode c.args.store.now c.open_cut.new.store c.sync_file.new.self c.in_ok-blob.ensures.still (c.sync_file.ensures.still.others c.args.inode (omega arith) own)

pub returns-clause-fixes : goal.returns-clause-fixes
returns-clause-fixes g c =
    let blob = c.in_ok-blob.blob in
    let own : IsOpen c.open_cut.new.store c.args.inode blob = c.blobs.ensures.is_open c.open_cut.new.store c.args.inode blob _ c.in_ok-blob.ensures.left.has in
    all_fixed c.blobs.ensures.reads c.open_cut.new.store c.sync_file.new.self c.args.inode blob c.sync_file.new.file own c.in_ok-sync_file.ensures.synced c.in_ok-sync_file.ensures.fixes

pub returns-in_err-blob-clause-errors : goal.returns-in_err-blob-clause-errors
returns-in_err-blob-clause-errors g c = λ q sizes.
    let said : error_of c.from_residual.result ≡ error_of c.open_cut.result = search rules in
    subst (IsLimit _) (sym said) (c.open_cut.ensures.errors q sizes)

pub returns-in_err-sync_file-clause-errors : goal.returns-in_err-sync_file-clause-errors
returns-in_err-sync_file-clause-errors g c = λ q sizes.
    let said : error_of c.from_residual-in_err-sync_file.result ≡ error_of c.sync_file.result = search (rules, c.from_residual-in_err-sync_file.ensures, c.in_err-sync_file.was, c.in_err-sync_file.is, c.branch-sync_file.ensures) in
    subst (IsLimit _) (sym said) (c.sync_file.ensures.errors (c.in_ok-blob.ensures.ready q))

pub returns-clause-faultless : goal.returns-clause-faultless
returns-clause-faultless g c = λ q. (c.sync_file.ensures.uses.ready (c.in_ok-blob.ensures.ready q)).faultless

pub returns-in_err-sync_file-clause-keeps : goal.returns-in_err-sync_file-clause-keeps
returns-in_err-sync_file-clause-keeps g c = stored_used c.open_cut.ensures.keeps c.sync_file.ensures.journal.files c.sync_file.ensures.uses

pub returns-clause-keeps : goal.returns-clause-keeps
returns-clause-keeps g c = stored_used c.open_cut.ensures.keeps c.sync_file.ensures.journal.files c.sync_file.ensures.uses
