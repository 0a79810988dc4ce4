use Rattle.std.proofs.Common.{◌≡◌, List, ℕ, ap, length, subst, sym, take, ◌∙◌, rules}
use Rattle.blob_journal.specs.Blobs.{HasDurable, IsOpen, bytes_of}
use Rattle.blob_fs.proofs.Fixing.{may_twice}
use Rattle.blob_header.specs.Refusals.{error_of}
use Rattle.blob_journal.specs.Limits.{IsLimit}
use Rattle.blob_fs.proofs.States.{uses_twice}
use Rattle.blob_fs.proofs.recovery.cut_to.Goals as goal

pub returns-clause-cut : goal.returns-clause-cut
returns-clause-cut g c = λ inode bytes low h.
    let r = c.in_ok-resize_file.ensures.resized inode bytes h.is in
    let s = r.1 bytes h.seen in
    let file = c.resize_file.new.file in
    let still : IsOpen c.resize_file.new.self inode file = record { durable = bytes; is = r.0; tracked = s.size ∙ ap (λ (l : List ℕ). length l) (sym s.live) } in
    let cut : bytes_of file ≡ take c.args.length bytes = c.blobs.ensures.reads file _ s ∙ c.blobs.ensures.shortened bytes c.args.length low in
    subst (λ (l : List ℕ). HasDurable c.sync_file.new.self inode c.sync_file.new.file l) cut (c.in_ok-sync_file.ensures.synced inode still)

pub returns-clause-others : goal.returns-clause-others
returns-clause-others g c = λ inode bytes below is other there apart.
    let r = c.in_ok-resize_file.ensures.resized inode bytes is in
    c.blobs.ensures.twice c.args.store.now c.resize_file.new.self c.sync_file.new.self other (c.in_ok-resize_file.ensures.same other)
    (c.in_ok-sync_file.ensures.others inode bytes below r.0 other there apart)

pub returns-clause-still : goal.returns-clause-still
returns-clause-still g c = may_twice _ _ c.args.store.now c.resize_file.new.self c.sync_file.new.self c.args.blob.now c.resize_file.new.file c.sync_file.new.file c.resize_file.ensures.still c.sync_file.ensures.still

pub returns-in_err-resize_file-clause-errors : goal.returns-in_err-resize_file-clause-errors
returns-in_err-resize_file-clause-errors g c = λ r.
    let said : error_of c.from_residual.result ≡ error_of c.resize_file.result = search rules in
    subst (IsLimit _) (sym said) (c.resize_file.ensures.errors r)

pub returns-in_err-sync_file-clause-errors : goal.returns-in_err-sync_file-clause-errors
returns-in_err-sync_file-clause-errors g c = λ r.
    let said : error_of c.from_residual-in_err-sync_file.result ≡ error_of c.sync_file.result = search rules in
    subst (IsLimit _) (sym said) (c.sync_file.ensures.errors (c.resize_file.ensures.uses.ready r))

pub returns-in_err-sync_file-clause-uses : goal.returns-in_err-sync_file-clause-uses
returns-in_err-sync_file-clause-uses g c = uses_twice c.resize_file.ensures.uses c.sync_file.ensures.uses

pub returns-clause-uses : goal.returns-clause-uses
returns-clause-uses g c = uses_twice c.resize_file.ensures.uses c.sync_file.ensures.uses
