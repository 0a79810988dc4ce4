use Rattle.std.proofs.Common.{◌≡◌, List, ℕ, ap₂, subst, sym, ◌∙◌, rules}
use Rattle.blob_journal.specs.Blobs.{HasDurable}
use Rattle.blob_fs.specs.declared.truncation.Truncation.{Truncation}
use Rattle.blob_fs.specs.Truncations.{truncated}
use Rattle.blob_fs.proofs.Cutting.{on_map}
use Rattle.blob_fs.proofs.Fixed.{changes_after, still_self}
use Rattle.blob_fs.proofs.Fixing.{may_keep}
use Rattle.blob_header.specs.Refusals.{error_of}
use Rattle.blob_journal.specs.Limits.{IsLimit}
use Rattle.blob_fs.proofs.States.{uses_twice}
use Rattle.blob_fs.proofs.recovery.truncate_left.Goals as goal

pub returns-then-are_same-clause-truncated : goal.returns-then-are_same-clause-truncated
returns-then-are_same-clause-truncated g c = λ bytes h.
    let blob = c.args.blob.now in
    let inode = c.args.inode in
    let one = c.blobs.ensures.stays c.args.store.now c.read_whole.new.self inode blob bytes (c.in_ok-found.ensures.same inode) h in
    let seen = c.in_ok-found.ensures.bytes ∙ c.blobs.ensures.reads blob bytes h.seen in
    let all = c.in_ok-bytes.ensures in
    let ts = c.args.old.now.truncations.items in
    let leaves = λ (ts : List Truncation) (l : List ℕ). truncated c.args.kept.now c.args.loss.now.lost.items inode ts l in
    let same : bytes ≡ leaves ts bytes =
    sym seen ∙ sym c.deref-2.ensures.value ∙ c.are_same.ensures c.if-are_same.true ∙ c.deref-3.ensures.value
    ∙ all ∙ ap₂ leaves c.as_slice-truncations.ensures.value (c.deref.ensures.value ∙ seen) in
    subst (λ (l : List ℕ). HasDurable c.read_whole.new.self inode blob l) same one

pub returns-then-are_same-clause-others : goal.returns-then-are_same-clause-others
returns-then-are_same-clause-others g c = λ inode bytes below h other there apart. c.in_ok-found.ensures.same other

pub returns-clause-truncated : goal.returns-clause-truncated
returns-clause-truncated g c = on_map c.rewrite.result c.rewrite.ensures.rewritten (λ rewritten bytes h.
    let blob = c.args.blob.now in
    let inode = c.args.inode in
    let one = c.blobs.ensures.stays c.args.store.now c.read_whole.new.self inode blob bytes (c.in_ok-found.ensures.same inode) h in
    let seen = c.in_ok-found.ensures.bytes ∙ c.blobs.ensures.reads blob bytes h.seen in
    let all = c.in_ok-bytes.ensures in
    let ts = c.args.old.now.truncations.items in
    let leaves = λ (ts : List Truncation) (l : List ℕ). truncated c.args.kept.now c.args.loss.now.lost.items inode ts l in
    let same : c.deref-4.result.now ≡ leaves ts bytes =
    c.deref-4.ensures.value ∙ all ∙ ap₂ leaves c.as_slice-truncations.ensures.value (c.deref.ensures.value ∙ seen) in
    subst (λ (l : List ℕ). HasDurable c.rewrite.new.store inode c.rewrite.new.blob l) same (rewritten inode bytes one))

pub returns-clause-others : goal.returns-clause-others
returns-clause-others g c = on_map c.rewrite.result c.rewrite.ensures.others (λ others inode bytes below h other there apart.
    let one = c.blobs.ensures.stays c.args.store.now c.read_whole.new.self inode c.args.blob.now bytes (c.in_ok-found.ensures.same inode) h in
    c.blobs.ensures.twice c.args.store.now c.read_whole.new.self c.rewrite.new.store other (c.in_ok-found.ensures.same other) (others inode bytes below one other there apart))

pub returns-then-is_empty-clause-still : goal.returns-then-is_empty-clause-still
returns-then-is_empty-clause-still g c = may_keep c.args.store.now c.args.store.now c.args.blob.now (still_self c.args.store.now)

pub returns-then-are_same-clause-still : goal.returns-then-are_same-clause-still
returns-then-are_same-clause-still g c = may_keep c.args.store.now c.read_whole.new.self c.args.blob.now c.read_whole.ensures.still

pub returns-clause-still : goal.returns-clause-still
returns-clause-still g c = on_map c.rewrite.result c.rewrite.ensures.still (λ changes.
    changes_after (λ at. ⊥) c.args.store.now c.read_whole.new.self c.rewrite.new.store c.args.blob.now c.rewrite.new.blob c.read_whole.ensures.still changes)

pub returns-in_err-found-clause-errors : goal.returns-in_err-found-clause-errors
returns-in_err-found-clause-errors g c = λ r.
    let said : error_of c.from_residual.result ≡ error_of c.read_whole.result = search rules in
    subst (IsLimit _) (sym said) (c.read_whole.ensures.errors r.faultless r.is.tracked)

pub returns-clause-errors : goal.returns-clause-errors
returns-clause-errors g c = λ r. c.rewrite.ensures.errors ((c.read_whole.ensures.uses c.args.blob.now).ready r)

pub returns-in_err-found-clause-uses : goal.returns-in_err-found-clause-uses
returns-in_err-found-clause-uses g c = c.read_whole.ensures.uses c.args.blob.now

pub returns-in_err-bytes-clause-uses : goal.returns-in_err-bytes-clause-uses
returns-in_err-bytes-clause-uses g c = c.read_whole.ensures.uses c.args.blob.now

pub returns-then-are_same-clause-uses : goal.returns-then-are_same-clause-uses
returns-then-are_same-clause-uses g c = c.read_whole.ensures.uses c.args.blob.now

pub returns-clause-uses : goal.returns-clause-uses
returns-clause-uses g c = uses_twice (c.read_whole.ensures.uses c.args.blob.now) c.rewrite.ensures.uses
