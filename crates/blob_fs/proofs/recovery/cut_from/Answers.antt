use Rattle.std.proofs.Common.{◌≡◌, ◌≤◌, ℕ, List, length, take, arith, subst, sym, ◌∙◌, rules}
use Rattle.blob_journal.specs.Blobs.{HasDurable, bytes_of}
use Rattle.blob_fs.specs.Bytes.{kept_length}
use Rattle.blob_fs.proofs.Cutting.{kept_is, on_map, uncut}
use Rattle.blob_fs.proofs.Fixed.{changes_after, still_self, still_twice}
use Rattle.blob_fs.proofs.Fixing.{may_keep}
use Rattle.blob_header.specs.Refusals.{error_of}
use Rattle.blob_journal.specs.Limits.{IsLimit}
use Rattle.blob_fs.proofs.States.{uses_twice}
use Rattle.blob_fs.proofs.recovery.cut_from.Goals as goal

pub returns-then-length-size-clause-cut : goal.returns-then-length-size-clause-cut
returns-then-length-size-clause-cut g c = λ inode found h.
    let blob = c.args.blob.now in
    let start = c.args.start in
    let live = c.args.live.now in
    let one = c.blobs.ensures.stays c.args.store.now c.read_whole.new.self inode blob found (c.in_ok-found.ensures.same inode) h in
    let two = c.blobs.ensures.stays c.read_whole.new.self c.read_whole-2.new.self inode blob found (c.in_ok-seen.ensures.same inode) one in
    let size : c.size-size.result ≡ length found = c.size-size.ensures ∙ h.seen.size in
    let kept : c.kept_length-length.result ≡ kept_length start (bytes_of live) found =
    kept_is start c.deref.result.now c.deref-2.result.now found (bytes_of live) c.kept_length-length.result c.kept_length-length.ensures
    (c.deref.ensures.value ∙ c.in_ok-found.ensures.bytes ∙ c.blobs.ensures.reads blob found h.seen) (c.deref-2.ensures.value ∙ c.in_ok-seen.ensures.bytes) (omega (arith, size, c.if-size-start.false)) in
    let long : length found ≤ kept_length start (bytes_of live) found = omega (arith, kept, size, c.if-length-size.true) in
    subst (λ (l : List ℕ). HasDurable c.read_whole-2.new.self inode blob l) (sym (uncut start (bytes_of live) found long)) two

pub returns-then-length-size-clause-others : goal.returns-then-length-size-clause-others
returns-then-length-size-clause-others g c = λ inode bytes below h other there apart.
    c.blobs.ensures.twice c.args.store.now c.read_whole.new.self c.read_whole-2.new.self other (c.in_ok-found.ensures.same other) (c.in_ok-seen.ensures.same other)

pub returns-clause-cut : goal.returns-clause-cut
returns-clause-cut g c = on_map c.cut_to.result c.cut_to.ensures.cut (λ cuts inode found h.
    let blob = c.args.blob.now in
    let start = c.args.start in
    let live = c.args.live.now in
    let one = c.blobs.ensures.stays c.args.store.now c.read_whole.new.self inode blob found (c.in_ok-found.ensures.same inode) h in
    let two = c.blobs.ensures.stays c.read_whole.new.self c.read_whole-2.new.self inode blob found (c.in_ok-seen.ensures.same inode) one in
    let size : c.size-size.result ≡ length found = c.size-size.ensures ∙ h.seen.size in
    let kept : c.kept_length-length.result ≡ kept_length start (bytes_of live) found =
    kept_is start c.deref.result.now c.deref-2.result.now found (bytes_of live) c.kept_length-length.result c.kept_length-length.ensures
    (c.deref.ensures.value ∙ c.in_ok-found.ensures.bytes ∙ c.blobs.ensures.reads blob found h.seen) (c.deref-2.ensures.value ∙ c.in_ok-seen.ensures.bytes) (omega (arith, size, c.if-size-start.false)) in
    subst (λ (n : ℕ). HasDurable c.cut_to.new.store inode c.cut_to.new.blob (take n found)) kept (cuts inode found (omega (arith, size, c.if-length-size.false)) two))

pub returns-clause-others : goal.returns-clause-others
returns-clause-others g c = on_map c.cut_to.result c.cut_to.ensures.others (λ others inode bytes below h other there apart.
    let blob = c.args.blob.now in
    let one = c.blobs.ensures.stays c.args.store.now c.read_whole.new.self inode blob bytes (c.in_ok-found.ensures.same inode) h in
    let two = c.blobs.ensures.stays c.read_whole.new.self c.read_whole-2.new.self inode blob bytes (c.in_ok-seen.ensures.same inode) one in
    c.blobs.ensures.twice c.args.store.now c.read_whole-2.new.self c.cut_to.new.store other
    (c.blobs.ensures.twice c.args.store.now c.read_whole.new.self c.read_whole-2.new.self other (c.in_ok-found.ensures.same other) (c.in_ok-seen.ensures.same other))
    (others inode bytes below two.is other there apart))

pub returns-then-size-start-clause-still : goal.returns-then-size-start-clause-still
returns-then-size-start-clause-still g c = may_keep c.args.store.now c.args.store.now c.args.blob.now (still_self c.args.store.now)

pub returns-then-length-size-clause-still : goal.returns-then-length-size-clause-still
returns-then-length-size-clause-still g c = may_keep c.args.store.now c.read_whole-2.new.self c.args.blob.now
    (still_twice c.args.store.now c.read_whole.new.self c.read_whole-2.new.self c.read_whole.ensures.still c.read_whole-2.ensures.still)

pub returns-clause-still : goal.returns-clause-still
returns-clause-still g c = on_map c.cut_to.result c.cut_to.ensures.still (λ changes.
    changes_after (λ at. ⊥) c.args.store.now c.read_whole-2.new.self c.cut_to.new.store c.args.blob.now c.cut_to.new.blob
    (still_twice c.args.store.now c.read_whole.new.self c.read_whole-2.new.self c.read_whole.ensures.still c.read_whole-2.ensures.still) changes)

pub returns-in_err-found-clause-errors : goal.returns-in_err-found-clause-errors
returns-in_err-found-clause-errors g c = λ r live.
    let said : error_of c.from_residual.result ≡ error_of c.read_whole.result = search rules in
    subst (IsLimit _) (sym said) (c.read_whole.ensures.errors r.faultless r.is.tracked)

pub returns-in_err-seen-clause-errors : goal.returns-in_err-seen-clause-errors
returns-in_err-seen-clause-errors g c = λ r live.
    let said : error_of c.from_residual-in_err-seen.result ≡ error_of c.read_whole-2.result = search rules in
    subst (IsLimit _) (sym said) (c.read_whole-2.ensures.errors ((c.read_whole.ensures.uses c.args.blob.now).ready r).faultless live)

pub returns-clause-errors : goal.returns-clause-errors
returns-clause-errors g c = λ r live. c.cut_to.ensures.errors ((c.read_whole-2.ensures.uses c.args.blob.now).ready ((c.read_whole.ensures.uses c.args.blob.now).ready r))

pub returns-in_err-found-clause-uses : goal.returns-in_err-found-clause-uses
returns-in_err-found-clause-uses g c = c.read_whole.ensures.uses c.args.blob.now

pub returns-in_err-seen-clause-uses : goal.returns-in_err-seen-clause-uses
returns-in_err-seen-clause-uses g c = uses_twice (c.read_whole.ensures.uses c.args.blob.now) (c.read_whole-2.ensures.uses c.args.blob.now)

pub returns-then-length-size-clause-uses : goal.returns-then-length-size-clause-uses
returns-then-length-size-clause-uses g c = uses_twice (c.read_whole.ensures.uses c.args.blob.now) (c.read_whole-2.ensures.uses c.args.blob.now)

pub returns-clause-uses : goal.returns-clause-uses
returns-clause-uses g c = uses_twice (uses_twice (c.read_whole.ensures.uses c.args.blob.now) (c.read_whole-2.ensures.uses c.args.blob.now)) c.cut_to.ensures.uses
