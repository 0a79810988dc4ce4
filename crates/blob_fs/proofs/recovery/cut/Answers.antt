use Rattle.std.proofs.Common.{◌≡◌, Bool, List, ap, false, refl, rules, subst, sym, true, ◌∙◌, ℕ}
use Rattle.blob_journal.specs.Blobs.{HasDurable, bytes_of}
use Rattle.blob_fs.specs.declared.truncation.Truncation.{Truncation}
use Rattle.blob_fs.specs.Bytes.{cut_bytes}
use Rattle.blob_fs.specs.Truncations.{cut_start}
use Rattle.blob_fs.proofs.Cutting.{on_map}
use Rattle.blob_fs.proofs.Fixed.{still_self}
use Rattle.blob_fs.proofs.Fixing.{may_keep}
use Rattle.blob_fs.proofs.recovery.cut.Goals as goal

pub returns-then-not-loss-clause-cut : goal.returns-then-not-loss-clause-cut
returns-then-not-loss-clause-cut g c = λ inode found h.
    let loss = c.args.loss.now in
    let old = c.args.old.now in
    let no : loss.cuts ≡ false = search rules in
    let whole : found ≡ cut_bytes loss.cuts (cut_start loss.lost.items old.synced old.truncations.items) (bytes_of old.blob) found =
    sym (ap (λ (b : Bool). cut_bytes b (cut_start loss.lost.items old.synced old.truncations.items) (bytes_of old.blob) found) no) in
    subst (λ (l : List ℕ). HasDurable c.args.store.now inode c.args.blob.now l) whole h

pub returns-then-not-loss-clause-others : goal.returns-then-not-loss-clause-others
returns-then-not-loss-clause-others g c = λ inode bytes below h other there apart. record { file = refl; durable = λ o x y. refl }

pub returns-clause-cut : goal.returns-clause-cut
returns-clause-cut g c = on_map c.cut_from.result c.cut_from.ensures.cut (λ cuts inode found h.
    let loss = c.args.loss.now in
    let old = c.args.old.now in
    let bytes = bytes_of old.blob in
    let start = cut_start loss.lost.items old.synced old.truncations.items in
    let yes : true ≡ loss.cuts = search rules in
    let from : c.cut_start-start.result ≡ start =
    c.cut_start-start.ensures ∙ ap (λ (ts : List Truncation). cut_start loss.lost.items old.synced ts) c.deref.ensures.value in
    let same : cut_bytes true c.cut_start-start.result bytes found ≡ cut_bytes loss.cuts start bytes found =
    ap (λ (n : ℕ). cut_bytes true n bytes found) from ∙ ap (λ (b : Bool). cut_bytes b start bytes found) yes in
    subst (λ (l : List ℕ). HasDurable c.cut_from.new.store inode c.cut_from.new.blob l) same (cuts inode found h))

pub returns-then-not-loss-clause-still : goal.returns-then-not-loss-clause-still
returns-then-not-loss-clause-still g c = may_keep c.args.store.now c.args.store.now c.args.blob.now (still_self c.args.store.now)

pub returns-clause-still : goal.returns-clause-still
returns-clause-still g c = c.cut_from.ensures.still
