use Rattle.std.proofs.Common.{◌≡◌, ◌+◌, ◌≤◌, ℕ, List, length, take, drop, ap, refl, subst, ◌∙◌}
use Rattle.blob_memory.specs.Store.{directory, durable, place}
use Rattle.blob_memory.specs.declared.storage.Storage as memory
use Rattle.blob_faulty.specs.Wrapper.{inner_of, inside}
use Rattle.blob_journal.proofs.Blobs.{on_both}
use Rattle.blob_journal.proofs.Stores.{contents_same, holds_same}
use Rattle.blob_journal.proofs.journaled.Journaled.read_file.Goals as goal

pub invariant_of-self : goal.invariant_of-self
invariant_of-self g c =
    let self = c.args.self.now in
    let new = c.read_into.new.store in
    let r = c.read_into.ensures in
    let same : directory (inner_of new) ≡ directory (inner_of self.store) = ap (λ (s : memory.Storage). directory s) r.inner in
    let bytes : durable (inner_of new) ≡ durable (inner_of self.store) = ap (λ (s : memory.Storage). durable s) r.inner in
    holds_same self new same (λ test k. c.same_bytes.ensures.unrecorded self.store new (place (inside self.journal.blob)) test same bytes r.leaves.unrecorded k)

pub returns-clause-read : goal.returns-clause-read
returns-clause-read g c =
    let offset = c.args.offset in
    let count = length c.args.buf.now in
    on_both c.read_into.result c.read_into.ensures.bytes c.read_into.ensures.within (λ bytes within seen is. (
      subst (λ (l : List ℕ). offset + count ≤ length l) is.live within,
      bytes ∙ ap (λ (l : List ℕ). take count (drop offset l)) is.live,
    ))

pub returns-clause-contents : goal.returns-clause-contents
returns-clause-contents g c =
    let old = c.args.self.now.store in
    let new = c.read_into.new.store in
    let r = c.read_into.ensures in
    let same : directory (inner_of new) ≡ directory (inner_of old) = ap (λ (s : memory.Storage). directory s) r.inner in
    let bytes : durable (inner_of new) ≡ durable (inner_of old) = ap (λ (s : memory.Storage). durable s) r.inner in
    contents_same c.args.self.now _ r.inner (λ o. r.leaves.unrecorded.pending o) r.leaves.files r.leaves.unrecorded.numbers.next_write
    (λ o test k. c.same_bytes.ensures.unrecorded old new o test same bytes r.leaves.unrecorded k) refl (record { names = refl; told = refl; unsettled = refl; log = refl })
