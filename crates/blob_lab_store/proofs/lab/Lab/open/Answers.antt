use Rattle.std.proofs.Common.{rules, refl, ap, ◌≡◌, ◌∙◌, ◌++◌, ◌∷◌, [], Some, length}
use Rattle.std.specs.Range.{range_inclusive_start, range_inclusive_end}
use Rattle.blob_header.specs.Refusals.{Memory, refusal_of}
use Rattle.blob_opens.specs.Opens.{store_handle}
use Rattle.blob_faulty.specs.Wrapper.{inside, size_of}
use Rattle.blob_memory.specs.Store.{place, live}
use Rattle.blob_lab_store.specs.Tables.{as_held}
use Rattle.blob_lab_store.proofs.ExclusiveEnds.{exclusive_failed}
use Rattle.blob_lab_store.proofs.ExclusiveOpens.{exclusive_done}
use Rattle.blob_lab_store.proofs.OpenEnds.{open_empty, open_unasked, open_for, taken}
use Rattle.blob_lab_store.proofs.lab.Lab.open.Goals as goal

pub returns-in_default : goal.returns-in_default
returns-in_default c = open_empty c.args.self.now c.args.partition.now c.args.name.now _ c.in_default.ensures.none

pub returns-in-Err : goal.returns-in-Err
returns-in-Err c =
    let memory : refusal_of c.in-Err.e ≡ Memory = search rules in
    open_unasked c.args.self.now _ c.args.partition.now c.args.name.now _ _ _ c.in-Some.ensures.versions _ memory refl refl c.reserve.ensures.handles refl

pub returns-in-Ok : goal.returns-in-Ok
returns-in-Ok c =
    let h = as_held c.exclusive.result in
    let made = c.exclusive.ensures.blob in
    let v = c.in-Some.versions in
    let first = (range_inclusive_start v).0 in
    let last = (range_inclusive_end v).0 in
    let inner = store_handle c.in-Ok.blob in
    let q = taken _ _ _ _ _ _ _ _ c.in-Ok.ensures.answer refl in
    let leaves = q.asked.1 in
    let found = c.in-Ok.ensures.accepted in
    open_for c.args.self.now _ c.args.partition.now c.args.name.now _ _ _ _ c.in-Some.ensures.versions
    (exclusive_done c.args.self.now _ c.args.partition.now c.args.name.now first last c.open_exclusive.new.self (place (inside inner)) (live (inside inner)) c.in-Ok.version.0 h _ _ _ found.opened
    (c.add.ensures.number ∙ ap length c.reserve.ensures.handles) found.size refl (ap (λ b. place (inside b)) made) (ap (λ b. live (inside b)) made) (ap size_of made ∙ found.tracked ∙ found.size)
    (c.exclusive.ensures.registration ∙ ap Some c.in-Ok.ensures.handle) (c.add.ensures.handles ∙ ap (λ hs. hs ++ Some h ∷ []) c.reserve.ensures.handles)
    refl refl q.free q.left q.asked.0 c.in-Ok.ensures.registered refl leaves.numbers.config leaves.drawn found.files)

pub returns-in-Err-open_exclusive : goal.returns-in-Err-open_exclusive
returns-in-Err-open_exclusive c =
    let v = c.in-Some.versions in
    open_for c.args.self.now _ c.args.partition.now c.args.name.now _ _ _ _ c.in-Some.ensures.versions
    (exclusive_failed c.args.self.now _ c.args.partition.now c.args.name.now (range_inclusive_start v).0 (range_inclusive_end v).0 _ refl c.reserve.ensures.handles c.in-Err-open_exclusive.ensures.err _ c.in-Err-open_exclusive.ensures.answer refl)
