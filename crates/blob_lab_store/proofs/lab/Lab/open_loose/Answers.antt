use Rattle.std.proofs.Common.{refl, ap, ◌∙◌, ◌++◌, ◌∷◌, [], Some, length}
use Rattle.std.specs.Range.{range_inclusive_start, range_inclusive_end}
use Rattle.blob_header.specs.Refusals.{refusal_of}
use Rattle.blob_faulty.specs.Wrapper.{inside, size_of}
use Rattle.blob_memory.specs.Store.{place, live}
use Rattle.blob_lab_store.specs.Tables.{as_held}
use Rattle.blob_lab_store.proofs.LooseOpens.{loose_done, loose_failed}
use Rattle.blob_lab_store.proofs.OpenEnds.{loose_empty, loose_unasked, loose_for}
use Rattle.blob_lab_store.proofs.lab.Lab.open_loose.Goals as goal

pub returns-in_default : goal.returns-in_default
returns-in_default c = loose_empty c.args.self.now c.args.partition.now c.args.name.now _ c.in_default.ensures.none

pub returns-in-Err : goal.returns-in-Err
returns-in-Err c = loose_unasked c.args.self.now _ c.args.partition.now c.args.name.now _ _ _ c.in-Some.ensures.versions _ c.in-Err.ensures.memory refl refl c.reserve.ensures.handles refl

pub returns-in-Ok : goal.returns-in-Ok
returns-in-Ok c =
    let h = as_held c.loose.result in
    let made = c.loose.ensures.blob in
    let v = c.in-Some.versions in
    loose_for c.args.self.now _ c.args.partition.now c.args.name.now _ _ _ _ c.in-Some.ensures.versions
    (loose_done c.args.self.now _ c.args.partition.now c.args.name.now (range_inclusive_start v).0 (range_inclusive_end v).0 refl refl c.in-Ok.ensures.leaves.records.numbers.config c.in-Ok.ensures.leaves.drawn
    (place (inside c.in-Ok.blob)) (live (inside c.in-Ok.blob)) c.in-Ok.version.0 h _ _ _ c.in-Ok.ensures.opened (c.add.ensures.number ∙ ap length c.reserve.ensures.handles) c.in-Ok.ensures.size refl
    (ap (λ b. place (inside b)) made) (ap (λ b. live (inside b)) made) (ap size_of made ∙ c.in-Ok.ensures.kept_size.0 ∙ c.in-Ok.ensures.size) c.loose.ensures.registration
    (c.add.ensures.handles ∙ ap (λ hs. hs ++ Some h ∷ []) c.reserve.ensures.handles) c.in-Ok.ensures.allowed (c.opens.ensures.accepted c.args.self.now.wrapper _ c.args.partition.now c.args.name.now _ _ _ _ _ c.in-Ok.ensures.opened c.in-Ok.ensures.leaves))

pub returns-in-Err-open_versioned : goal.returns-in-Err-open_versioned
returns-in-Err-open_versioned c =
    let v = c.in-Some.versions in
    loose_for c.args.self.now _ c.args.partition.now c.args.name.now _ _ _ _ c.in-Some.ensures.versions
    (loose_failed c.args.self.now _ c.args.partition.now c.args.name.now (range_inclusive_start v).0 (range_inclusive_end v).0 refl refl c.in-Err-open_versioned.ensures.leaves.records.numbers.config c.in-Err-open_versioned.ensures.leaves.drawn
    _ c.in-Err-open_versioned.ensures.allowed c.reserve.ensures.handles (c.opens.ensures.refused c.args.self.now.wrapper _ c.args.partition.now c.args.name.now (range_inclusive_start v).0 (range_inclusive_end v).0 (refusal_of c.in-Err-open_versioned.e) c.in-Err-open_versioned.ensures.err.0 c.in-Err-open_versioned.ensures.err.1 c.in-Err-open_versioned.ensures.leaves))
