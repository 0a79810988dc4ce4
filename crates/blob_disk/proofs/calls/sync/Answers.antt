use Rattle.std.proofs.Common.{inl, refl, sym, ◌∙◌, ap, List, ℕ, length}
use Rattle.std.specs.Prelude.{Result, Ok, Err, OnErr}
use Rattle.blob_model.specs.Places.{Place}
use Rattle.blob_disk.proofs.Outcomes.{at_place, keeps_all, keeps_outcomes, keeps_synced, same_outcomes, synced_at}
use Rattle.blob_disk.proofs.calls.sync.Goals as goal
use Rattle.blob_faulty.specs.Wrapper.{inner_of, inside, pending_of}
use Rattle.blob_memory.specs.Store.{durable, live, place}

pub returns-in_err-sync-clause-keeps : goal.returns-in_err-sync-clause-keeps
returns-in_err-sync-clause-keeps g c =
    let e = c.in_err-sync.ensures in
    keeps_all _ _ _ _ c.kept_records.ensures e.directory e.err (e.leaves.unrecorded refl) e.place (λ h. e.leaves.size ∙ h ∙ sym (ap (λ (x : List ℕ). length x) e.live))

pub returns-in_err-sync-clause-crash : goal.returns-in_err-sync-clause-crash
returns-in_err-sync-clause-crash g c =
    let e = c.in_err-sync.ensures in
    same_outcomes _ _ _ _ _ _ e.live (ap (pending_of (λ (o : Place). o) c.sync.new.store) e.place ∙ (e.leaves.unrecorded refl).pending _) (ap (durable (inner_of c.sync.new.store)) e.place ∙ at_place e.err _)

at_err : {T E : Type 0} (r : Result T E) (Q : Type 0) → Q → OnErr r Q
at_err (Ok x) Q q = tt
at_err (Err e) Q q = q

pub returns-in_err-sync-clause-kept : goal.returns-in_err-sync-clause-kept
returns-in_err-sync-clause-kept g c =
    let e = c.in_err-sync.ensures in
    at_err c.from_residual.result _ (keeps_outcomes c.args.blob.now c.sync.new.self c.args.store.now c.sync.new.store e.live (ap (pending_of (λ (o : Place). o) c.sync.new.store) e.place ∙ (e.leaves.unrecorded refl).pending _) (ap (durable (inner_of c.sync.new.store)) e.place ∙ at_place e.err _))

pub returns-clause-durable : goal.returns-clause-durable
returns-clause-durable g c =
    let e = c.in_ok-sync.ensures in
    synced_at (live (inside c.args.blob.now)) _ (pending_of (λ (o : Place). o) c.args.store.now) _ (durable (inner_of c.args.store.now)) _ (place (inside c.args.blob.now)) _ e.live e.place (e.leaves.pending refl) e.synced

pub returns-clause-crash : goal.returns-clause-crash
returns-clause-crash g c kept may = inl (returns-clause-durable g c kept may)

pub returns-clause-keeps : goal.returns-clause-keeps
returns-clause-keeps g c =
    let e = c.in_ok-sync.ensures in
    keeps_synced _ _ _ _ e.directory (e.leaves.published refl) e.place e.leaves.numbers.config (λ h. e.leaves.size ∙ h ∙ sym (ap (λ (x : List ℕ). length x) e.live))
