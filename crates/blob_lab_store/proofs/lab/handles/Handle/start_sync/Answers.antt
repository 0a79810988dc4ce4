use Rattle.std.specs.Bool.{OnTrue, OnFalse}
use Rattle.std.proofs.Common.{◌≡◌, ◌≢◌, Bool, ◌∙◌, ◌++◌, ◌∷◌, [], refl, sym, ap, List, Some, Option, length, subst}
use Rattle.std.specs.Prelude.{IsSome}
use Rattle.blob_base.specs.Handles.{outcome_of}
use Rattle.blob_header.specs.Refusals.{Refusal, Memory, error_of}
use Rattle.blob_lab_model.specs.States as states
use Rattle.blob_lab_model.specs.States.{Held}
use Rattle.blob_lab_store.specs.Tables.{as_held, started_by, syncs_of}
use Rattle.blob_lab_store.proofs.AskSteps.{held_same}
use Rattle.blob_lab_store.proofs.AskedSyncs.{start_done, start_failed, start_unasked, starts_on}
use Rattle.blob_lab_store.proofs.lab.handles.Handle.start_sync.Goals as goal

pub returns-in-Err : goal.returns-in-Err
returns-in-Err c = start_unasked c.args.wrapper.now (as_held c.args.self.now) (syncs_of c.args.syncs.now) _ _ c.reserve.ensures.syncs c.in-Err.ensures.memory

pub returns-then-is_memory : goal.returns-then-is_memory
returns-then-is_memory c =
    let w = c.args.wrapper.now in
    let w' = c.start_sync-started.new.store in
    let h = as_held c.args.self.now in
    let e = c.start_sync-started.ensures in
    let said = subst (λ (b : Bool). OnTrue b (error_of c.outcome.result.now ≡ Some Memory)) c.if-is_memory.true c.is_memory.ensures.is in
    let memory : error_of (outcome_of c.start_sync-started.result) ≡ Some Memory = ap error_of (sym c.outcome.ensures) ∙ said in
    let some : IsSome (error_of (outcome_of c.start_sync-started.result)) = subst (λ (r : Option Refusal). IsSome r) (sym memory) refl in
    starts_on w w' h _ (syncs_of c.args.syncs.now) (syncs_of c.reserve.new.self) _ (held_same h (as_held (record c.args.self.now { blob = c.start_sync-started.new.self })) e.place e.live e.leaves.size refl)
    (start_failed w w' h (syncs_of c.args.syncs.now) (syncs_of c.reserve.new.self) _ e.directory (e.err some) (e.leaves.unrecorded some) c.reserve.ensures.syncs refl)

pub returns : goal.returns
returns c =
    let w = c.args.wrapper.now in
    let w' = c.start_sync-started.new.store in
    let h = as_held c.args.self.now in
    let e = c.start_sync-started.ensures in
    let no = subst (λ (b : Bool). OnFalse b (error_of c.outcome.result.now ≢ Some Memory)) c.if-is_memory.false c.is_memory.ensures.not in
    starts_on w w' h _ (syncs_of c.args.syncs.now) (syncs_of c.add.new.self) _ (held_same h (as_held (record c.args.self.now { blob = c.start_sync-started.new.self })) e.place e.live e.leaves.size refl)
    (start_done w w' h (syncs_of c.args.syncs.now) e.directory e.leaves.config e.leaves.drawn c.add.result (error_of (outcome_of c.start_sync-started.result)) (syncs_of c.add.new.self)
    (c.add.ensures.number ∙ ap length c.reserve.ensures.syncs)
    (c.add.ensures.syncs ∙ ap (λ (ss : List (Option states.Started)). ss ++ Some (started_by c.start_sync-started.result) ∷ []) c.reserve.ensures.syncs)
    (λ m. no (ap error_of c.outcome.ensures ∙ m)) e.allowed (λ f below done s. e.leaves.started done f below s) e.err e.leaves.unrecorded)
