use Rattle.std.proofs.Common.{rules, ◌≡◌, ◌≢◌, refl, Bool, Some, None, subst}
use Rattle.blob_header.specs.Refusals.{Memory}
use Rattle.blob_memory.specs.Store.{room_for}
use Rattle.blob_faulty.specs.Wrapper.{inside, inner_of as store_of}
use Rattle.blob_base.specs.Options.{is_sync}
use Rattle.blob_script.specs.Acts.{Write}
use Rattle.blob_script.specs.declared.reply.Reply.TheVariants.{Done, Failed}
use Rattle.blob_lab_store.specs.LabStands.{PerformsAsk}
use Rattle.blob_lab_store.specs.Tables.{as_held}
use Rattle.blob_lab_store.proofs.AskedWrites.{write_done, write_failed}
use Rattle.blob_lab_store.proofs.EmptySlots.{closed_at, open_at, put_back, written}
use Rattle.blob_lab_store.proofs.ThroughHandles.{through_none, through_some}
use Rattle.blob_lab_store.proofs.lab.Lab.write.Goals as goal
use Rattle.blob_lab_store.proofs.lab.Lab.write.Goals.{After-runs_are_choices, then-sync, else-sync}

not_refused : None ≢ Some Memory
not_refused e = cc

options_are : (c : After-runs_are_choices) → is_sync c.if-sync.options ≡ c.args.sync
options_are c = elim c.if-sync.branch [ then-sync w ↦ search rules | else-sync w ↦ search rules ]

pub returns-in-Ok : goal.returns-in-Ok
returns-in-Ok c =
    let slots = c.args.self.now.handles.slots in
    let number = c.args.number in
    let i = c.in-Some.i in
    let at = c.in-Some.ensures.some in
    let w = c.args.self.now.wrapper in
    let w' = c.write_from.new.store in
    let handle' = record c.in-Some-index_mut.field-0 { blob = c.write_from.new.self } in
    let h = as_held c.in-Some-index_mut.field-0 in
    let h' = as_held handle' in
    let e = c.in-Ok.ensures in
    through_some c.args.self.now _ number (Write c.args.offset c.args.bytes.now c.args.sync) refl refl h h' _ refl (λ v r. refl)
    (open_at as_held slots number i at c.index_mut.result.now c.index_mut.ensures.value c.in-Some-index_mut.field-0 c.in-Some-index_mut.is)
    (subst (λ (s : Bool). PerformsAsk w h (Write c.args.offset c.args.bytes.now s) Done w' h') (options_are (goal.at.returns-in-Ok c).After-runs_are_choices)
    (write_done w w' h h' (room_for (inside c.in-Some-index_mut.field-0.blob) (store_of w)) c.args.offset c.args.bytes.now (is_sync c.if-sync.options)
    (λ chosen. c.runs_are_choices.ensures.apart c.args.offset c.args.bytes.now chosen) e.directory e.leaves.config e.place refl
    e.allowed (e.leaves.drawn not_refused) (e.leaves.recorded refl) (e.leaves.live_after refl) (e.leaves.size refl)))
    (written as_held slots number i at (Some handle'))

pub returns-in-Err : goal.returns-in-Err
returns-in-Err c =
    let slots = c.args.self.now.handles.slots in
    let number = c.args.number in
    let i = c.in-Some.i in
    let at = c.in-Some.ensures.some in
    let w = c.args.self.now.wrapper in
    let w' = c.write_from.new.store in
    let handle' = record c.in-Some-index_mut.field-0 { blob = c.write_from.new.self } in
    let h = as_held c.in-Some-index_mut.field-0 in
    let h' = as_held handle' in
    let e = c.in-Err.ensures in
    through_some c.args.self.now _ number (Write c.args.offset c.args.bytes.now c.args.sync) refl refl h h' _ refl (λ v r. refl)
    (open_at as_held slots number i at c.index_mut.result.now c.index_mut.ensures.value c.in-Some-index_mut.field-0 c.in-Some-index_mut.is)
    (subst (λ (s : Bool). PerformsAsk w h (Write c.args.offset c.args.bytes.now s) (Failed c.in-Err.e) w' h') (options_are (goal.at.returns-in-Err c).After-runs_are_choices)
    (write_failed w w' h h' (room_for (inside c.in-Some-index_mut.field-0.blob) (store_of w)) c.args.offset c.args.bytes.now (is_sync c.if-sync.options)
    (λ chosen. c.runs_are_choices.ensures.apart c.args.offset c.args.bytes.now chosen) e.directory e.leaves.config e.place refl
    c.in-Err.e e.allowed e.leaves.drawn (e.leaves.recorded refl) (e.leaves.live_after refl) (e.leaves.size refl)))
    (written as_held slots number i at (Some handle'))

pub returns-in_default-index_mut : goal.returns-in_default-index_mut
returns-in_default-index_mut c =
    let slots = c.args.self.now.handles.slots in
    let number = c.args.number in
    let i = c.in-Some.i in
    let at = c.in-Some.ensures.some in
    through_none c.args.self.now _ number (Write c.args.offset c.args.bytes.now c.args.sync) refl refl
    (closed_at as_held slots number i at c.index_mut.result.now c.index_mut.ensures.value c.in_default-index_mut.is) refl
    (put_back as_held slots number i at c.index_mut.result.now c.index_mut.ensures.value)
