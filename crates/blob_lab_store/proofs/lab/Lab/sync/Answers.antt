use Rattle.std.proofs.Common.{refl, subst, Some}
use Rattle.blob_script.specs.Acts.{Sync}
use Rattle.blob_script.specs.declared.reply.Reply.TheVariants.{Done, Failed}
use Rattle.blob_lab_model.specs.States.{Held}
use Rattle.blob_lab_store.specs.LabStands.{PerformsAsk}
use Rattle.blob_lab_store.specs.Tables.{as_held}
use Rattle.blob_lab_store.proofs.EmptySlots.{closed_at, open_at, put_back, written}
use Rattle.blob_lab_store.proofs.ThroughHandles.{through_none, through_some}
use Rattle.blob_lab_store.proofs.AskSteps.{held_same}
use Rattle.blob_lab_store.proofs.AskedSyncs.{sync_done, sync_failed}
use Rattle.blob_lab_store.proofs.lab.Lab.sync.Goals as goal

pub returns-in-Ok : goal.returns-in-Ok
returns-in-Ok c =
    let slots = c.args.self.now.handles.slots in
    let number = c.args.number in
    let i = c.in-Some.i in
    let at = c.in-Some.ensures.some in
    let w = c.args.self.now.wrapper in
    let w' = c.sync.new.store in
    let handle' = record c.in-Some-index_mut.field-0 { blob = c.sync.new.self } in
    let h = as_held c.in-Some-index_mut.field-0 in
    let e = c.in-Ok.ensures in
    through_some c.args.self.now _ number Sync refl refl h (as_held handle') _ refl (λ v r. refl)
    (open_at as_held slots number i at c.index_mut.result.now c.index_mut.ensures.value c.in-Some-index_mut.field-0 c.in-Some-index_mut.is)
    (subst (λ (x : Held). PerformsAsk w h Sync Done w' x) (held_same h (as_held handle') e.place e.live e.leaves.size refl)
    (sync_done w w' h e.directory e.leaves.numbers.config e.leaves.drawn e.allowed (e.leaves.published refl)))
    (written as_held slots number i at (Some handle'))

pub returns-in-Err : goal.returns-in-Err
returns-in-Err c =
    let slots = c.args.self.now.handles.slots in
    let number = c.args.number in
    let i = c.in-Some.i in
    let at = c.in-Some.ensures.some in
    let w = c.args.self.now.wrapper in
    let w' = c.sync.new.store in
    let handle' = record c.in-Some-index_mut.field-0 { blob = c.sync.new.self } in
    let h = as_held c.in-Some-index_mut.field-0 in
    let e = c.in-Err.ensures in
    through_some c.args.self.now _ number Sync refl refl h (as_held handle') _ refl (λ v r. refl)
    (open_at as_held slots number i at c.index_mut.result.now c.index_mut.ensures.value c.in-Some-index_mut.field-0 c.in-Some-index_mut.is)
    (subst (λ (x : Held). PerformsAsk w h Sync (Failed c.in-Err.e) w' x) (held_same h (as_held handle') e.place e.live e.leaves.size refl)
    (sync_failed w w' h e.directory e.leaves.numbers.config e.leaves.drawn c.in-Err.e e.allowed e.err (e.leaves.unrecorded refl)))
    (written as_held slots number i at (Some handle'))

pub returns-in_default-index_mut : goal.returns-in_default-index_mut
returns-in_default-index_mut c =
    let slots = c.args.self.now.handles.slots in
    let number = c.args.number in
    let i = c.in-Some.i in
    let at = c.in-Some.ensures.some in
    through_none c.args.self.now _ number Sync refl refl
    (closed_at as_held slots number i at c.index_mut.result.now c.index_mut.ensures.value c.in_default-index_mut.is) refl
    (put_back as_held slots number i at c.index_mut.result.now c.index_mut.ensures.value)
