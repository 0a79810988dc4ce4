use Rattle.std.proofs.Common.{refl, Some}
use Rattle.blob_script.specs.Acts.{Resize}
use Rattle.blob_lab_store.specs.Tables.{as_held}
use Rattle.blob_lab_store.proofs.EmptySlots.{closed_at, open_at, put_back, written}
use Rattle.blob_lab_store.proofs.ThroughHandles.{through_none, through_some}
use Rattle.blob_lab_store.proofs.AskedWrites.{resize_done, resize_failed}
use Rattle.blob_lab_store.proofs.lab.Lab.resize.Goals as goal

pub returns-in-Ok : goal.returns-in-Ok
returns-in-Ok c =
    let slots = c.args.self.now.handles.slots in
    let number = c.args.number in
    let i = c.in-Some.i in
    let at = c.in-Some.ensures.some in
    let w = c.args.self.now.wrapper in
    let w' = c.resize.new.store in
    let handle' = record c.in-Some-index_mut.field-0 { blob = c.resize.new.self } in
    let h = as_held c.in-Some-index_mut.field-0 in
    let e = c.in-Ok.ensures in
    through_some c.args.self.now _ number (Resize c.args.len) refl refl h (as_held handle') _ refl (λ v r. refl)
    (open_at as_held slots number i at c.index_mut.result.now c.index_mut.ensures.value c.in-Some-index_mut.field-0 c.in-Some-index_mut.is)
    (resize_done w w' h (as_held handle') c.args.len e.directory e.leaves.numbers.config e.place refl
    e.leaves.drawn e.allowed (e.leaves.recorded_after refl) (e.leaves.live_after refl) (e.leaves.size_after refl))
    (written as_held slots number i at (Some handle'))

pub returns-in-Err : goal.returns-in-Err
returns-in-Err c =
    let slots = c.args.self.now.handles.slots in
    let number = c.args.number in
    let i = c.in-Some.i in
    let at = c.in-Some.ensures.some in
    let w = c.args.self.now.wrapper in
    let w' = c.resize.new.store in
    let handle' = record c.in-Some-index_mut.field-0 { blob = c.resize.new.self } in
    let h = as_held c.in-Some-index_mut.field-0 in
    let e = c.in-Err.ensures in
    through_some c.args.self.now _ number (Resize c.args.len) refl refl h (as_held handle') _ refl (λ v r. refl)
    (open_at as_held slots number i at c.index_mut.result.now c.index_mut.ensures.value c.in-Some-index_mut.field-0 c.in-Some-index_mut.is)
    (resize_failed w w' h (as_held handle') c.args.len e.directory e.leaves.numbers.config e.place refl
    c.in-Err.e e.leaves.drawn e.allowed (e.leaves.recorded_after refl) (e.leaves.live_after refl) (e.leaves.size_after refl))
    (written as_held slots number i at (Some handle'))

pub returns-in_default-index_mut : goal.returns-in_default-index_mut
returns-in_default-index_mut c =
    let slots = c.args.self.now.handles.slots in
    let number = c.args.number in
    let i = c.in-Some.i in
    let at = c.in-Some.ensures.some in
    through_none c.args.self.now _ number (Resize c.args.len) refl refl
    (closed_at as_held slots number i at c.index_mut.result.now c.index_mut.ensures.value c.in_default-index_mut.is) refl
    (put_back as_held slots number i at c.index_mut.result.now c.index_mut.ensures.value)
