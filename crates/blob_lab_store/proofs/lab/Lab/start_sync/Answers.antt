use Rattle.std.proofs.Common.{set, refl, ap, ◌∙◌, Some, subst}
use Rattle.blob_script.specs.Acts.{StartSync}
use Rattle.blob_lab_model.specs.States.{Held}
use Rattle.blob_lab_store.specs.LabStands.{StartsSync}
use Rattle.blob_lab_store.specs.Tables.{as_held, handles_of, syncs_of}
use Rattle.blob_lab_store.proofs.EmptySlots.{closed_at, open_at, put_back, written}
use Rattle.blob_lab_store.proofs.ThroughHandles.{through_none, through_started}
use Rattle.blob_lab_store.proofs.lab.Lab.start_sync.Goals as goal

pub returns-in-Some-index_mut : goal.returns-in-Some-index_mut
returns-in-Some-index_mut c =
    let slots = c.args.self.now.handles.slots in
    let number = c.args.number in
    let i = c.in-Some.i in
    let at = c.in-Some.ensures.some in
    let slot = c.index_mut.result.now in
    let read = c.index_mut.ensures.value in
    let h = as_held c.in-Some-index_mut.handle in
    let same = c.start_sync.ensures.held in
    through_started c.args.self.now _ number h _ refl
    (open_at as_held slots number i at slot read c.in-Some-index_mut.handle c.in-Some-index_mut.is)
    (subst (λ (x : Held). StartsSync c.args.self.now.wrapper h (syncs_of c.args.self.now.syncs) c.start_sync.result c.start_sync.new.wrapper x (syncs_of c.start_sync.new.syncs)) same c.start_sync.ensures)
    (written as_held slots number i at (Some c.start_sync.new.self) ∙ ap (λ (x : Held). set (handles_of c.args.self.now.handles) number (Some x)) same)

pub returns-in-None : goal.returns-in-None
returns-in-None c =
    let slots = c.args.self.now.handles.slots in
    let number = c.args.number in
    let i = c.in-Some.i in
    let at = c.in-Some.ensures.some in
    let slot = c.index_mut.result.now in
    let read = c.index_mut.ensures.value in
    through_none c.args.self.now _ number StartSync refl refl
    (closed_at as_held slots number i at slot read c.in-None.is) refl
    (put_back as_held slots number i at slot read)
