use Rattle.std.proofs.Common.{refl, sym, ◌∙◌}
use Rattle.blob_script.specs.Acts.{Read}
use Rattle.blob_lab_store.specs.Tables.{as_held, handles_of}
use Rattle.blob_lab_store.proofs.AskSteps.{read_done, read_failed}
use Rattle.blob_lab_store.proofs.CallSteps.{set_kept}
use Rattle.blob_lab_store.proofs.ThroughHandles.{through_some}
use Rattle.blob_lab_store.proofs.lab.Lab.read.Goals as goal

pub returns-in-Ok : goal.returns-in-Ok
returns-in-Ok c =
    let h = as_held c.in-Some.handle.now in
    let here = sym c.in-Some.ensures in
    let e = c.in-Ok.ensures in
    through_some c.args.self.now _ c.args.number (Read c.args.offset c.args.len) refl refl h h _ refl (λ v r. refl) here
    (read_done c.args.self.now.wrapper c.read_at.new.store h c.args.offset c.args.len e.leaves.drawn e.directory e.durable e.leaves.unrecorded
    _ refl (c.coalesce.ensures.bytes ∙ e.bytes) e.allowed)
    (sym (set_kept (handles_of c.args.self.now.handles) c.args.number h here))

pub returns-in-Err : goal.returns-in-Err
returns-in-Err c =
    let h = as_held c.in-Some.handle.now in
    let here = sym c.in-Some.ensures in
    let e = c.in-Err.ensures in
    through_some c.args.self.now _ c.args.number (Read c.args.offset c.args.len) refl refl h h _ refl (λ v r. refl) here
    (read_failed c.args.self.now.wrapper c.read_at.new.store h c.args.offset c.args.len e.leaves.drawn e.directory e.durable e.leaves.unrecorded
    _ e.allowed)
    (sym (set_kept (handles_of c.args.self.now.handles) c.args.number h here))
