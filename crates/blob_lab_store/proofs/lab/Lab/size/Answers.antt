use Rattle.std.proofs.Common.{refl, sym}
use Rattle.blob_script.specs.Acts.{Size}
use Rattle.blob_lab_store.specs.Tables.{as_held}
use Rattle.blob_lab_store.proofs.CallSteps.{size_some}
use Rattle.blob_lab_store.proofs.ThroughHandles.{through_none}
use Rattle.blob_lab_store.proofs.lab.Lab.size.Goals as goal

pub returns-in-Some : goal.returns-in-Some
returns-in-Some c = size_some c.args.self.now c.args.number c.size.result (as_held c.in-Some.handle.now) c.size.ensures (sym c.in-Some.ensures)

pub returns-in-None : goal.returns-in-None
returns-in-None c = through_none c.args.self.now _ c.args.number Size refl refl (sym c.in-None.ensures) refl refl
