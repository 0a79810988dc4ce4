use Rattle.std.proofs.Common.{refl, sym}
use Rattle.blob_lab_store.specs.Tables.{as_held}
use Rattle.blob_lab_store.proofs.CallSteps.{close_some, close_none}
use Rattle.blob_lab_store.proofs.lab.Lab.close.Goals as goal

pub returns-in-Some : goal.returns-in-Some
returns-in-Some c = close_some c.args.self.now _ c.args.number refl refl (as_held c.in-Some.handle) (sym c.in-Some.ensures.handle) c.close.ensures c.in-Some.ensures.taken

pub returns-in-None : goal.returns-in-None
returns-in-None c = close_none c.args.self.now _ c.args.number refl refl (sym c.in-None.ensures.handle) refl c.in-None.ensures.none
