use Rattle.std.proofs.Common.{refl, subst, map}
use Rattle.std.specs.Prelude.{is_some}
use Rattle.blob_model.specs.Directory.{Directory}
use Rattle.blob_base.specs.Names.{AreNames}
use Rattle.blob_lab_store.proofs.NamedCalls.{scan_done, scan_failed}
use Rattle.blob_lab_store.proofs.lab.Lab.scan.Goals as goal

pub returns-in-Ok : goal.returns-in-Ok
returns-in-Ok c =
    scan_done c.args.self.now _ refl refl refl c.in-Ok.ensures.leaves.unrecorded.numbers.config c.args.partition.now c.in-Ok.ensures.leaves.drawn c.in-Ok.ensures.leaves.files _ refl
    (λ d same. subst (λ (x : Directory). AreNames (map (λ name. name.items) c.in-Ok.names.items) (λ n. is_some (x.file c.args.partition.now n))) same c.in-Ok.ensures.names)
    c.in-Ok.ensures.allowed

pub returns-in-Err : goal.returns-in-Err
returns-in-Err c =
    scan_failed c.args.self.now _ refl refl refl c.in-Err.ensures.leaves.unrecorded.numbers.config c.args.partition.now c.in-Err.ensures.leaves.drawn c.in-Err.ensures.leaves.files _ c.in-Err.ensures.allowed
