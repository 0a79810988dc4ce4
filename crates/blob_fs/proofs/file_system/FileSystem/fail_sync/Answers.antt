use Rattle.std.proofs.Common.{sym, subst}
use Rattle.blob_fs.specs.declared.file_system.FileSystem.{FileSystem}
use Rattle.blob_fs.specs.States.{KeepsState}
use Rattle.blob_fs.proofs.States.{keeps_same}
use Rattle.blob_fs.proofs.file_system.FileSystem.fail_sync.Goals as goal
use Rattle.blob_fs.proofs.file_system.FileSystem.fail_sync.Goals.{then-eq+then-matches+in_default-drop_unsynced, else-eq}

pub returns : goal.returns
returns g c =
    elim c.if-eq.branch [
      | then-eq+then-matches+in_default-drop_unsynced w ↦ subst (λ (fs : FileSystem g.row.R.Denot). KeepsState c.args.self.now fs) (sym w.self-is) w.drop_unsynced.ensures
      | else-eq w ↦ keeps_same c.args.self.now c.if-eq.self w.self-is
    ]
