use Rattle.std.proofs.Common.{refl, subst, sym}
use Rattle.blob_fs.specs.declared.file_system.FileSystem.{FileSystem}
use Rattle.blob_fs.specs.States.{KeepsState}
use Rattle.blob_fs.proofs.States.{keeps_as, keeps_self, keeps_twice}
use Rattle.blob_fs.proofs.file_system.FileSystem.close.Goals as goal
use Rattle.blob_fs.proofs.file_system.FileSystem.close.Goals.{then-drop_open, else-drop_open}

pub returns-in_err-reserve-clause-keeps : goal.returns-in_err-reserve-clause-keeps
returns-in_err-reserve-clause-keeps g c = keeps_as _ c.begin_call.ensures.keeps refl refl refl refl

pub returns-clause-keeps : goal.returns-clause-keeps
returns-clause-keeps g c =
    let gone : KeepsState c.drop_open.new.self c.if-drop_open.self = elim c.if-drop_open.branch [
      | then-drop_open w ↦ subst (λ (fs : FileSystem g.row.R.Denot). KeepsState c.drop_open.new.self fs) (sym w.self-is) w.let_go.ensures.keeps
      | else-drop_open w ↦ subst (λ (fs : FileSystem g.row.R.Denot). KeepsState c.drop_open.new.self fs) (sym w.self-is) (keeps_as _ (keeps_self c.drop_open.new.self) refl refl refl refl)
    ] in
    keeps_twice (keeps_twice (keeps_as _ c.begin_call.ensures.keeps refl refl refl refl) c.drop_open.ensures) (keeps_twice gone c.remove_gone.ensures.keeps)
