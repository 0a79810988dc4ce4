use Rattle.blob_fs.proofs.States.{keeps_twice}
use Rattle.blob_fs.proofs.file_system.FileSystem.drop_link.Goals as goal

pub returns-clause-keeps : goal.returns-clause-keeps
returns-clause-keeps g c = keeps_twice c.drop_name.ensures.keeps c.let_go.ensures.keeps
