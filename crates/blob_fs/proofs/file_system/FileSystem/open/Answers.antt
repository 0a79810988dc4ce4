use Rattle.blob_fs.proofs.States.{keeps_twice}
use Rattle.blob_fs.proofs.file_system.FileSystem.open.Goals as goal

pub returns-clause-keeps : goal.returns-clause-keeps
returns-clause-keeps g c = keeps_twice c.begin_call.ensures.keeps c.open_inode.ensures.keeps
