use Rattle.blob_fs.proofs.Walking.{bound_at}
use Rattle.blob_fs.proofs.file_system.FileSystem.find.Goals as goal

pub returns : goal.returns
returns g c = bound_at c.look_up.result _ c.args.path.now c.in_ok-directory.directory c.in_ok-directory.name.now c.in_ok-directory.ensures c.look_up.ensures
