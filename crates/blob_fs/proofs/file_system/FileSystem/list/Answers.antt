use Rattle.blob_fs.proofs.Walking.{lists_at}
use Rattle.blob_fs.proofs.file_system.FileSystem.list.Goals as goal

pub returns : goal.returns
returns g c = lists_at c.list_at.result _ c.args.path.now c.in_ok-directory.directory c.in_ok-directory.ensures c.list_at.ensures.only c.list_at.ensures.all
