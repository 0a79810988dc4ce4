use Rattle.std.proofs.Common.{rules}
use Rattle.blob_fs.proofs.Settling.{if_names}
use Rattle.blob_fs.proofs.file_system.FileSystem.settle_directory.Goals as goal

pub returns-then-eq-clause-some : goal.returns-then-eq-clause-some
returns-then-eq-clause-some g c = (c.settle_moved.ensures.names, if_names _ _ c.args.self.now.options.profile.settles (search rules) c.settle_moved.ensures.some)
