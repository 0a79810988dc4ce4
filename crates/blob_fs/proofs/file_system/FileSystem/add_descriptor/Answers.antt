use Rattle.std.proofs.Common.{refl}
use Rattle.blob_fs.proofs.States.{keeps_as, keeps_self, keeps_twice}
use Rattle.blob_fs.proofs.file_system.FileSystem.add_descriptor.Goals as goal

pub returns-clause-keeps : goal.returns-clause-keeps
returns-clause-keeps g c = keeps_twice (keeps_as _ (keeps_self c.args.self.now) refl refl refl refl) c.add_open.ensures.keeps
