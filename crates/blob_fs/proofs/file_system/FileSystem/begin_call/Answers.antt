use Rattle.blob_fs.proofs.Standing.{standing_contents}
use Rattle.blob_fs.proofs.file_system.FileSystem.begin_call.Goals as goal

pub invariant_of-self : goal.invariant_of-self
invariant_of-self g c = standing_contents c.args.self.now c.set_config.new.self c.set_config.ensures.contents
