use Rattle.blob_fs.proofs.Standing.{standing_contents}
use Rattle.blob_fs.proofs.file_system.FileSystem.replace_rng.Goals as goal

pub invariant_of-self : goal.invariant_of-self
invariant_of-self g c = standing_contents c.args.self.now c.replace_rng.new.self c.replace_rng.ensures.contents
