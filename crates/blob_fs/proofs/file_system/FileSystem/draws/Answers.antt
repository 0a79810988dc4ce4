use Rattle.std.proofs.Common.{refl}
use Rattle.blob_fs.proofs.Drawing.{only_contents}
use Rattle.blob_fs.proofs.Standing.{standing_contents}
use Rattle.blob_fs.proofs.file_system.FileSystem.draws.Goals as goal

pub invariant_of-self : goal.invariant_of-self
invariant_of-self g c = standing_contents c.args.self.now c.draw.new.self c.draw.ensures.contents

pub returns-clause-only : goal.returns-clause-only
returns-clause-only g c = only_contents c.args.self.now _ (record { files = refl; opens = refl; options = refl }) refl c.draw.ensures.contents
