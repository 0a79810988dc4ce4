use Rattle.std.proofs.Common.{refl}
use Rattle.blob_fs.proofs.Drawing.{only_contents, only_twice}
use Rattle.blob_fs.proofs.Standing.{standing_contents}
use Rattle.blob_fs.proofs.file_system.FileSystem.draw_growth.Goals as goal

pub invariant_of-self : goal.invariant_of-self
invariant_of-self g c = standing_contents c.draws-is_failed.new.self c.set_config.new.self c.set_config.ensures.contents

pub returns-clause-drawn : goal.returns-clause-drawn
returns-clause-drawn g c =
    let one = c.draws-is_failed.new.self in
    only_twice c.args.self.now one _ c.draws-is_failed.ensures.only (only_contents one _ (record { files = refl; opens = refl; options = refl }) refl c.set_config.ensures.contents)
