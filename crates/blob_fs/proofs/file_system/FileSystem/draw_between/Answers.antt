use Rattle.blob_fs.proofs.Drawing.{only_self, only_twice}
use Rattle.blob_fs.proofs.file_system.FileSystem.draw_between.Goals as goal

pub loop-init : goal.loop-init
loop-init g c = only_self c.args.self.now

pub loop-preserved : goal.loop-preserved
loop-preserved g c = only_twice c.args.self.now c.loop.self c.draws-is_low.new.self c.loop.invariant c.draws-is_low.ensures.only
