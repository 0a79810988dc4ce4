use Rattle.blob_fs.proofs.Drawing.{only_twice}
use Rattle.blob_fs.proofs.file_system.FileSystem.draw_truncation.Goals as goal

pub returns-then-not-draws-2-clause-drawn : goal.returns-then-not-draws-2-clause-drawn
returns-then-not-draws-2-clause-drawn g c = only_twice c.args.self.now c.draws.new.self c.draws-2.new.self c.draws.ensures.only c.draws-2.ensures.only

pub returns-clause-drawn : goal.returns-clause-drawn
returns-clause-drawn g c =
    only_twice c.args.self.now c.draws-2.new.self c.draw_between-reached.new.self
    (only_twice c.args.self.now c.draws.new.self c.draws-2.new.self c.draws.ensures.only c.draws-2.ensures.only) c.draw_between-reached.ensures.drawn
