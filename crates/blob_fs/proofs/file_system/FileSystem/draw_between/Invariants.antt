use Rattle.blob_fs.specs.Draws.{OnlyDraws}
use Rattle.blob_fs.proofs.file_system.FileSystem.draw_between.Given as goal

abbrev pub invariant-loop : goal.invariant-loop
invariant-loop g l = OnlyDraws l.fn.self l.self
