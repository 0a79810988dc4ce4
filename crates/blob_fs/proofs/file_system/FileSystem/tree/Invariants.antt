use Rattle.blob_fs.specs.States.{KeepsState}
use Rattle.blob_fs.proofs.file_system.FileSystem.tree.Given as goal

abbrev pub invariant-loop : goal.invariant-loop
invariant-loop g l = KeepsState l.fn.self l.self
