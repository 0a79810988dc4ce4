use Rattle.blob_fs.specs.Files.{KeepsJournal}
use Rattle.blob_fs.specs.States.{KeepsState}
use Rattle.blob_fs.proofs.file_system.FileSystem.remove_gone.Given as goal

abbrev pub invariant-loop-i : goal.invariant-loop-i
invariant-loop-i g l = record {
  journal : KeepsJournal l.fn.self l.self;
  keeps : KeepsState l.fn.self l.self;
}
