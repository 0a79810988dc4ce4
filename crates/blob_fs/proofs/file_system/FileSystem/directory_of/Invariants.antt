use Rattle.std.proofs.Common.{length}
use Rattle.blob_directory.specs.Paths.{path_names}
use Rattle.blob_fs.specs.Files.{names_of}
use Rattle.blob_fs.proofs.Walking.{Walked}
use Rattle.blob_fs.proofs.file_system.FileSystem.directory_of.Given as goal

abbrev pub decreases-loop-next : goal.decreases-loop-next
decreases-loop-next g l = length l.left

abbrev pub invariant-loop-next : goal.invariant-loop-next
invariant-loop-next g l = Walked (names_of l.self) l.fn.path l.directory (path_names l.left)
