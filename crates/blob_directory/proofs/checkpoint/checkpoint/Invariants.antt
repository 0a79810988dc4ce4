use Rattle.blob_directory.specs.Tables.{bound}
use Rattle.blob_directory.specs.Trees.{has_directory}
use Rattle.blob_directory.proofs.Checkpoints.{Written}
use Rattle.blob_directory.proofs.checkpoint.checkpoint.Given as goal

abbrev pub invariant-loop-directory : goal.invariant-loop-directory
invariant-loop-directory l = Written (bound l.tree.names) (has_directory l.tree) l.directory-iterator l.bytes.items l.number
