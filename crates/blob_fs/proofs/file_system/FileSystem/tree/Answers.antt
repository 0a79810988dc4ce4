use Rattle.blob_fs.proofs.States.{keeps_same, keeps_twice}
use Rattle.blob_fs.proofs.file_system.FileSystem.tree.Goals as goal
use Rattle.blob_fs.proofs.file_system.FileSystem.tree.Goals.{in-File+in_ok-bytes-in-File, in-Directory+in_ok-names-in-Directory+in_ok-push_names-in-Directory}

pub returns-in_err-bytes-in-File : goal.returns-in_err-bytes-in-File
returns-in_err-bytes-in-File g c = keeps_twice c.loop.invariant c.bytes_of.ensures

pub returns-in_err-push : goal.returns-in_err-push
returns-in_err-push g c = elim c.match-binding.branch [
  | in-File+in_ok-bytes-in-File w ↦ keeps_twice (keeps_twice c.loop.invariant w.bytes_of.ensures) (keeps_same w.bytes_of.new.self c.match-binding.self w.self-is)
  | in-Directory+in_ok-names-in-Directory+in_ok-push_names-in-Directory w ↦ keeps_twice c.loop.invariant (keeps_same c.loop.self c.match-binding.self w.self-is)
]

pub loop-preserved : goal.loop-preserved
loop-preserved g c = elim c.match-binding.branch [
  | in-File+in_ok-bytes-in-File w ↦ keeps_twice (keeps_twice c.loop.invariant w.bytes_of.ensures) (keeps_same w.bytes_of.new.self c.match-binding.self w.self-is)
  | in-Directory+in_ok-names-in-Directory+in_ok-push_names-in-Directory w ↦ keeps_twice c.loop.invariant (keeps_same c.loop.self c.match-binding.self w.self-is)
]
