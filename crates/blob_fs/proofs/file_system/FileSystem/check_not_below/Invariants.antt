use Rattle.std.proofs.Common.{◌≡◌, ◌<◌, ℕ, Some}
use Rattle.std.specs.Prelude.{◌≢◌}
use Rattle.blob_fs.specs.Below.{above}
use Rattle.blob_fs.proofs.file_system.FileSystem.check_not_below.Given as goal

abbrev pub invariant-loop : goal.invariant-loop
invariant-loop g l = record {
  here : above l.fn.self.directories l.counter l.fn.directory ≡ Some l.at;
  none : (steps : ℕ) → steps < l.counter → above l.fn.self.directories steps l.fn.directory ≢ Some l.fn.inode;
}
