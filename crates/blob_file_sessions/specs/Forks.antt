-- A second session of files in the same state.
use Rattle.std.specs.Prelude.{◌≡◌, ◌⊎◌, ℕ}
use Rattle.blob_fs.specs.Files.{generator_of}
use Rattle.blob_fs.specs.Fixed.{KeepsFixed}
use Rattle.blob_fs.specs.Forks.{CrashesSame, IsFork, LooksSame}
use Rattle.blob_file_sessions.specs.Copies.{IsLastCopy}
use Rattle.blob_file_sessions.specs.Exports.{OnFiles}
use Rattle.blob_file_sessions.specs.Held.{fs_of}
use Rattle.blob_file_sessions.specs.declared.files.Files.{Files}
use Rattle.blob_file_sessions.specs.declared.kept.KeptFiles.{KeptFiles}
use Rattle.blob_file_sessions.specs.declared.refusals.TheConstants.{CRASHED}
use Rattle.blob_statuses.specs.declared.ran.TheConstants.{BAD_CALL, CLOSED, DONE, NO_MEMORY}

-- The same names, files, descriptors and options, the same generator, last reply and supply of power. Calls see the same of
-- both, a crash may leave the same of both, and a byte that is fixed in the first is fixed in the fork.
pub record IsKeptFork (k fork : KeptFiles) : Type 0 where
  pub fs : IsFork (fs_of k) (fs_of fork)
  pub generator : generator_of (fs_of fork) ≡ generator_of (fs_of k)
  pub looks : LooksSame (fs_of k) (fs_of fork)
  pub crashes : CrashesSame (fs_of k) (fs_of fork)
  pub fixed : KeepsFixed (fs_of k) (fs_of fork)
  pub last : IsLastCopy k.last fork.last
  pub power : fork.power ≡ k.power

-- open files have a fork in the other ones, which are open then
abbrev pub HasForkIn : Files → Files → Type 0
HasForkIn files fork = OnFiles files fork IsKeptFork ⊥

-- what a fork returns
abbrev pub IsForkStatus : ℕ → Type 0
IsForkStatus status = (status ≡ DONE) ⊎ (status ≡ BAD_CALL) ⊎ (status ≡ CLOSED) ⊎ (status ≡ CRASHED) ⊎ (status ≡ NO_MEMORY)
