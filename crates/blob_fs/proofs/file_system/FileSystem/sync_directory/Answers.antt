use Rattle.std.proofs.Common.{refl}
use Rattle.blob_fs.proofs.Calls.{on_ok}
use Rattle.blob_fs.proofs.Settling.{some_kept}
use Rattle.blob_fs.proofs.file_system.FileSystem.sync_directory.Goals as goal

pub returns-clause-settled : goal.returns-clause-settled
returns-clause-settled g c =
    on_ok c.sync_directory_at.result c.sync_directory_at.ensures.settled c.sync_directory_at.ensures.settled (λ s _ honest.
    record { directory = c.in_ok-directory.directory; leads = c.in_ok-directory.ensures; settled = s honest })

pub returns-in_err-directory-clause-some : goal.returns-in_err-directory-clause-some
returns-in_err-directory-clause-some g c = (refl, some_kept _ _ refl)
