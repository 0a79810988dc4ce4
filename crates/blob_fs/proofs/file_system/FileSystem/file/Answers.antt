use Rattle.std.proofs.Common.{rules, ◌≡◌, None}
use Rattle.blob_fs.specs.Files.{file_of}
use Rattle.blob_fs.proofs.file_system.FileSystem.file.Goals as goal
use Rattle.blob_fs.proofs.file_system.FileSystem.file.Goals.{in_default-via-in-Some+else-not-as_ref, in_default-via-in_default}

pub returns-in_default : goal.returns-in_default
returns-in_default g c =
    elim c.in_default.branch [
      | in_default-via-in-Some+else-not-as_ref w ↦ search rules
      | in_default-via-in_default w ↦ search rules
    ]
