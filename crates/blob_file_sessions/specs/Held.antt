-- What files hold: a file system, or none.
use Rattle.std.specs.Prelude.{Option}
use Rattle.blob_fs.specs.declared.file_system.FileSystem.{FileSystem}
use Rattle.blob_lab_model.specs.Scripted.{Left}
use Rattle.blob_file_sessions.specs.declared.files.Files.{Files}
use Rattle.blob_file_sessions.specs.declared.kept.KeptFiles.{KeptFiles}

abbrev pub files_of : Files → Option KeptFiles
files_of files = files.loose.value

-- the file system; its generator is seen as the words that are left
abbrev pub fs_of : KeptFiles → FileSystem Left
fs_of k = k.fs
