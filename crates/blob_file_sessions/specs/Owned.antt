-- What a `Loose` owns: the box at its pointer, if it has one.
use Rattle.std.specs.Prelude.{Option}
use Rattle.std.specs.Coded.{Coded, coded_option}
use Rattle.blob_file_sessions.specs.declared.kept.KeptFiles.{KeptFiles}
use Rattle.blob_file_sessions.specs.contracts.kept.KeptFiles as row

abbrev pub kept_code : Coded (Option KeptFiles)
kept_code = coded_option (row.the_row).coded
