use Rattle.std.proofs.Common.{◌≡◌, ◌++◌, take, string_bytes}
use Rattle.blob_file_scripts.specs.ReplyLines.{name_fields}
use Rattle.blob_file_scripts.proofs.reply_line.print_names.Given as goal

abbrev pub invariant-loop-name : goal.invariant-loop-name
invariant-loop-name l = string_bytes l.line ≡ string_bytes l.initial.line ++ name_fields (take l.name-index l.names)
