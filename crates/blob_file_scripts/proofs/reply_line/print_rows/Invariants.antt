use Rattle.std.proofs.Common.{string_bytes}
use Rattle.blob_file_scripts.specs.ReplyLines.{Appends}
use Rattle.blob_file_scripts.proofs.reply_line.print_rows.Given as goal

abbrev pub invariant-loop-place : goal.invariant-loop-place
invariant-loop-place l = Appends (string_bytes l.initial.line) (string_bytes l.line)
