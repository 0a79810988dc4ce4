use Rattle.std.proofs.Common.{string_bytes}
use Rattle.blob_file_scripts.specs.ReplyLines.{Appends}
use Rattle.blob_file_scripts.proofs.reply_line.print_runs.Given as goal

abbrev pub invariant-loop-is_kept : goal.invariant-loop-is_kept
invariant-loop-is_kept l = Appends (string_bytes l.initial.line) (string_bytes l.line)
