use Rattle.std.proofs.Common.{◌≡◌, ◌++◌, take, string_bytes}
use Rattle.blob_script.specs.Replies.{choice_digits}
use Rattle.blob_file_scripts.proofs.reply_line.print_edits.Given as goal

abbrev pub invariant-loop-is_kept : goal.invariant-loop-is_kept
invariant-loop-is_kept l = string_bytes l.line ≡ string_bytes l.initial.line ++ choice_digits (take l.is_kept-index l.edits)
