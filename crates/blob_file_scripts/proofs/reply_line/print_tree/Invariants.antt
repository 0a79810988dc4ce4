use Rattle.std.proofs.Common.{◌≡◌, ◌++◌, take, string_bytes}
use Rattle.std.specs.List.{flat_map}
use Rattle.blob_file_scripts.specs.ReplyLines.{tree_field}
use Rattle.blob_file_scripts.proofs.reply_line.print_tree.Given as goal

abbrev pub invariant-loop-entry : goal.invariant-loop-entry
invariant-loop-entry l = string_bytes l.line ≡ string_bytes l.initial.line ++ flat_map tree_field (take l.entry-index l.entries)
