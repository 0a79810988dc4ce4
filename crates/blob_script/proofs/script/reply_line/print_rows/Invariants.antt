use Rattle.std.proofs.Common.{◌≡◌, ◌++◌, map, take, string_bytes, if◌then◌else◌}
use Rattle.std.specs.List.{flat_map}
use Rattle.blob_draws.specs.Rows.{rows_in}
use Rattle.blob_script.specs.Replies.{row_field}
use Rattle.blob_script.proofs.script.reply_line.print_rows.Given as goal

abbrev pub invariant-loop-number : goal.invariant-loop-number
invariant-loop-number l = string_bytes l.line ≡ string_bytes l.initial.line ++ flat_map row_field (rows_in (take l.number-index l.rows))

abbrev pub invariant-loop-kept : goal.invariant-loop-kept
invariant-loop-kept l = string_bytes l.line ≡ string_bytes l.initial.line ++ map (λ kept. if kept then 49 else 48) (take l.kept-index l.kept-items)
