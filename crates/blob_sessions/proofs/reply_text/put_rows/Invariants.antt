use Rattle.std.proofs.Common.{take}
use Rattle.std.specs.List.{flat_map}
use Rattle.blob_script.specs.Replies.{row_field}
use Rattle.blob_draws.specs.Rows.{row_in}
use Rattle.blob_sessions.specs.ReplyTexts.{PutsTo}
use Rattle.blob_sessions.proofs.reply_text.put_rows.Given as goal

abbrev pub invariant-loop-number : goal.invariant-loop-number
invariant-loop-number l = PutsTo l.at (flat_map (λ row. row_field (row_in row)) (take l.number-index l.rows)) l.fn.into l.into l.end
