use Rattle.std.proofs.Common.{◌≡◌, take, string_bytes}
use Rattle.blob_explore.specs.Outcomes.{reply_lines}
use Rattle.blob_explore.proofs.outcomes.print_lines.Given as goal

abbrev pub invariant-loop-reply : goal.invariant-loop-reply
invariant-loop-reply l = string_bytes l.text ≡ reply_lines (take l.reply-index l.replies)
