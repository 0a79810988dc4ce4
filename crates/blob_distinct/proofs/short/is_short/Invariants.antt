use Rattle.std.proofs.Common.{take}
use Rattle.blob_choices.specs.Outcomes.{NoneOutOfMemory}
use Rattle.blob_distinct.proofs.short.is_short.Given as goal

abbrev pub invariant-loop-reply : goal.invariant-loop-reply
invariant-loop-reply l = NoneOutOfMemory (take l.reply-index l.replies)
