use Rattle.std.proofs.Common.{take}
use Rattle.blob_choices.specs.Outcomes.{SetNoPartialResize, acts_of}
use Rattle.blob_explore.proofs.shared.make_undrawn.Given as goal

abbrev pub invariant-loop-i : goal.invariant-loop-i
invariant-loop-i l = SetNoPartialResize (acts_of (take l.i l.calls))
