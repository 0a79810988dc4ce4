use Rattle.blob_states.proofs.names.has.Given as goal

abbrev pub invariant-loop-known : goal.invariant-loop-known
invariant-loop-known l = Unit {0}
