use Rattle.std.proofs.Common.{◌≡◌, ◌≤◌, ℕ, get_or, vec_len}
use Rattle.blob_lab_store.proofs.scripted_rng.ScriptedRng.left.Given as goal

abbrev pub invariant-loop-end : goal.invariant-loop-end
invariant-loop-end l = record {
  least : l.self-inside.at ≤ l.end;
  most : l.end ≤ vec_len l.self-inside.words;
  zeros : (i : ℕ) → l.end ≤ i → get_or l.self-inside.words.items i 0 ≡ 0;
}

abbrev pub decreases-loop-end : goal.decreases-loop-end
decreases-loop-end l = l.end
