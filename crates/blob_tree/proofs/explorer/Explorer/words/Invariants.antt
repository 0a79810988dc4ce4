use Rattle.std.proofs.Common.{◌≡◌, ◌≤◌, length, vec_len, vec_capacity, take}
use Rattle.blob_tree.specs.Trees.{words_of}
use Rattle.blob_tree.proofs.explorer.Explorer.words.Given as goal

abbrev pub invariant-loop-outcome : goal.invariant-loop-outcome
invariant-loop-outcome l = record {
  room : length l.outcome-items ≤ vec_capacity l.words;
  count : vec_len l.words ≡ l.outcome-index;
  words : l.words.items ≡ words_of (take l.outcome-index l.outcome-items);
}
