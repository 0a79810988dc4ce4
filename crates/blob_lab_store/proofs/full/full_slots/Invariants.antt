use Rattle.std.proofs.Common.{◌≡◌, ◌+◌, ◌≤◌, ◌++◌, length, vec_len, vec_capacity, reverse}
use Rattle.blob_lab_store.specs.Slots.{full_numbers, full_values}
use Rattle.blob_lab_store.proofs.full.full_slots.Given as goal

abbrev pub invariant-loop-slot : goal.invariant-loop-slot
invariant-loop-slot g l = record {
  within : vec_len l.values ≤ length l.fn.numbers;
  for_numbers : vec_len l.values + vec_len l.full ≤ vec_capacity l.full;
  for_values : vec_len l.values + vec_len l.moved ≤ vec_capacity l.moved;
  numbers : full_numbers l.fn.numbers l.values.items ++ reverse l.full.items ≡ full_numbers l.fn.numbers l.fn.values.items;
  moved : full_values l.values.items ++ reverse l.moved.items ≡ full_values l.fn.values.items;
}

abbrev pub decreases-loop-slot : goal.decreases-loop-slot
decreases-loop-slot g l = goal.left-loop-slot g l
