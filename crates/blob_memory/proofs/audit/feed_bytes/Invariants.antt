use Rattle.std.proofs.Common.{◌≤◌, ◌-◌, ◌++◌, List, ℕ, take}
use Rattle.blob_header.specs.Register.{HasTaken}
use Rattle.blob_memory.proofs.audit.feed_bytes.Given as goal

abbrev pub invariant-loop-done : goal.invariant-loop-done
invariant-loop-done l = record {
  within : l.done ≤ l.len;
  fed : (before : List ℕ) → HasTaken l.initial.crc before → HasTaken l.crc (before ++ take l.done l.bytes.items);
}

abbrev pub decreases-loop-done : goal.decreases-loop-done
decreases-loop-done l = l.len - l.done
