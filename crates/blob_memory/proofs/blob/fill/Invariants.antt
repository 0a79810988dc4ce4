use Rattle.std.proofs.Common.{◌≡◌, ◌≤◌, ◌-◌, take, drop}
use Rattle.blob_memory.proofs.blob.fill.Given as goal

abbrev pub invariant-loop-done : goal.invariant-loop-done
invariant-loop-done l = record {
  within : l.done ≤ l.len;
  bytes : l.buf.bytes ≡ take l.done (drop l.at l.live.items);
  room : l.initial.buf.capacity ≤ l.buf.capacity;
}

abbrev pub decreases-loop-done : goal.decreases-loop-done
decreases-loop-done l = l.len - l.done
