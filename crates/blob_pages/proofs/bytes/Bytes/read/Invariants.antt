use Rattle.std.proofs.Common.{ℕ, ◌≡◌, ◌≤◌, ◌<◌, ◌+◌, ◌-◌, length, get_or}
use Rattle.blob_pages.proofs.bytes.Bytes.read.Given as goal

abbrev pub invariant-loop-done : goal.invariant-loop-done
invariant-loop-done l = record {
  within : l.done ≤ l.len;
  same : length l.out ≡ length l.initial.out;
  read : (k : ℕ) → k < l.done → get_or l.out k 0 ≡ get_or l.self.items (l.at + k) 0;
}

abbrev pub decreases-loop-done : goal.decreases-loop-done
decreases-loop-done l = l.len - l.done
