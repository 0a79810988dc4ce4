use Rattle.std.proofs.Common.{ℕ, ◌≡◌, ◌≤◌, ◌+◌, ◌-◌, ◌++◌, take, drop}
use Rattle.std.specs.Prelude.{vec_capacity}
use Rattle.blob_pages.specs.Paged.{bytes_in}
use Rattle.blob_pages.proofs.page_list.append_from.Given as goal

abbrev pub invariant-loop-done : goal.invariant-loop-done
invariant-loop-done l = record {
  within : l.done ≤ l.len;
  bytes : (n : ℕ) → l.at + l.len ≤ n → l.out.items ≡ l.initial.out.items ++ take l.done (drop l.at (bytes_in l.pages n));
  capacity : vec_capacity l.initial.out ≤ vec_capacity l.out;
}

abbrev pub decreases-loop-done : goal.decreases-loop-done
decreases-loop-done l = l.len - l.done
