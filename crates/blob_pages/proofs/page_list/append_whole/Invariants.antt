use Rattle.std.proofs.Common.{◌≡◌, ◌≤◌, ◌<◌, ◌*◌, ◌-◌, ℕ, length, get_or}
use Rattle.blob_pages.specs.Paged.{page_size, byte_at, Extends}
use Rattle.blob_pages.proofs.page_list.append_whole.Given as goal

abbrev pub invariant-loop-i : goal.invariant-loop-i
invariant-loop-i l = record {
  extends : Extends l.initial.pages l.pages;
  here : length l.pages ≡ l.i;
  bytes : (p : ℕ) → page_size * l.have ≤ p → p < page_size * l.i → byte_at l.pages p ≡ get_or l.run (p - l.offset) 0;
}
