use Rattle.std.proofs.Common.{ℕ, ◌≡◌, ◌<◌, false, map, get_or}
use Rattle.blob_pages.specs.declared.page.Page.{Page}
use Rattle.blob_pages.specs.Paged.{page_bytes, is_owned}
use Rattle.blob_pages.proofs.group.close_all.Given as goal

abbrev pub invariant-loop-i : goal.invariant-loop-i
invariant-loop-i l = record {
  bytes : map page_bytes l.pages ≡ map page_bytes l.initial.pages;
  shared : (j : ℕ) (d : Page) → j < l.i → is_owned (get_or l.pages j d) ≡ false;
}
