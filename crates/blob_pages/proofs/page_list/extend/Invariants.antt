use Rattle.std.proofs.Common.{◌≡◌, length}
use Rattle.blob_pages.specs.Paged.{Extends, AreOwned}
use Rattle.blob_pages.proofs.page_list.extend.Given as goal

abbrev pub invariant-loop-have : goal.invariant-loop-have
invariant-loop-have l = record {
  extends : Extends l.initial.pages l.pages;
  owned : AreOwned l.pages (length l.initial.pages) (length l.pages);
  have : length l.pages ≡ l.have;
}
