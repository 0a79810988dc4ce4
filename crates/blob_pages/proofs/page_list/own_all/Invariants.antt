use Rattle.blob_pages.specs.Paged.{Keeps, AreOwned}
use Rattle.blob_pages.proofs.page_list.own_all.Given as goal

abbrev pub invariant-loop-i : goal.invariant-loop-i
invariant-loop-i l = record {
  keeps : Keeps l.initial.pages l.pages;
  owned : AreOwned l.pages l.from l.i;
}
