use Rattle.std.proofs.Common.{◌≤◌, ◌-◌, replicate}
use Rattle.blob_pages.specs.Paged.{Lays}
use Rattle.blob_pages.proofs.page_list.blank.Given as goal

abbrev pub invariant-loop-at : goal.invariant-loop-at
invariant-loop-at l = record {
  low : l.from ≤ l.at;
  high : l.at ≤ l.to;
  laid : Lays l.initial.pages l.pages l.from (replicate (l.at - l.from) 0);
}

abbrev pub decreases-loop-at : goal.decreases-loop-at
decreases-loop-at l = l.to - l.at
