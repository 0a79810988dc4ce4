use Rattle.std.proofs.Common.{◌≤◌, ◌-◌, length, take}
use Rattle.blob_pages.specs.Paged.{Lays}
use Rattle.blob_pages.proofs.page_list.lay.Given as goal

abbrev pub invariant-loop-done : goal.invariant-loop-done
invariant-loop-done l = record {
  within : l.done ≤ length l.run;
  laid : Lays l.initial.pages l.pages l.offset (take l.done l.run);
}

abbrev pub decreases-loop-done : goal.decreases-loop-done
decreases-loop-done l = l.len - l.done
