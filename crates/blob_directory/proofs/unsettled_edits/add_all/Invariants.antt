use Rattle.std.proofs.Common.{◌≡◌, true, take}
use Rattle.std.specs.List.{list_all}
use Rattle.blob_directory.specs.Indexes.{KeepsAll, is_indexed}
use Rattle.blob_directory.proofs.unsettled_edits.add_all.Given as goal

abbrev pub invariant-loop-edit : goal.invariant-loop-edit
invariant-loop-edit l = record {
  keeps : KeepsAll l.fn.index l.index;
  added : list_all (is_indexed l.index) (take l.edit-index l.edits) ≡ true;
}
