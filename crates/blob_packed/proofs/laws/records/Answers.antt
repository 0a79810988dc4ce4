use Rattle.blob_packed.proofs.Losses.{left_are_found, one_more, one_more_is_left, packed_is_left, settled, settled_is_left}
use Rattle.blob_packed.proofs.Scans.{packed_are_found}
use Rattle.blob_packed.proofs.laws.records.Goals as goal

pub returns : goal.returns
returns c = record {
  found = packed_are_found;
  left = packed_is_left;
  kept = left_are_found;
  more = one_more;
  more_left = one_more_is_left;
  settled = settled;
  settled_left = settled_is_left;
}
