use Rattle.std.proofs.Common.{◌≡◌, All, map, take}
use Rattle.blob_pages.specs.Groups.{group_bytes, IsSound}
use Rattle.blob_pages.proofs.table.copy_of.Given as goal

abbrev pub invariant-loop-k : goal.invariant-loop-k
invariant-loop-k l = record {
  copied : map group_bytes l.copies.items ≡ take l.k (map group_bytes l.groups);
  sound : All IsSound l.copies.items;
}
