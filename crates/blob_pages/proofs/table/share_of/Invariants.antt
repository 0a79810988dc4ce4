use Rattle.std.proofs.Common.{◌≡◌, All, map, take}
use Rattle.blob_pages.specs.Groups.{group_bytes, group_pages, NoneOwned, IsPacked}
use Rattle.blob_pages.proofs.table.share_of.Given as goal

abbrev pub invariant-loop-k : goal.invariant-loop-k
invariant-loop-k l = record {
  table : map group_bytes l.groups.items ≡ map group_bytes l.initial.groups.items;
  packed : IsPacked l.groups.items;
  copied : map group_bytes l.copies.items ≡ take l.k (map group_bytes l.initial.groups.items);
  shared : All (λ g. NoneOwned (group_pages g)) l.copies.items;
}
