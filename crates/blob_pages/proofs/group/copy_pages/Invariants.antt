use Rattle.std.proofs.Common.{◌≡◌, map, take}
use Rattle.blob_pages.specs.Paged.{page_bytes, is_owned}
use Rattle.blob_pages.proofs.group.copy_pages.Given as goal

abbrev pub invariant-loop-i : goal.invariant-loop-i
invariant-loop-i l = record {
  bytes : map page_bytes l.copies.items ≡ take l.i (map page_bytes l.pages);
  owned : map is_owned l.copies.items ≡ take l.i (map is_owned l.pages);
}
