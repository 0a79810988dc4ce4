use Rattle.std.proofs.Common.{◌++◌, List, ℕ}
use Rattle.std.specs.Prelude.{map}
use Rattle.std.specs.Map.Iter.{deref_pair}
use Rattle.blob_memory.specs.Audit.{pieces_of}
use Rattle.blob_header.specs.Register.{HasTaken}
use Rattle.blob_memory.specs.Listing.{listing_all, AreAllOrdered}
use Rattle.blob_memory.proofs.audit.feed_partitions.Given as goal

abbrev pub invariant-loop-partition : goal.invariant-loop-partition
invariant-loop-partition l = record {
  fed : (before : List ℕ) → HasTaken l.fn.crc before → HasTaken l.crc (before ++ pieces_of (listing_all (map deref_pair l.yielded)));
  ordered : AreAllOrdered (map deref_pair l.yielded);
}
