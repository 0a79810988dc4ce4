use Rattle.std.proofs.Common.{◌++◌, List, ℕ}
use Rattle.std.specs.Prelude.{map}
use Rattle.std.specs.Map.Iter.{deref_pair}
use Rattle.blob_memory.specs.Audit.{pieces_of}
use Rattle.blob_header.specs.Register.{HasTaken}
use Rattle.blob_memory.specs.Listing.{listing_in}
use Rattle.blob_memory.proofs.audit.feed_names.Given as goal

abbrev pub invariant-loop-name : goal.invariant-loop-name
invariant-loop-name l = (before : List ℕ) → HasTaken l.fn.crc before → HasTaken l.crc (before ++ pieces_of (listing_in l.partition (map deref_pair l.yielded)))
