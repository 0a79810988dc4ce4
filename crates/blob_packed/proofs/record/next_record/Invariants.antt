use Rattle.std.proofs.Common.{◌≡◌, ◌≤◌, length}
use Rattle.blob_packed.specs.Records.{found_from}
use Rattle.blob_packed.proofs.record.next_record.Given as goal

-- what the rest has is what the bytes have
abbrev pub invariant-loop-behind : goal.invariant-loop-behind
invariant-loop-behind l = record { same : found_from l.next l.rest ≡ found_from l.next l.bytes; short : length l.rest ≤ length l.bytes }

abbrev pub decreases-loop-behind : goal.decreases-loop-behind
decreases-loop-behind l = length l.rest
