use Rattle.std.proofs.Common.{◌<◌, ◌^◌, length}
use Rattle.blob_tokens.proofs.Decimals.{Parsed}
use Rattle.blob_tokens.proofs.digits.parse_many.Given as goal

abbrev pub invariant-loop-rest : goal.invariant-loop-rest
invariant-loop-rest l = record { parsed : Parsed l.digits l.rest l.value; small : l.value < 2 ^ 64 }

abbrev pub decreases-loop-rest : goal.decreases-loop-rest
decreases-loop-rest l = length l.rest
