use Rattle.std.proofs.Common.{length}
use Rattle.blob_tokens.proofs.HexParts.{Parts}
use Rattle.blob_tokens.proofs.hex_text.decode_parts.Given as goal

abbrev pub invariant-loop-rest : goal.invariant-loop-rest
invariant-loop-rest l = Parts l.digits l.rest l.bytes.items

abbrev pub decreases-loop-rest : goal.decreases-loop-rest
decreases-loop-rest l = length l.rest
