use Rattle.std.proofs.Common.{◌≡◌, ◌*◌, length}
use Rattle.blob_tokens.proofs.HexDigits.{Decodes, Reads}
use Rattle.blob_tokens.proofs.hex_text.decode_pairs.Given as goal

abbrev pub invariant-blocks-2 : goal.invariant-blocks-2
invariant-blocks-2 l = record { decoded : Decodes l.digits l.bytes (16 * l.k); whole : length l.digits ≡ 2 * length l.bytes }

abbrev pub invariant-pairs : goal.invariant-pairs
invariant-pairs l = Reads l.digits l.bytes l.i l.seen
