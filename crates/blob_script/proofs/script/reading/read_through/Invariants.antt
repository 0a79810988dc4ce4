use Rattle.std.proofs.Common.{◌≡◌, ◌≢◌, ◌≤◌, length, drop, vec_len}
use Rattle.std.specs.List.{All}
use Rattle.std.specs.Io.{StartsWith}
use Rattle.std.specs.Io.KnownBytes.{Consumes}
use Rattle.blob_script.proofs.script.reading.read_through.Given as goal

abbrev pub invariant-turns : goal.invariant-turns
invariant-turns g l = (l.start ≡ vec_len l.initial.bytes) × (l.start ≤ vec_len l.bytes) × StartsWith l.bytes.items l.initial.bytes.items
    × All (λ x. x ≢ l.byte) (drop (length l.initial.bytes.items) l.bytes.items)
    × Consumes (g.R.Read.remaining l.initial.reader) (g.R.Read.remaining l.reader) (drop (length l.initial.bytes.items) l.bytes.items)
