-- Given words as a stream, and the words after them.
use Rattle.std.specs.Prelude.{ℕ, List, [], ◌∷◌, Option, Some, None}
use Rattle.rand_core.specs.Stream.{Stream}
use Rattle.rand_core.specs.Steps.{stream_of, steps_u64_low}
use Rattle.rand_xoshiro.specs.Xoshiro256.{plus_plus}
pub use Rattle.blob_script.specs.Preambles.{Words, only, behind_seeded}

-- the remaining words, then xoshiro256++ from this state, or zeros forever
abbrev pub Left : Type 0
Left = List ℕ × Option (List ℕ)

-- the next word and the rest
abbrev pub next_of : Left → ℕ × Left
next_of (w ∷ ws, behind) = (w, (ws, behind))
next_of ([], None) = (0, ([], None))
next_of ([], Some state) = ((plus_plus state).0, ([], Some (plus_plus state).1))

-- a draw of 32 bits is the low half of one word
abbrev pub scripted_stream : Left → Stream
scripted_stream = stream_of (steps_u64_low next_of)
