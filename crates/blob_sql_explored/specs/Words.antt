-- Given words, and zeros after them.
use Rattle.std.specs.Prelude.{ℕ, List, [], ◌∷◌}
use Rattle.rand_core.specs.Stream.{Stream}
use Rattle.rand_core.specs.Steps.{stream_of, steps_u64_low}

-- the next word and the rest
abbrev pub next_of : List ℕ → ℕ × List ℕ
next_of (w ∷ ws) = (w, ws)
next_of [] = (0, [])

-- a draw of 32 bits is the low half of one word
abbrev pub words_stream : List ℕ → Stream
words_stream = stream_of (steps_u64_low next_of)
