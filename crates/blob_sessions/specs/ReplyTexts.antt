-- A text in a caller's buffer.
use Rattle.std.specs.Prelude.{◌≡◌, ◌+◌, ◌^◌, ◌≤◌, ◌++◌, ℕ, List, Option, MatchOption, length, take, drop}

-- if the buffer is long enough, it has the text from the index `at` up to `end`. The other bytes don't change
pub record PutsTo (at : ℕ) (text old new : List ℕ) (end : ℕ) : Type 0 where
  pub ends : end ≡ at + length text
  pub len : length new ≡ length old
  pub written : end ≤ length old → take end new ≡ take at old ++ text
  pub behind : end ≤ length old → drop end new ≡ drop end old

-- returns the index after the text, `None` if it doesn't fit in 64 bits
abbrev pub Puts : ℕ → List ℕ → List ℕ → List ℕ → Option ℕ → Type 0
Puts at text old new result = MatchOption result (2 ^ 64 ≤ at + length text) (PutsTo at text old new)
