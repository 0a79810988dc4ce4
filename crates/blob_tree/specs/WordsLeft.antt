-- How many words of a stream are left before it is zeros alone.
use Rattle.std.specs.Prelude.{◌≡◌, ◌≢◌, ◌≤◌, ◌+◌, ℕ, replicate}
use Rattle.rand_core.specs.Stream.{Stream, u64_call}

-- the word at index i of a stream
abbrev pub word_at : Stream → ℕ → ℕ
word_at s i = s.u64_after (replicate i u64_call)

-- Every word from index n on is zero, and the word before it isn't. At most one n is so.
pub record EndsAfter (s : Stream) (n : ℕ) : Type 0 where
  pub zeros : (i : ℕ) → n ≤ i → word_at s i ≡ 0
  pub last : (i : ℕ) → n ≡ i + 1 → word_at s i ≢ 0
