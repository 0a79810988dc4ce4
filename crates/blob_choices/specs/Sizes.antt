-- The words that draw a size strictly between two others, as a partial resize does.
use Rattle.std.specs.Prelude.{◌≡◌, ◌<◌, ◌≤◌, ◌+◌, ◌-◌, ◌*◌, ◌/◌, ◌%◌, ◌^◌, ℕ, Bool, nat_lt, if◌then◌else◌}
use Rattle.std.specs.Prelude.{List, [], ◌∷◌, ◌++◌}
use Rattle.rand_core.specs.Stream.{Stream}
use Rattle.blob_draws.specs.Faults.{size_between}
use Rattle.blob_lab_model.specs.Scripted.{Left, scripted_stream}
use Rattle.blob_choices.specs.Decided.{HasU64Words}

-- the number of sizes strictly between two others
abbrev pub sizes_between : ℕ → ℕ → ℕ
sizes_between low high = high - (low + 1)

-- The word that draws the size at index k of n, counted from 0: k * 2^64 / n, rounded up. If the draw takes a second word,
-- that is 0.
abbrev pub size_word : ℕ → ℕ → ℕ
size_word n k = (k * 2 ^ 64 + (n - 1)) / n

abbrev pub takes_second : ℕ → ℕ → Bool
takes_second n word = nat_lt (2 ^ 64 - n) (word * n % 2 ^ 64)

abbrev pub size_words : ℕ → ℕ → List ℕ
size_words n k = if takes_second n (size_word n k) then size_word n k ∷ 0 ∷ [] else size_word n k ∷ []

-- The words of a size draw this size, and no other word is taken. Each draw returns one of the sizes.
pub record HasSizeWords (low high : ℕ) : Type 0 where
  pub takes : (k : ℕ) (tail : Left) → k < sizes_between low high
      → size_between low high (scripted_stream (size_words (sizes_between low high) k ++ tail.0, tail.1)) ≡ (low + 1 + k, scripted_stream tail)
  pub covers : (s : Stream) → HasU64Words s
      → (k : ℕ) × (k < sizes_between low high) × ((size_between low high s).0 ≡ low + 1 + k)
  pub words : (s : Stream) → HasU64Words s → HasU64Words (size_between low high s).1
  -- at most 2^63 sizes take one word each
  pub one : (k : ℕ) → sizes_between low high ≤ 2 ^ 63
      → size_words (sizes_between low high) k ≡ size_word (sizes_between low high) k ∷ []

-- so it is for any two sizes that fit in 64 bits and have one between them
abbrev pub SizesHaveWords : Type 0
SizesHaveWords = (low high : ℕ) → 0 < sizes_between low high → high < 2 ^ 64 → HasSizeWords low high
