-- Given words that fit in 64 bits, and the words of a seed, fit in 64 bits.
use Rattle.std.proofs.Common.{◌≤◌, ℕ, zero, suc, ◌+◌, ◌-◌, ◌^◌, ◌/◌, List, [], ◌∷◌, All, Option, Some, None, arith}
use Rattle.std.specs.Int.{w64, to_le_bytes}
use Rattle.rand_core.specs.Stream.{Call, u32_call, u64_call, bytes_call}
use Rattle.rand_core.specs.Steps.{Steps, stream_of, steps_u64_low, state_after, word_bytes}
use Rattle.blob_lab_model.specs.Scripted.{Left, scripted_stream, next_of}
use Rattle.blob_choices.specs.Decided.{HasU64Words}

abbrev Fit : Left → Type 0
Fit left = All (λ word. word ≤ 2 ^ 64 - 1) left.0

-- a step gives a word that fits, and leaves such words
step_fits : (left : Left) → Fit left → ((next_of left).0 ≤ 2 ^ 64 - 1) × Fit (next_of left).1
step_fits (w ∷ ws, tail) fit = (fit 0 0 (omega arith), λ k d lt. fit (suc k) d (omega (arith, lt)))
step_fits ([], None) fit = (omega arith, fit)
step_fits ([], Some state) fit = (omega arith, fit)

bytes_fit : (bytes : ℕ → List ℕ) (k : ℕ) (left : Left) → Fit left → Fit (word_bytes bytes next_of k left).1
unfolding word_bytes
bytes_fit bytes zero left fit = fit
bytes_fit bytes (suc k) left fit = (step_fits (word_bytes bytes next_of k left).1 (bytes_fit bytes k left fit)).1

abbrev G : Steps Left
G = steps_u64_low next_of

calls_fit : (before : List Call) (left : Left) → Fit left → Fit (state_after G before left)
calls_fit [] left fit = fit
calls_fit (u32_call ∷ before) left fit = calls_fit before (next_of left).1 (step_fits left fit).1
calls_fit (u64_call ∷ before) left fit = calls_fit before (next_of left).1 (step_fits left fit).1
calls_fit (bytes_call n ∷ before) left fit = calls_fit before (G.fill_bytes n left).1 (bytes_fit (to_le_bytes w64) ((n + 7) / 8) left fit)

pub seeds_fit : (given : List ℕ) (tail : Option (List ℕ)) → All (λ word. word ≤ 2 ^ 64 - 1) given → HasU64Words (scripted_stream (given, tail))
unfolding stream_of
seeds_fit given tail fit = record { fit = λ before. (step_fits (state_after G before (given, tail)) (calls_fit before (given, tail) fit)).0 }
