-- The words of a scripted stream, one after another.
use Rattle.std.proofs.Common.{◌≡◌, ◌≢◌, ◌<◌, ◌≤◌, ◌+◌, ◌-◌, ℕ, zero, suc, List, [], ◌∷◌, get_or, drop, None, refl, sym, ap, ◌∙◌, arith}
use Rattle.std.proofs.lemmas.List.{get_or-drop}
use Rattle.rand_core.specs.Steps.{stream_of}
use Rattle.blob_lab_model.specs.Scripted.{scripted_stream}
use Rattle.blob_tree.specs.WordsLeft.{EndsAfter, word_at}

word_of : (words : List ℕ) (i : ℕ) → word_at (scripted_stream (words, None)) i ≡ get_or words i 0
unfolding stream_of
word_of [] zero = refl
word_of (w ∷ ws) zero = refl
word_of [] (suc i) = word_of [] i
word_of (w ∷ ws) (suc i) = word_of ws i

pub ends_after : (words : List ℕ) (at end : ℕ) → at ≤ end → ((i : ℕ) → end ≤ i → get_or words i 0 ≡ 0) → (at < end → get_or words (end - 1) 0 ≢ 0) → EndsAfter (scripted_stream (drop at words, None)) (end - at)
ends_after words at end le zeros last = record {
  zeros = λ i h. word_of (drop at words) i ∙ get_or-drop at words i 0 ∙ zeros (at + i) (omega arith);
  last = λ i e h.
      let lt : at < end = omega arith in
      let same : at + i ≡ end - 1 = omega arith in
      last lt (ap (λ k. get_or words k 0) (sym same) ∙ sym (word_of (drop at words) i ∙ get_or-drop at words i 0) ∙ h);
}
