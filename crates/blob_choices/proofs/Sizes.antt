-- Each size between two others has a word that draws it, and each draw returns one of them.
use Rattle.std.proofs.Common.{◌≡◌, ◌<◌, ◌≤◌, ℕ, ◌+◌, ◌-◌, ◌*◌, ◌/◌, ◌%◌, ◌^◌, Bool, true, false, cond, nat_lt, nat_le, if◌then◌else◌}
use Rattle.std.proofs.Common.{[], ◌∷◌, ◌++◌, refl, ap, ◌∙◌, arith}
use Rattle.std.proofs.lemmas.Bool.{cond-false, cond-true, le-ltb, lt-leb, ltb-true}
use Rattle.std.proofs.lemmas.Nat.{div-add-mod', div-mul-add, mod-mul-add}
use Rattle.std.proofs.Math.Nat.{mod-lt, mul-le-mul_right}
use Rattle.rand_core.specs.Stream.{Stream, next_u64}
use Rattle.rand_core.specs.Steps.{stream_of}
use Rattle.rand.specs.Uniform.{canon}
use Rattle.rand.specs.Draw.{draw_map}
use Rattle.blob_lab_model.specs.Scripted.{Left, scripted_stream}
use Rattle.blob_choices.specs.Decided.{HasU64Words}
use Rattle.blob_choices.specs.Sizes.{SizesHaveWords, size_word, size_words, sizes_between, takes_second}
use Rattle.blob_choices.proofs.Draws.{next_fits, next_words}

-- The word of a size, times the number of sizes.

-- what is added to a multiple of 2^64 by rounding up
pub record Rounded (p base n : ℕ) : Type 0 where
  pub over : ℕ
  pub few : over < n
  pub is : p ≡ base + over

rounded : (p base n whole rest : ℕ) → p + rest ≡ whole → whole ≡ base + (n - 1) → rest < n → Rounded p base n
rounded p base n whole rest parts up less = record {
  over = n - 1 - rest;
  few = omega (arith, less);
  is = omega (arith, parts, up, less);
}

rounded_word : (n k : ℕ) → 0 < n → Rounded (size_word n k * n) (k * 2 ^ 64) n
rounded_word n k some =
    let whole : ℕ = k * 2 ^ 64 + (n - 1) in
    rounded (size_word n k * n) (k * 2 ^ 64) n whole (whole % n) (div-add-mod' whole n) refl (mod-lt whole some)

rounded_high : (n k : ℕ) → 0 < n → n ≤ 2 ^ 64 → size_word n k * n / 2 ^ 64 ≡ k
rounded_high n k some fits =
    let r = rounded_word n k some in
    ap (λ (p : ℕ). p / 2 ^ 64) r.is ∙ div-mul-add k (2 ^ 64) r.over (omega (arith, fits, r.few))

rounded_low : (n k : ℕ) → 0 < n → n ≤ 2 ^ 64 → size_word n k * n % 2 ^ 64 < n
rounded_low n k some fits =
    let r = rounded_word n k some in
    let low = ap (λ (p : ℕ). p % 2 ^ 64) r.is ∙ mod-mul-add k (2 ^ 64) r.over (omega (arith, fits, r.few)) in
    omega (arith, low, r.few)

-- The words of a draw: a second one, if it is taken, is 0 and carries nothing.

no_carry : (low n : ℕ) → low < 2 ^ 64 → nat_le (2 ^ 64) (low + 0 * n / 2 ^ 64) ≡ false
no_carry low n fits = lt-leb (2 ^ 64) (low + 0 * n / 2 ^ 64) (omega (arith, fits))

draws_word : (n w : ℕ) (more : Bool) (tail : Left) → takes_second n w ≡ more
    → canon (2 ^ 64) next_u64 n (scripted_stream ((if more then w ∷ 0 ∷ [] else w ∷ []) ++ tail.0, tail.1)) ≡ (w * n / 2 ^ 64, scripted_stream tail)
unfolding canon next_u64 stream_of
draws_word n w true tail e =
    let low : ℕ = w * n % 2 ^ 64 in
    let high : ℕ = w * n / 2 ^ 64 in
    cond-true (takes_second n w) _ _ e
    ∙ ap (λ (x : ℕ). (x, scripted_stream tail))
    (cond-false (nat_le (2 ^ 64) (low + 0 * n / 2 ^ 64)) (high + 1) high (no_carry low n (mod-lt (w * n) (omega arith))))
draws_word n w false tail e = cond-false (takes_second n w) _ _ e

takes_words : (n k : ℕ) (tail : Left) → 0 < n → n ≤ 2 ^ 64
    → canon (2 ^ 64) next_u64 n (scripted_stream (size_words n k ++ tail.0, tail.1)) ≡ (k, scripted_stream tail)
takes_words n k tail some fits =
    draws_word n (size_word n k) (takes_second n (size_word n k)) tail refl
    ∙ ap (λ (x : ℕ). (x, scripted_stream tail)) (rounded_high n k some fits)

one_word : (n k : ℕ) → 0 < n → n ≤ 2 ^ 63 → size_words n k ≡ size_word n k ∷ []
one_word n k some few =
    let low = rounded_low n k some (omega (arith, few)) in
    cond-false (takes_second n (size_word n k)) _ _
    (le-ltb (2 ^ 64 - n) (size_word n k * n % 2 ^ 64) (omega (arith, few, low)))

-- Any draw.

below : (p n : ℕ) → 0 < n → p ≤ (2 ^ 64 - 1) * n → p / 2 ^ 64 < n
below p n some most = omega (arith, some, most)

carried_below : (p n : ℕ) → 0 < n → n ≤ 2 ^ 64 → p ≤ (2 ^ 64 - 1) * n → 2 ^ 64 - n < p % 2 ^ 64 → p / 2 ^ 64 + 1 < n
carried_below p n some fits most past = omega (arith, some, fits, most, past)

either_below : (b : Bool) (x y n : ℕ) → x < n → y < n → cond b x y < n
either_below true x y n p q = p
either_below false x y n p q = q

product_most : (n : ℕ) (s : Stream) → HasU64Words s → (next_u64 s).0 * n ≤ (2 ^ 64 - 1) * n
product_most n s h = mul-le-mul_right n (next_fits s h)

module _ (n : ℕ) (s : Stream) (some : 0 < n) (fits : n ≤ 2 ^ 64) (h : HasU64Words s) where
  abbrev product : ℕ
  product = (next_u64 s).0 * n

  abbrev high : ℕ
  high = product / 2 ^ 64

  abbrev second : Stream → ℕ × Stream
  second = draw_map (λ w. if nat_le (2 ^ 64) (product % 2 ^ 64 + w * n / 2 ^ 64) then high + 1 else high) next_u64

  -- whether a second word is taken
  abbrev result : Bool → ℕ × Stream
  result more = if more then second (next_u64 s).1 else (high, (next_u64 s).1)

  result_below : (more : Bool) → nat_lt (2 ^ 64 - n) (product % 2 ^ 64) ≡ more → (result more).0 < n
  result_below true e =
      let past : 2 ^ 64 - n < product % 2 ^ 64 = ltb-true (2 ^ 64 - n) (product % 2 ^ 64) e in
      let most = product_most n s h in
      either_below (nat_le (2 ^ 64) (product % 2 ^ 64 + (next_u64 (next_u64 s).1).0 * n / 2 ^ 64)) (high + 1) high n
      (carried_below product n some fits most past) (below product n some most)
  result_below false e = below product n some (product_most n s h)

  result_words : (more : Bool) → HasU64Words (result more).1
  result_words true = next_words (next_u64 s).1 (next_words s h)
  result_words false = next_words s h

  canon_below : (canon (2 ^ 64) next_u64 n s).0 < n
  unfolding canon
  canon_below = result_below (nat_lt (2 ^ 64 - n) (product % 2 ^ 64)) refl

  canon_words : HasU64Words (canon (2 ^ 64) next_u64 n s).1
  unfolding canon
  canon_words = result_words (nat_lt (2 ^ 64 - n) (product % 2 ^ 64))

-- Sizes between two others.

pub sizes_have_words : SizesHaveWords
sizes_have_words low high some top =
    let n : ℕ = sizes_between low high in
    let fits : n ≤ 2 ^ 64 = omega (arith, top) in
    record {
      takes = λ k tail within. ap (λ (d : ℕ × Stream). (low + 1 + d.0, d.1)) (takes_words n k tail some fits);
      covers = λ s h. ((canon (2 ^ 64) next_u64 n s).0, canon_below n s some fits h, refl);
      words = λ s h. canon_words n s some fits h;
      one = λ k few. one_word n k some few;
    }
