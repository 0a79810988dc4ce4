-- The draws of writes, resizes and crashes are decided by the least and the greatest word.
use Rattle.std.proofs.Common.{◌≡◌, ◌<◌, ◌≤◌, ℕ, zero, suc, ◌+◌, ◌-◌, ◌*◌, ◌^◌, ◌%◌, ◌||◌, Bool, true, false, cond, nat_lt, eqb, List, [], ◌∷◌, length, replicate, refl, sym, ap, ◌∙◌, arith}
use Rattle.std.proofs.lemmas.Bool.{eqb-false, lt-ltb, le-ltb, ltb-false}
use Rattle.std.proofs.Math.Nat.{mul-le-mul_right}
use Rattle.rand_core.specs.Stream.{u64_call, Stream, next_u64}
use Rattle.rand_core.specs.Steps.{stream_of}
use Rattle.blob_model.specs.Draws.{front, each, sectors, positions, draw_rows, with_first}
use Rattle.blob_model.specs.Log.{Need}
use Rattle.blob_model.specs.Rates.{Rate, sample}
use Rattle.blob_model.specs.declared.mode.PartialWriteMode.{PartialWriteMode}
use Rattle.blob_model.specs.declared.mode.PartialWriteMode.TheVariants.{Prefix, Subset, Sectors}
use Rattle.blob_tree.specs.Trees.{Leaf, Choice, IsLeaf}
use Rattle.blob_lab_model.specs.Scripted.{Left, scripted_stream}
use Rattle.blob_choices.specs.Decided.{HasU64Words, path_stream, zeros, IsDecided}
use Rattle.blob_choices.proofs.Deciding.{decided_none, decided_then, decided_map, decided_if}

-- One draw.

-- whether a word is below a rate's part
abbrev is_below : Rate → ℕ → Bool
is_below rate word = nat_lt (word * rate.denominator) (rate.numerator * 2 ^ 64)

abbrev by_word : Rate → Stream → Bool × Stream
by_word rate s = (is_below rate (next_u64 s).0, (next_u64 s).1)

below_least : (rate : Rate) → eqb rate.numerator 0 ≡ false → is_below rate 0 ≡ true
below_least rate some =
    let ne : rate.numerator ≡ 0 → ⊥ = eqb-false rate.numerator 0 some in
    let lt : 0 * rate.denominator < rate.numerator * 2 ^ 64 = omega (arith, ne) in
    lt-ltb (0 * rate.denominator) (rate.numerator * 2 ^ 64) lt

below_less : (rate : Rate) (a b : ℕ) → a ≤ b → is_below rate a ≡ false → is_below rate b ≡ false
below_less rate a b le h =
    let was : rate.numerator * 2 ^ 64 ≤ a * rate.denominator = ltb-false (a * rate.denominator) (rate.numerator * 2 ^ 64) h in
    let more : a * rate.denominator ≤ b * rate.denominator = mul-le-mul_right rate.denominator le in
    le-ltb (b * rate.denominator) (rate.numerator * 2 ^ 64) (omega (arith, was, more))

takes_word : (rate : Rate) (path : List Bool) (tail : Left) → IsLeaf (Choice Leaf Leaf) path → by_word rate (path_stream path tail) ≡ ((by_word rate (path_stream path zeros)).0, scripted_stream tail)
unfolding next_u64 stream_of
takes_word rate [] tail a = absurd a
takes_word rate (true ∷ []) tail a = refl
takes_word rate (false ∷ []) tail a = refl
takes_word rate (true ∷ o ∷ path) tail a = absurd a
takes_word rate (false ∷ o ∷ path) tail a = absurd a

pub next_words : (s : Stream) → HasU64Words s → HasU64Words (next_u64 s).1
unfolding next_u64
next_words s h = record { fit = λ before. h.fit (u64_call ∷ before) }

pub next_fits : (s : Stream) → HasU64Words s → (next_u64 s).0 ≤ 2 ^ 64 - 1
unfolding next_u64
next_fits s h = h.fit []

least_next : (tail : Left) → (next_u64 (path_stream (true ∷ []) tail)).0 ≡ 0
unfolding next_u64 stream_of
least_next tail = refl

greatest_next : (tail : Left) → (next_u64 (path_stream (false ∷ []) tail)).0 ≡ 2 ^ 64 - 1
unfolding next_u64 stream_of
greatest_next tail = refl

covers_word : (rate : Rate) → eqb rate.numerator 0 ≡ false → (s : Stream) → HasU64Words s → (path : List Bool) × IsLeaf (Choice Leaf Leaf) path × ((by_word rate (path_stream path zeros)).0 ≡ (by_word rate s).0)
covers_word rate some s h = go (is_below rate (next_u64 s).0) refl where
  go : (b : Bool) → is_below rate (next_u64 s).0 ≡ b → (path : List Bool) × IsLeaf (Choice Leaf Leaf) path × ((by_word rate (path_stream path zeros)).0 ≡ (by_word rate s).0)
  go true e = (true ∷ [], tt, ap (is_below rate) (least_next zeros) ∙ below_least rate some ∙ sym e)
  go false e = (false ∷ [], tt, ap (is_below rate) (greatest_next zeros) ∙ below_less rate (next_u64 s).0 (2 ^ 64 - 1) (next_fits s h) e ∙ sym e)

decided_word : (rate : Rate) → eqb rate.numerator 0 ≡ false → IsDecided (by_word rate)
decided_word rate some = (Choice Leaf Leaf, record { takes = takes_word rate; covers = covers_word rate some; words = next_words })

pub decided_sampled : (rate : Rate) → IsDecided (sample rate)
unfolding sample
decided_sampled rate =
    decided_if (eqb rate.numerator 0) (λ s. (false, s)) (λ s. cond (eqb rate.numerator rate.denominator) (true, s) (by_word rate s)) (λ _. decided_none false)
    (λ some. decided_if (eqb rate.numerator rate.denominator) (λ s. (true, s)) (by_word rate) (λ _. decided_none true) (λ _. decided_word rate some))

-- The choices of a write.

decided_front : (rate : Rate) (n : ℕ) → IsDecided (front rate n)
unfolding front
decided_front rate zero = decided_none []
decided_front rate (suc n) =
    decided_then (sample rate) (λ kept s. cond kept (with_first true (front rate n s)) (replicate (suc n) false, s)) (decided_sampled rate)
    (λ s. decided_if (sample rate s).0 (λ r. with_first true (front rate n r)) (λ r. (replicate (suc n) false, r))
    (λ _. decided_map (front rate n) (λ bs. true ∷ bs) (decided_front rate n)) (λ _. decided_none (replicate (suc n) false)))

decided_each : (rate : Rate) (n : ℕ) → IsDecided (each rate n)
unfolding each
decided_each rate zero = decided_none []
decided_each rate (suc n) =
    decided_then (sample rate) (λ kept s. with_first kept (each rate n s)) (decided_sampled rate)
    (λ s. decided_map (each rate n) (λ bs. (sample rate s).0 ∷ bs) (decided_each rate n))

decided_sectors : (rate : Rate) (size p : ℕ) (first last : Bool) (n : ℕ) → IsDecided (sectors rate size p first last n)
unfolding sectors
decided_sectors rate size p first last zero = decided_none []
decided_sectors rate size p first last (suc n) =
    let draws = first || eqb (p % size) 0 in
    let d : Stream → Bool × Stream = λ s. cond draws (sample rate s) (last, s) in
    decided_then d (λ kept s. with_first kept (sectors rate size (p + 1) false kept n s))
    (decided_if draws (sample rate) (λ s. (last, s)) (λ _. decided_sampled rate) (λ _. decided_none last))
    (λ s. decided_map (sectors rate size (p + 1) false (d s).0 n) (λ bs. (d s).0 ∷ bs) (decided_sectors rate size (p + 1) false (d s).0 n))

pub decided_positions : (mode : PartialWriteMode) (rate : Rate) (o n : ℕ) → IsDecided (positions mode rate o n)
decided_positions Prefix rate o n = decided_front rate n
decided_positions Subset rate o n = decided_each rate n
decided_positions (Sectors size) rate o n = decided_sectors rate size o true false n

-- The rows of a crash.

pub decided_drawn : (needs : List Need) → IsDecided (λ s. draw_rows s needs)
decided_drawn [] = decided_none []
decided_drawn (n ∷ ns) =
    let d : Stream → List Bool × Stream = positions n.write.mode n.write.rate n.write.offset (length n.write.bytes) in
    decided_then d (λ kept s. with_first (n.write.number, kept) (draw_rows s ns)) (decided_positions n.write.mode n.write.rate n.write.offset (length n.write.bytes))
    (λ s. decided_map (λ r. draw_rows r ns) (λ rows. (n.write.number, (d s).0) ∷ rows) (decided_drawn ns))
