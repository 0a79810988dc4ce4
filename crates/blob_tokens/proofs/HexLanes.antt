-- Hex digits in the lanes of vectors.
use Rattle.std.proofs.Common.{◌≡◌, ◌≢◌, ◌^◌, eqb, eqb-true, ℕ, zero, suc, ◌+◌, ◌-◌, ◌*◌, ◌%◌, ◌<◌, ◌≤◌, ◌⊎◌, inl, inr, ⊎_elim, Option, Some, None, List, [], ◌∷◌, ◌++◌, Bool, true, false, cond, leb, length, map, replicate, take, drop, get_or, slice_index, unwrap_or, Result, Ok, Err, refl, sym, ap, subst, ◌∙◌, arith, bit_or, w8, Fits}
use Rattle.std.specs.Prelude.{IsErr}
use Rattle.std.specs.List.{range_with_len}
use Rattle.std.specs.Simd.Lanes.{zip2, sel_l, mask_l, top, pick_l, chunk, put_chunk, Each1}
use Rattle.std.proofs.lemmas.Simd.{length-chunk, get_or-chunk, length-zip2, get_or-zip2, get_or-replicate, map-map, put_chunk_is, length-put_chunk, get_or-put_chunk_at}
use Rattle.std.proofs.lemmas.List.{get_or_append_left, take_at, length-take-le, set-get_or}
use Rattle.std.proofs.lemmas.Nat.{or_lt, le_or_l, le_or_r}
use Rattle.std.proofs.lemmas.Bool.{cases_lt, leb-true, leb-false, eqb-false}
use Rattle.memchr.proofs.lemmas.LaneLemmas.{top_bitmask}
use Rattle.hex.specs.declared.error.FromHexError.{FromHexError}
use Rattle.hex.proofs.Pairs.{prepend, cons_byte, decode_step, decode_pairs-ok_pair, decode_pairs-err_pair}
use Rattle.blob_tokens.specs.Pairs.{IsPairsFrom}
use Rattle.blob_tokens.proofs.HexDigits.{high_of, low_of, digit_small, pair_reads, pair_refuses, Decodes}
use Rattle.std.proofs.Math.Dec.{ltb}
use Rattle.std.proofs.lemmas.List.FromFn.{get_or-map-range_with_len}
use Rattle.hex.specs.Hex.{hex_digit_value, pair_value, decode_pairs}

-- a lane's value as a digit, or 255
abbrev pub value_of : ℕ → ℕ
value_of c = unwrap_or (hex_digit_value c) 255

abbrev pub sub : ℕ → ℕ → ℕ
sub a b = (a + (256 - b)) % 256

abbrev pub below : ℕ → ℕ → ℕ
below a b = cond (ltb a b) 255 0

abbrev pub letter_of : ℕ → ℕ
letter_of c = sub (bit_or c 32) 87

abbrev pub computed : ℕ → ℕ
computed c = cond (top 7 (below (sub c 48) 10)) (sub c 48) (cond (top 7 (below (sub (letter_of c) 10) 6)) (letter_of c) 255)

computed_are : map computed (range_with_len 0 256) ≡ map value_of (range_with_len 0 256)
computed_are = refl

computed_is : (c : ℕ) → c < 256 → computed c ≡ value_of c
computed_is c h =
    sym (get_or-map-range_with_len computed 0 256 c c 0 h (omega arith))
    ∙ ap (λ t. get_or t c 0) computed_are
    ∙ get_or-map-range_with_len value_of 0 256 c c 0 h (omega arith)

-- the vectors' operations, lane by lane
by_lanes : (vs : List ℕ) → Each1 (Fits w8) vs
    → sel_l (map (top 7) (zip2 below (zip2 sub vs (replicate (length vs) 48)) (replicate (length vs) 10))) (zip2 sub vs (replicate (length vs) 48))
    (sel_l (map (top 7) (zip2 below (zip2 sub (zip2 sub (zip2 bit_or vs (replicate (length vs) 32)) (replicate (length vs) 87)) (replicate (length vs) 10)) (replicate (length vs) 6)))
    (zip2 sub (zip2 bit_or vs (replicate (length vs) 32)) (replicate (length vs) 87)) (replicate (length vs) 255))
    ≡ map value_of vs
by_lanes [] fit = refl
by_lanes (c ∷ cs) fit = (λ i. computed_is c fit.0.fits i ∷ by_lanes cs fit.1 i)

pub values_are : (vs : List ℕ) → length vs ≡ 16 → Each1 (Fits w8) vs
    → sel_l (map (top 7) (zip2 below (zip2 sub vs (replicate 16 48)) (replicate 16 10))) (zip2 sub vs (replicate 16 48))
    (sel_l (map (top 7) (zip2 below (zip2 sub (zip2 sub (zip2 bit_or vs (replicate 16 32)) (replicate 16 87)) (replicate 16 10)) (replicate 16 6)))
    (zip2 sub (zip2 bit_or vs (replicate 16 32)) (replicate 16 87)) (replicate 16 255))
    ≡ map value_of vs
values_are vs long fit = subst
    (λ n. sel_l (map (top 7) (zip2 below (zip2 sub vs (replicate n 48)) (replicate n 10))) (zip2 sub vs (replicate n 48))
    (sel_l (map (top 7) (zip2 below (zip2 sub (zip2 sub (zip2 bit_or vs (replicate n 32)) (replicate n 87)) (replicate n 10)) (replicate n 6)))
    (zip2 sub (zip2 bit_or vs (replicate n 32)) (replicate n 87)) (replicate n 255))
    ≡ map value_of vs)
    long (by_lanes vs fit)

-- a byte that isn't a digit, and one that is
not_digit : (o : Option ℕ) → unwrap_or o 0 ≤ 15 → 128 ≤ unwrap_or o 255 → (16 * unwrap_or o 16 ≡ 256) × (unwrap_or o 256 ≡ 256)
not_digit None small h = (refl, refl)
not_digit (Some v) small h = absurd (omega (arith, small, h))

is_digit : (o : Option ℕ) → unwrap_or o 0 ≤ 15 → unwrap_or o 255 < 128
    → (16 * unwrap_or o 16 ≡ 16 * unwrap_or o 255) × (unwrap_or o 256 ≡ unwrap_or o 255) × (unwrap_or o 255 ≤ 15)
is_digit None small h = absurd (omega (arith, h))
is_digit (Some v) small h = (refl, refl, small)

-- a pair of values without a top bit
pair_good : (a b i v : ℕ) → value_of a < 128 → value_of b < 128 → v ≡ ((value_of a * 16) % 256 + value_of b) % 256 → pair_value a b i ≡ Ok v
pair_good a b i v ha hb e =
    let da = is_digit (hex_digit_value a) (digit_small a) ha in
    let db = is_digit (hex_digit_value b) (digit_small b) hb in
    let sum : v ≡ high_of a + low_of b = omega (arith, e, da.0, da.2, db.1, db.2) in
    pair_reads a b i (omega (arith, da.0, da.2, db.1, db.2)) ∙ ap Ok (sym sum)

pair_bad : (a b i : ℕ) → (128 ≤ value_of a) ⊎ (128 ≤ value_of b) → 255 < high_of a + low_of b
pair_bad a b i (inl h) = omega (arith, (not_digit (hex_digit_value a) (digit_small a) h).0)
pair_bad a b i (inr h) = omega (arith, (not_digit (hex_digit_value b) (digit_small b) h).1)

pub err_first : (j a b : ℕ) (rest : List ℕ) (r : Result ℕ FromHexError) → pair_value a b j ≡ r → IsErr r → IsErr (decode_pairs j (a ∷ b ∷ rest))
err_first j a b rest (Ok v) e bad = cc
err_first j a b rest (Err x) e bad = rw (decode_pairs-err_pair j a b x rest e) bad

pub err_cons : (v : ℕ) (r : Result (List ℕ) FromHexError) → IsErr r → IsErr (cons_byte v r)
err_cons v (Ok x) bad = cc
err_cons v (Err x) bad = bad

err_rest : (j a b : ℕ) (rest : List ℕ) (r : Result ℕ FromHexError) → pair_value a b j ≡ r → IsErr (decode_pairs (j + 2) rest) → IsErr (decode_pairs j (a ∷ b ∷ rest))
err_rest j a b rest (Ok v) e bad = subst IsErr (sym (decode_pairs-ok_pair j a b v rest e)) (err_cons v (decode_pairs (j + 2) rest) bad)
err_rest j a b rest (Err x) e bad = err_first j a b rest (Err x) e refl

-- a bad pair refuses the text
any_bad : (j : ℕ) (xs : List ℕ) (k p q : ℕ) → p ≡ 2 * k → q ≡ p + 1 → q < length xs → 255 < high_of (get_or xs p 0) + low_of (get_or xs q 0) → IsErr (decode_pairs j xs)
any_bad j [] k p q ep eq l h = absurd (omega (arith, l))
any_bad j (a ∷ []) k p q ep eq l h = absurd (omega (arith, l, ep, eq))
any_bad j (a ∷ b ∷ rest) k zero zero ep eq l h = absurd (omega (arith, eq))
any_bad j (a ∷ b ∷ rest) k zero (suc zero) ep eq l h = err_first j a b rest (pair_value a b j) refl (pair_refuses a b j h)
any_bad j (a ∷ b ∷ rest) k zero (suc (suc q)) ep eq l h = absurd (omega (arith, eq))
any_bad j (a ∷ b ∷ rest) k (suc zero) q ep eq l h = absurd (omega (arith, ep))
any_bad j (a ∷ b ∷ rest) k (suc (suc p)) zero ep eq l h = absurd (omega (arith, eq))
any_bad j (a ∷ b ∷ rest) k (suc (suc p)) (suc zero) ep eq l h = absurd (omega (arith, eq))
any_bad j (a ∷ b ∷ rest) k (suc (suc p)) (suc (suc q)) ep eq l h =
    err_rest j a b rest (pair_value a b j) refl (any_bad (j + 2) rest (k - 1) p q (omega (arith, ep)) (omega (arith, eq)) (omega (arith, l)) h)

-- the mask of the lanes' top bits
clear_at : (b : Bool) (x m : ℕ) → leb 128 x ≡ b → cond b 1 0 + 2 * m ≡ 0 → (x < 128) × (m ≡ 0)
clear_at true x m e h = absurd (omega (arith, h))
clear_at false x m e h = (omega (arith, leb-false 128 x e), omega (arith, h))

clear : (vs : List ℕ) → mask_l (map (λ x. leb 128 x) vs) ≡ 0 → (k : ℕ) → get_or vs k 0 < 128
clear [] h k = omega arith
clear (x ∷ xs) h zero = (clear_at (leb 128 x) x _ refl h).0
clear (x ∷ xs) h (suc k) = clear xs (clear_at (leb 128 x) x _ refl h).1 k

set_later : (x : ℕ) (xs : List ℕ) → ((k : ℕ) × (k < length xs) × (128 ≤ get_or xs k 0)) → (k : ℕ) × (k < length (x ∷ xs)) × (128 ≤ get_or (x ∷ xs) k 0)
set_later x xs (k, l, h) = (suc k, omega (arith, l), h)

set_at : (b : Bool) (x : ℕ) (xs : List ℕ) (m : ℕ) → leb 128 x ≡ b → cond b 1 0 + 2 * m ≢ 0 → (m ≢ 0 → (k : ℕ) × (k < length xs) × (128 ≤ get_or xs k 0))
    → (k : ℕ) × (k < length (x ∷ xs)) × (128 ≤ get_or (x ∷ xs) k 0)
set_at true x xs m e h later = (0, omega arith, leb-true 128 x e)
set_at false x xs m e h later = set_later x xs (later (λ z. h (omega (arith, z))))

some_set : (vs : List ℕ) → mask_l (map (λ x. leb 128 x) vs) ≢ 0 → (k : ℕ) × (k < length vs) × (128 ≤ get_or vs k 0)
some_set [] h = absurd (h refl)
some_set (x ∷ xs) h = set_at (leb 128 x) x xs _ refl h (some_set xs)

-- every other lane, from an offset on
evens_are : 0 ∷ 2 ∷ 4 ∷ 6 ∷ 8 ∷ 10 ∷ 12 ∷ 14 ∷ 16 ∷ 18 ∷ 20 ∷ 22 ∷ 24 ∷ 26 ∷ 28 ∷ 30 ∷ [] ≡ map (λ k. 2 * k) (range_with_len 0 16)
evens_are = refl

odds_are : 1 ∷ 3 ∷ 5 ∷ 7 ∷ 9 ∷ 11 ∷ 13 ∷ 15 ∷ 17 ∷ 19 ∷ 21 ∷ 23 ∷ 25 ∷ 27 ∷ 29 ∷ 31 ∷ [] ≡ map (λ k. 2 * k + 1) (range_with_len 0 16)
odds_are = refl

picked : (xs js : List ℕ) (f : ℕ → ℕ) (k : ℕ) → js ≡ map f (range_with_len 0 16) → k < 16
    → get_or (map value_of (pick_l 0 xs js)) k 0 ≡ value_of (get_or xs (f k) 0)
picked xs js f k same l =
    ap (λ t. get_or (map value_of (pick_l 0 xs t)) k 0) same
    ∙ ap (λ t. get_or (map value_of t) k 0) (map-map (λ j. get_or xs j 0) f (range_with_len 0 16))
    ∙ ap (λ t. get_or t k 0) (map-map value_of (λ j. get_or xs (f j) 0) (range_with_len 0 16))
    ∙ get_or-map-range_with_len (λ j. value_of (get_or xs (f j) 0)) 0 16 k k 0 l (omega arith)

-- a lane of the vector that was read
read_at : (digits : List ℕ) (at j n : ℕ) → at + 32 ≤ length digits → j < 32 → n ≡ at + j
    → get_or (chunk at 32 digits ++ chunk at 32 digits) j 0 ≡ get_or digits n 0
read_at digits at j n fits l e =
    get_or_append_left (chunk at 32 digits) (chunk at 32 digits) 0 j (omega (arith, length-chunk at 32 digits fits, l))
    ∙ get_or-chunk at 32 digits j 0 l ∙ ap (λ m. get_or digits m 0) (sym e)

abbrev pub evens : List ℕ
evens = 0 ∷ 2 ∷ 4 ∷ 6 ∷ 8 ∷ 10 ∷ 12 ∷ 14 ∷ 16 ∷ 18 ∷ 20 ∷ 22 ∷ 24 ∷ 26 ∷ 28 ∷ 30 ∷ []

abbrev pub odds : List ℕ
odds = 1 ∷ 3 ∷ 5 ∷ 7 ∷ 9 ∷ 11 ∷ 13 ∷ 15 ∷ 17 ∷ 19 ∷ 21 ∷ 23 ∷ 25 ∷ 27 ∷ 29 ∷ 31 ∷ []

abbrev pub lanes_of : List ℕ → ℕ → List ℕ → List ℕ
lanes_of digits at js = map value_of (pick_l 0 (chunk at 32 digits ++ chunk at 32 digits) js)

high_lane : (digits : List ℕ) (first k : ℕ) → 2 * first + 32 ≤ length digits → k < 16
    → get_or (lanes_of digits (2 * first) evens) k 0 ≡ value_of (slice_index digits (2 * (first + k)))
high_lane digits first k fits l =
    picked (chunk (2 * first) 32 digits ++ chunk (2 * first) 32 digits) evens (λ k. 2 * k) k evens_are l
    ∙ ap value_of (read_at digits (2 * first) (2 * k) (2 * (first + k)) fits (omega (arith, l)) (omega arith))

low_lane : (digits : List ℕ) (first k : ℕ) → 2 * first + 32 ≤ length digits → k < 16
    → get_or (lanes_of digits (2 * first) odds) k 0 ≡ value_of (slice_index digits (2 * (first + k) + 1))
low_lane digits first k fits l =
    picked (chunk (2 * first) 32 digits ++ chunk (2 * first) 32 digits) odds (λ k. 2 * k + 1) k odds_are l
    ∙ ap value_of (read_at digits (2 * first) (2 * k + 1) (2 * (first + k) + 1) fits (omega (arith, l)) (omega arith))

abbrev pub mask_of : List ℕ → List ℕ → ℕ
mask_of high low = mask_l (map (top 7) (zip2 (λ a b. cond (leb a b) 255 0) (replicate 16 128) (zip2 bit_or high low))) % 2 ^ 64

mask_is : (high low : List ℕ) → length high ≡ 16 → length low ≡ 16 → mask_of high low ≡ mask_l (map (λ x. leb 128 x) (zip2 bit_or high low))
mask_is high low lh ll = top_bitmask (zip2 bit_or high low) 16 (length-zip2 bit_or high low (lh ∙ sym ll) ∙ lh) (omega arith)

or_high : (h l : ℕ) → 128 ≤ bit_or h l → (128 ≤ h) ⊎ (128 ≤ l)
or_high h l both = ⊎_elim
    (λ (small : h < 128). ⊎_elim
    (λ (less : l < 128). absurd (omega (arith, both, or_lt 7 h l (omega (arith, small)) (omega (arith, less)))))
    (λ (is : 128 ≤ l). inr is)
    (cases_lt l 128))
    (λ (is : 128 ≤ h). inl is)
    (cases_lt h 128)

pub sixteen_good : (digits : List ℕ) (first : ℕ) (high low : List ℕ) → 2 * first + 32 ≤ length digits
    → high ≡ lanes_of digits (2 * first) evens → low ≡ lanes_of digits (2 * first) odds → eqb (mask_of high low) 0 ≡ true
    → IsPairsFrom digits first (zip2 (λ a b. (a + b) % 256) (zip2 (λ a b. (a * b) % 256) high (replicate 16 16)) low)
sixteen_good digits first high low fits eh el clear_is =
    let lh : length high ≡ 16 = ap length eh in
    let ll : length low ≡ 16 = ap length el in
    let none = sym (mask_is high low lh ll) ∙ eqb-true _ _ clear_is in
    let times : length (zip2 (λ a b. (a * b) % 256) high (replicate 16 16)) ≡ 16 = length-zip2 (λ a b. (a * b) % 256) high (replicate 16 16) lh ∙ lh in
    record {
      sixteen = length-zip2 (λ a b. (a + b) % 256) _ low (times ∙ sym ll) ∙ times;
      each = λ k l.
          let hk = ap (λ t. get_or t k 0) eh ∙ high_lane digits first k fits l in
          let lk = ap (λ t. get_or t k 0) el ∙ low_lane digits first k fits l in
          let or_k = get_or-zip2 bit_or high low k 0 0 0 (omega (arith, l, lh)) (omega (arith, l, ll)) in
          let small = clear (zip2 bit_or high low) none k in
          let a = value_of (slice_index digits (2 * (first + k))) in
          let b = value_of (slice_index digits (2 * (first + k) + 1)) in
          let left = le_or_l (get_or high k 0) (get_or low k 0) in
          let right = le_or_r (get_or high k 0) (get_or low k 0) in
          pair_good (slice_index digits (2 * (first + k))) (slice_index digits (2 * (first + k) + 1)) (2 * (first + k)) _
          (omega (arith, hk, or_k, small, left)) (omega (arith, lk, or_k, small, right))
          (get_or-zip2 (λ a b. (a + b) % 256) _ low k 0 0 0 (omega (arith, l, times)) (omega (arith, l, ll))
          ∙ ap (λ x. (x + get_or low k 0) % 256) (get_or-zip2 (λ a b. (a * b) % 256) high (replicate 16 16) k 0 0 0 (omega (arith, l, lh)) l
          ∙ ap (λ x. (get_or high k 0 * x) % 256) (get_or-replicate 16 k 16 0 l))
          ∙ (λ i. ((hk i * 16) % 256 + lk i) % 256));
    }

pub sixteen_bad : (digits : List ℕ) (first : ℕ) (high low : List ℕ) → 2 * first + 32 ≤ length digits
    → high ≡ lanes_of digits (2 * first) evens → low ≡ lanes_of digits (2 * first) odds → eqb (mask_of high low) 0 ≡ false
    → IsErr (decode_pairs 0 digits)
sixteen_bad digits first high low fits eh el set_is =
    let lh : length high ≡ 16 = ap length eh in
    let ll : length low ≡ 16 = ap length el in
    let some = some_set (zip2 bit_or high low) (λ z. eqb-false _ _ set_is (mask_is high low lh ll ∙ z)) in
    at some.0 (omega (arith, some.1, length-zip2 bit_or high low (lh ∙ sym ll), lh)) lh ll some.2
  where
    at : (k : ℕ) → k < 16 → length high ≡ 16 → length low ≡ 16 → 128 ≤ get_or (zip2 bit_or high low) k 0 → IsErr (decode_pairs 0 digits)
    at k l lh ll h =
        let hk = ap (λ t. get_or t k 0) eh ∙ high_lane digits first k fits l in
        let lk = ap (λ t. get_or t k 0) el ∙ low_lane digits first k fits l in
        let or_k = get_or-zip2 bit_or high low k 0 0 0 (omega (arith, l, lh)) (omega (arith, l, ll)) in
        any_bad 0 digits (first + k) (2 * (first + k)) (2 * (first + k) + 1) refl refl (omega (arith, fits, l))
        (pair_bad (slice_index digits (2 * (first + k))) (slice_index digits (2 * (first + k) + 1)) 0
        (⊎_elim (λ x. inl (omega (arith, hk, x))) (λ x. inr (omega (arith, lk, x))) (or_high (get_or high k 0) (get_or low k 0) (omega (arith, h, or_k)))))

-- more pairs that were decoded
more : (text bytes : List ℕ) (i n : ℕ) → 2 * (i + n) ≤ length text → i + n ≤ length bytes
    → ((k : ℕ) → k < n → pair_value (slice_index text (2 * (i + k))) (slice_index text (2 * (i + k) + 1)) (2 * (i + k)) ≡ Ok (get_or bytes (i + k) 0))
    → Decodes text bytes i → Decodes text bytes (i + n)
more text bytes i zero fits room each inv =
    let same : i ≡ i + 0 = omega arith in
    subst (Decodes text bytes) same inv
more text bytes i (suc n) fits room each inv =
    let next : i + n + 1 ≡ i + suc n = omega arith in
    let one = decode_step text bytes (i + n) (get_or bytes (i + n) 0) (omega (arith, fits)) (omega (arith, room)) (each n (omega arith))
    (more text bytes i n (omega (arith, fits)) (omega (arith, room)) (λ k l. each k (omega (arith, l))) inv) in
    subst (Decodes text bytes) next (subst (λ bs. Decodes text bs (i + n + 1)) (set-get_or bytes (i + n) 0) one)

pub block_step : (text bytes block : List ℕ) (i : ℕ) → 2 * (i + 16) ≤ length text → i + 16 ≤ length bytes → IsPairsFrom text i block
    → Decodes text bytes i → Decodes text (put_chunk i bytes block) (i + 16)
block_step text bytes block i fits room pairs inv =
    let front : take i (put_chunk i bytes block) ≡ take i bytes =
    ap (take i) (put_chunk_is i bytes block (omega (arith, room, pairs.sixteen))) ∙ take_at (take i bytes) _ i (omega (arith, length-take-le i bytes (omega (arith, room)))) in
    more text (put_chunk i bytes block) i 16 fits (omega (arith, room, length-put_chunk i bytes block))
    (λ k l. pairs.each k l ∙ ap Ok (sym (get_or-put_chunk_at i bytes block k 0 (omega (arith, l, pairs.sixteen)) (omega (arith, room, pairs.sixteen)))))
    (subst (λ f. decode_pairs 0 text ≡ prepend f (decode_pairs (2 * i) (drop (2 * i) text))) (sym front) inv)
