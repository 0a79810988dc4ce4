-- The order of bytes by numbers of eight bytes.
use Rattle.std.proofs.Common.{◌≡◌, ◌≢◌, ◌⊎◌, ◌<◌, ◌≤◌, ◌+◌, ◌*◌, ◌-◌, ℕ, zero, suc, List, [], ◌∷◌, length, take, drop, get_or, length-take, length-drop, refl, sym, ap, ap₂, inl, inr, ⊎_elim, ◌∙◌, arith, suc-mul}
use Rattle.std.proofs.Math.Nat.{mul-le-mul_right}
use Rattle.std.proofs.lemmas.Bool.{cases_lt}
use Rattle.std.proofs.lemmas.List.{get_or_past, get_or-take, get_or-drop}
use Rattle.std.proofs.lemmas.Nat.{be_bytes_8}
use Rattle.std.specs.Cmp.{nat_cmp_is}
use Rattle.std.specs.Cmp.Lexicographic.{slice_cmp}
use Rattle.std.specs.Int.{w64, from_be_bytes}
use Rattle.std.specs.Ordering.{nat_cmp, ordering_then}
use Rattle.std.specs.declared.cmp.Ordering.TheVariants.{Less, Equal, Greater}
use Rattle.blob_names.specs.Orders.{number_in}

-- The answers at numbers.

less : (x y : ℕ) → x < y → nat_cmp x y ≡ Less
less x y h = sym (nat_cmp_is x y Less h)

more : (x y : ℕ) → y < x → nat_cmp x y ≡ Greater
more x y h = sym (nat_cmp_is x y Greater h)

equal : (x y : ℕ) → x ≡ y → nat_cmp x y ≡ Equal
equal x y h = sym (nat_cmp_is x y Equal h)

alike : (a b c d : ℕ) → (a < b → c < d) → (a ≡ b → c ≡ d) → (b < a → d < c) → nat_cmp a b ≡ nat_cmp c d
alike a b c d l e m = ⊎_elim
    (λ h. less a b h ∙ sym (less c d (l h)))
    (λ h. ⊎_elim (λ k. more a b k ∙ sym (more c d (m k))) (λ k. let same : a ≡ b = omega arith in equal a b same ∙ sym (equal c d (e same))) (cases_lt b a))
    (cases_lt a b)

-- Bytes that agree.

abbrev AreBytes : List ℕ → Type 0
AreBytes xs = (i : ℕ) → get_or xs i 0 < 256

abbrev AgreeBelow : ℕ → List ℕ → List ℕ → Type 0
AgreeBelow k xs ys = (i : ℕ) → i < k → get_or xs i 0 ≡ get_or ys i 0

skip : (k : ℕ) (xs ys : List ℕ) → k ≤ length xs → k ≤ length ys → AgreeBelow k xs ys → slice_cmp nat_cmp xs ys ≡ slice_cmp nat_cmp (drop k xs) (drop k ys)
skip zero xs ys h l agree = refl
skip (suc k) [] ys h l agree = absurd (omega arith)
skip (suc k) (x ∷ xs) [] h l agree = absurd (omega arith)
skip (suc k) (x ∷ xs) (y ∷ ys) h l agree =
    ap (λ r. ordering_then r (slice_cmp nat_cmp xs ys)) (equal x y (agree 0 (omega arith)))
    ∙ skip k xs ys (omega arith) (omega arith) (λ i m. agree (suc i) (omega arith))

ends : (xs ys : List ℕ) → (length xs ≡ 0) ⊎ (length ys ≡ 0) → slice_cmp nat_cmp xs ys ≡ nat_cmp (length xs) (length ys)
ends [] [] h = sym (equal 0 0 refl)
ends [] (y ∷ ys) h = sym (less 0 (length (y ∷ ys)) (omega arith))
ends (x ∷ xs) [] h = sym (more (length (x ∷ xs)) 0 (omega arith))
ends (x ∷ xs) (y ∷ ys) h = absurd (⊎_elim (λ e. omega arith) (λ e. omega arith) h)

-- if all bytes that both have agree, the lengths decide
pub lengths_decide : (xs ys : List ℕ) (both : ℕ) → both ≤ length xs → both ≤ length ys → (length xs ≡ both) ⊎ (length ys ≡ both) → AgreeBelow both xs ys
    → slice_cmp nat_cmp xs ys ≡ nat_cmp (length xs) (length ys)
lengths_decide xs ys both h l one agree =
    skip both xs ys h l agree
    ∙ ends (drop both xs) (drop both ys) (⊎_elim (λ e. inl (omega (arith, e, length-drop both xs))) (λ e. inr (omega (arith, e, length-drop both ys))) one)
    ∙ alike (length (drop both xs)) (length (drop both ys)) (length xs) (length ys)
    (λ m. omega (arith, m, h, l, length-drop both xs, length-drop both ys))
    (λ m. omega (arith, m, h, l, length-drop both xs, length-drop both ys))
    (λ m. omega (arith, m, h, l, length-drop both xs, length-drop both ys))

-- Numbers of bytes, the high one first.

abbrev weight : ℕ → ℕ
weight zero = 1
weight (suc k) = 256 * weight k

some_weight : (k : ℕ) → 0 < weight k
some_weight zero = omega arith
some_weight (suc k) = omega (arith, some_weight k)

abbrev number : ℕ → List ℕ → ℕ
number zero xs = 0
number (suc k) [] = 0
number (suc k) (x ∷ xs) = x * weight k + number k xs

number_below : (k : ℕ) (xs : List ℕ) → AreBytes xs → number k xs < weight k
number_below zero xs small = omega arith
number_below (suc k) [] small = some_weight (suc k)
number_below (suc k) (x ∷ xs) small =
    let byte : x ≤ 255 = omega (arith, small 0) in
    omega (arith, number_below k xs (λ i. small (suc i)), mul-le-mul_right (weight k) byte)

-- if they differ, they decide
differ : (k : ℕ) (xs ys : List ℕ) → k ≤ length xs → k ≤ length ys → AreBytes xs → AreBytes ys → number k xs ≢ number k ys → slice_cmp nat_cmp xs ys ≡ nat_cmp (number k xs) (number k ys)
differ zero xs ys h l s t ne = absurd (ne refl)
differ (suc k) [] ys h l s t ne = absurd (omega arith)
differ (suc k) (x ∷ xs) [] h l s t ne = absurd (omega arith)
differ (suc k) (x ∷ xs) (y ∷ ys) h l s t ne = ⊎_elim (λ m. below m) (λ m. ⊎_elim (λ n. above n) (λ n. tied (λ z. differ k xs ys (omega arith) (omega arith) (λ i. s (suc i)) (λ i. t (suc i)) z) (omega arith)) (cases_lt y x)) (cases_lt x y)
  where
    small : number k xs < weight k
    small = number_below k xs (λ i. s (suc i))

    small_too : number k ys < weight k
    small_too = number_below k ys (λ i. t (suc i))

    below : x < y → slice_cmp nat_cmp (x ∷ xs) (y ∷ ys) ≡ nat_cmp (x * weight k + number k xs) (y * weight k + number k ys)
    below m =
        let next : suc x ≤ y = omega arith in
        ap (λ r. ordering_then r (slice_cmp nat_cmp xs ys)) (less x y m)
        ∙ sym (less (x * weight k + number k xs) (y * weight k + number k ys) (omega (arith, small, mul-le-mul_right (weight k) next, suc-mul x (weight k))))

    above : y < x → slice_cmp nat_cmp (x ∷ xs) (y ∷ ys) ≡ nat_cmp (x * weight k + number k xs) (y * weight k + number k ys)
    above m =
        let next : suc y ≤ x = omega arith in
        ap (λ r. ordering_then r (slice_cmp nat_cmp xs ys)) (more x y m)
        ∙ sym (more (x * weight k + number k xs) (y * weight k + number k ys) (omega (arith, small_too, mul-le-mul_right (weight k) next, suc-mul y (weight k))))

    tied : (number k xs ≢ number k ys → slice_cmp nat_cmp xs ys ≡ nat_cmp (number k xs) (number k ys)) → x ≡ y → slice_cmp nat_cmp (x ∷ xs) (y ∷ ys) ≡ nat_cmp (x * weight k + number k xs) (y * weight k + number k ys)
    tied rest e =
        let same : x * weight k ≡ y * weight k = ap (λ n. n * weight k) e in
        ap (λ r. ordering_then r (slice_cmp nat_cmp xs ys)) (equal x y e)
        ∙ rest (λ z. ne (omega (arith, z, same)))
        ∙ alike (number k xs) (number k ys) (x * weight k + number k xs) (y * weight k + number k ys) (λ m. omega (arith, m, same)) (λ m. omega (arith, m, same)) (λ m. omega (arith, m, same))

eight : (xs : List ℕ) → 8 ≤ length xs → from_be_bytes w64 (take 8 xs) ≡ number 8 xs
eight [] l = absurd (omega arith)
eight (a ∷ []) l = absurd (omega arith)
eight (a ∷ (b ∷ [])) l = absurd (omega arith)
eight (a ∷ (b ∷ (c ∷ []))) l = absurd (omega arith)
eight (a ∷ (b ∷ (c ∷ (d ∷ [])))) l = absurd (omega arith)
eight (a ∷ (b ∷ (c ∷ (d ∷ (e ∷ []))))) l = absurd (omega arith)
eight (a ∷ (b ∷ (c ∷ (d ∷ (e ∷ (f ∷ [])))))) l = absurd (omega arith)
eight (a ∷ (b ∷ (c ∷ (d ∷ (e ∷ (f ∷ (g ∷ []))))))) l = absurd (omega arith)
eight (a ∷ b ∷ c ∷ d ∷ e ∷ f ∷ g ∷ h ∷ xs) l = omega arith

-- bytes that agree up to an index, and whose numbers there differ
pub numbers_decide : (xs ys : List ℕ) (at : ℕ) → at + 8 ≤ length xs → at + 8 ≤ length ys → AreBytes xs → AreBytes ys → AgreeBelow at xs ys → number_in xs at ≢ number_in ys at
    → slice_cmp nat_cmp xs ys ≡ nat_cmp (number_in xs at) (number_in ys at)
numbers_decide xs ys at h l s t agree ne =
    let one = eight (drop at xs) (omega (arith, length-drop at xs)) in
    let other = eight (drop at ys) (omega (arith, length-drop at ys)) in
    skip at xs ys (omega arith) (omega arith) agree
    ∙ differ 8 (drop at xs) (drop at ys) (omega (arith, length-drop at xs)) (omega (arith, length-drop at ys))
    (λ i. omega (arith, get_or-drop at xs i 0, s (at + i))) (λ i. omega (arith, get_or-drop at ys i 0, t (at + i))) (λ e. ne (one ∙ e ∙ sym other))
    ∙ ap₂ nat_cmp (sym one) (sym other)

-- bytes whose numbers are the same
pub numbers_agree : (xs ys : List ℕ) (at : ℕ) → at + 8 ≤ length xs → at + 8 ≤ length ys → AreBytes xs → AreBytes ys → number_in xs at ≡ number_in ys at
    → (i : ℕ) → at ≤ i → i < at + 8 → get_or xs i 0 ≡ get_or ys i 0
numbers_agree xs ys at h l s t e i low high = part xs ∙ ap (λ b. get_or b (i - at) 0) (sym (be_bytes_8 (take 8 (drop at xs)) (number_in ys at) (count xs h) (small xs s) (sym e))
    ∙ be_bytes_8 (take 8 (drop at ys)) (number_in ys at) (count ys l) (small ys t) refl) ∙ sym (part ys)
  where
    count : (zs : List ℕ) → at + 8 ≤ length zs → length (take 8 (drop at zs)) ≡ 8
    count zs m = omega (arith, length-take 8 (drop at zs), length-drop at zs, m)

    part : (zs : List ℕ) → get_or zs i 0 ≡ get_or (take 8 (drop at zs)) (i - at) 0
    part zs = ap (λ n. get_or zs n 0) {y = at + (i - at)} (omega arith) ∙ sym (get_or-drop at zs (i - at) 0) ∙ sym (get_or-take 8 (drop at zs) (i - at) 0 (omega arith))

    small : (zs : List ℕ) → AreBytes zs → (j : ℕ) → get_or (take 8 (drop at zs)) j 0 < 256
    small zs bytes j = ⊎_elim
        (λ m. omega (arith, get_or-take 8 (drop at zs) j 0 m, get_or-drop at zs j 0, bytes (at + j)))
        (λ m. omega (arith, get_or_past (take 8 (drop at zs)) j 0 (omega (arith, length-take 8 (drop at zs), m))))
        (cases_lt j 8)
