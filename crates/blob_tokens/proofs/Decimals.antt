-- Decimal digits in blocks.
use Rattle.std.proofs.Common.{◌≡◌, ◌↔◌, ◌⊎◌, inl, inr, ℕ, ◌+◌, ◌*◌, ◌%◌, ◌<◌, ◌≤◌, ◌^◌, nat_lt, List, [], ◌∷◌, ◌++◌, length, take, drop, get_or, map, Option, Some, None, IsSome, refl, sym, ap, subst, ◌∙◌, arith}
use Rattle.std.proofs.lemmas.Bool.{cases_lt}
use Rattle.std.proofs.lemmas.Bool.Decides.{nat_tests}
use Rattle.std.proofs.lemmas.List.{take-append-drop, length-drop, length-take, length-take-le}
use Rattle.std.proofs.lemmas.List.FromFn.{get_or-map-range_with_len}
use Rattle.std.proofs.lemmas.Str.Parse.{digits_value_short, numerals_by_value, tells_digits}
use Rattle.std.specs.Char.{digit_value}
use Rattle.std.specs.List.{range_with_len}
use Rattle.std.specs.Option.{SomeIff}
use Rattle.std.specs.Str.Parse.{AllDigits, digits_value, digits_value_after}
use Rattle.blob_tokens.specs.Digits.{mark, marked, marked_after}
use Rattle.blob_tokens.specs.Tokens.{IsNumber, number_of}
use Rattle.blob_tokens.proofs.Numbers.{number_read}
use Rattle.blob_tokens.specs.declared.digits.TheConstants.{ONES, TENS}

ones_is : ONES ≡ map mark (range_with_len 0 256)
ones_is = refl

tens_is : TENS ≡ map (λ b. 10 * mark b) (range_with_len 0 256)
tens_is = refl

pub one_at : (b : ℕ) → b < 256 → get_or ONES b 0 ≡ mark b
one_at b h = ap (λ t. get_or t b 0) ones_is ∙ get_or-map-range_with_len mark 0 256 b b 0 h (omega arith)

pub ten_at : (b : ℕ) → b < 256 → get_or TENS b 0 ≡ 10 * mark b
ten_at b h = ap (λ t. get_or t b 0) tens_is ∙ get_or-map-range_with_len (λ b. 10 * mark b) 0 256 b b 0 h (omega arith)

mark_digit : (b : ℕ) → digit_value b < 10 → mark b ≡ digit_value b
mark_digit b h = grind (arith, nat_tests)

mark_other : (b : ℕ) → 10 ≤ digit_value b → mark b ≡ 134217728
mark_other b h = grind (arith, nat_tests)

pub mark_small : (b : ℕ) → mark b ≤ 134217728
mark_small b = elim (cases_lt (digit_value b) 10) [
  | inl is ↦ omega (arith, mark_digit b is)
  | inr isnt ↦ omega (arith, mark_other b isnt)
]

-- up to eight digits, one by one
pub marked_1 : (ds : List ℕ) → length ds ≡ 1 → marked ds ≡ mark (get_or ds 0 0)
marked_1 (a ∷ []) h = omega arith
marked_1 ds h = absurd (omega (arith, h))

pub marked_2 : (ds : List ℕ) → length ds ≡ 2 → marked ds ≡ (mark (get_or ds 0 0)) * 10 + mark (get_or ds 1 0)
marked_2 (a ∷ b ∷ []) h = omega arith
marked_2 ds h = absurd (omega (arith, h))

pub marked_3 : (ds : List ℕ) → length ds ≡ 3 → marked ds ≡ ((mark (get_or ds 0 0)) * 10 + mark (get_or ds 1 0)) * 10 + mark (get_or ds 2 0)
marked_3 (a ∷ b ∷ c ∷ []) h = omega arith
marked_3 ds h = absurd (omega (arith, h))

pub marked_4 : (ds : List ℕ) → length ds ≡ 4 → marked ds ≡ (((mark (get_or ds 0 0)) * 10 + mark (get_or ds 1 0)) * 10 + mark (get_or ds 2 0)) * 10 + mark (get_or ds 3 0)
marked_4 (a ∷ b ∷ c ∷ d ∷ []) h = omega arith
marked_4 ds h = absurd (omega (arith, h))

marked_append : (n : ℕ) (xs ys : List ℕ) → marked_after n (xs ++ ys) ≡ marked_after (marked_after n xs) ys
marked_append n [] ys = refl
marked_append n (x ∷ xs) ys = marked_append (n * 10 + mark x) xs ys

four_after : (n : ℕ) (ds : List ℕ) → length ds ≡ 4 → marked_after n ds ≡ n * 10000 + marked ds
four_after n (a ∷ b ∷ c ∷ d ∷ []) four = omega arith
four_after n ds four = absurd (omega (arith, four))

-- the last four of more
pub marked_split : (n : ℕ) (ds : List ℕ) → n + 4 ≡ length ds → marked ds ≡ marked (take n ds) * 10000 + marked (drop n ds)
marked_split n ds at =
    ap marked (sym (take-append-drop n ds)) ∙ marked_append 0 (take n ds) (drop n ds)
    ∙ four_after (marked (take n ds)) (drop n ds) (omega (arith, at, length-drop n ds))

marked_digits : (n : ℕ) (ds : List ℕ) → AllDigits 10 ds → marked_after n ds ≡ digits_value_after 10 n ds
marked_digits n [] h = refl
marked_digits n (d ∷ ds) h = ap (λ m. marked_after (n * 10 + m) ds) (mark_digit d h.0) ∙ marked_digits (n * 10 + digit_value d) ds h.1

marked_grows : (n : ℕ) (ds : List ℕ) → n ≤ marked_after n ds
marked_grows n [] = omega arith
marked_grows n (d ∷ ds) = omega (arith, marked_grows (n * 10 + mark d) ds)

value_grows : (n : ℕ) (ds : List ℕ) → n ≤ digits_value_after 10 n ds
value_grows n [] = omega arith
value_grows n (d ∷ ds) = omega (arith, value_grows (n * 10 + digit_value d) ds)

digits_or_more : (n : ℕ) (ds : List ℕ) → AllDigits 10 ds ⊎ (134217728 ≤ marked_after n ds)
digits_or_more n [] = inl tt
digits_or_more n (d ∷ ds) = elim (cases_lt (digit_value d) 10) [
  | inl is ↦ elim (digits_or_more (n * 10 + mark d) ds) [
    | inl all ↦ inl (is, all)
    | inr more ↦ inr more
  ]
  | inr isnt ↦ inr (omega (arith, mark_other d isnt, marked_grows (n * 10 + mark d) ds))
]

-- at most eight digits write less than a mark
pub are_digits : (ds : List ℕ) → marked ds < 134217728 → AllDigits 10 ds
are_digits ds small = elim (digits_or_more 0 ds) [
  | inl all ↦ all
  | inr more ↦ absurd (omega (arith, small, more))
]

pub few_value : (ds : List ℕ) → AllDigits 10 ds → marked ds ≡ digits_value 10 ds
few_value ds all = marked_digits 0 ds all

pub are_few : (ds : List ℕ) → length ds ≤ 8 → AllDigits 10 ds → marked ds < 134217728
are_few ds few all = omega (arith, few_value ds all, digits_value_short (numerals_by_value (AllDigits 10) tells_digits) ds 8 all few)

-- the number of at most eight bytes, or none
pub few_number : (ds : List ℕ) (found : Option ℕ) → 0 < length ds → length ds ≤ 8
    → (marked ds < 134217728 → found ≡ Some (marked ds)) → (134217728 ≤ marked ds → found ≡ None) → found ≡ number_of ds
few_number ds found some few good bad = elim (cases_lt (marked ds) 134217728) [
  | inl is ↦
      let all = are_digits ds is in
      let value = few_value ds all in
      rw (good is) (number_read ds (Some (marked ds)) value
      (λ _. record { digits = (some, all); below = omega (arith, is, value) }, λ _. refl))
  | inr isnt ↦ rw (bad isnt) (number_read ds None tt (λ n. cc, λ n. absurd (omega (arith, isnt, are_few ds few n.digits.1))))
]

-- a block of eight, after others
eight_after : (n : ℕ) (ds : List ℕ) → length ds ≡ 8 → digits_value_after 10 n ds ≡ n * 100000000 + digits_value 10 ds
eight_after n (a ∷ b ∷ c ∷ d ∷ e ∷ f ∷ g ∷ h ∷ []) eight = omega arith
eight_after n ds eight = absurd (omega (arith, eight))

value_append : (n : ℕ) (xs ys : List ℕ) → digits_value_after 10 n (xs ++ ys) ≡ digits_value_after 10 (digits_value_after 10 n xs) ys
value_append n [] ys = refl
value_append n (x ∷ xs) ys = value_append (n * 10 + digit_value x) xs ys

digits_append : (xs ys : List ℕ) → AllDigits 10 xs → AllDigits 10 ys → AllDigits 10 (xs ++ ys)
digits_append [] ys h l = l
digits_append (x ∷ xs) ys h l = (h.0, digits_append xs ys h.1 l)

digits_front : (xs ys : List ℕ) → AllDigits 10 (xs ++ ys) → AllDigits 10 xs
digits_front [] ys h = tt
digits_front (x ∷ xs) ys h = (h.0, digits_front xs ys h.1)

digits_back : (xs ys : List ℕ) → AllDigits 10 (xs ++ ys) → AllDigits 10 ys
digits_back [] ys h = h
digits_back (x ∷ xs) ys h = digits_back xs ys h.1

pub has_some : (ds : List ℕ) → (length ds ≡ 0 → ⊥) → 0 < length ds
has_some [] h = absurd (h refl)
has_some (d ∷ ds) h = omega arith

-- a text that isn't a number
pub no_number : (text : List ℕ) → (IsNumber text → ⊥) → None ≡ number_of text
no_number text isnt = number_read text None tt (λ (some : IsSome {T = ℕ} None). cc, λ n. absurd (isnt n))

-- its first bytes aren't digits
pub front_refused : (text : List ℕ) (n : ℕ) → n ≤ 8 → 134217728 ≤ marked (take n text) → AllDigits 10 text → ⊥
front_refused text n few bad all =
    let front = digits_front (take n text) (drop n text) (subst (AllDigits 10) (sym (take-append-drop n text)) all) in
    let small = are_few (take n text) (omega (arith, length-take n text, few)) front in
    omega (arith, small, bad)

-- the digits of a text are read but for the rest, which is in blocks of eight
pub record Parsed (text rest : List ℕ) (value : ℕ) : Type 0 where
  pub whole : length rest % 8 ≡ 0
  pub all : AllDigits 10 rest → AllDigits 10 text
  pub only : AllDigits 10 text → AllDigits 10 rest
  pub is : digits_value 10 text ≡ digits_value_after 10 value rest

pub parsed_start : (text : List ℕ) (n : ℕ) → n ≤ length text → length text % 8 ≡ n → marked (take n text) < 134217728
    → Parsed text (drop n text) (marked (take n text))
parsed_start text n fits rests small =
    let all = are_digits (take n text) small in
    let join = take-append-drop n text in
    record {
      whole = omega (arith, length-drop n text, fits, rests);
      all = λ h. subst (AllDigits 10) join (digits_append (take n text) (drop n text) all h);
      only = λ h. digits_back (take n text) (drop n text) (subst (AllDigits 10) (sym join) h);
      is = ap (digits_value 10) (sym join) ∙ value_append 0 (take n text) (drop n text)
          ∙ ap (λ v. digits_value_after 10 v (drop n text)) (sym (few_value (take n text) all));
    }

pub parsed_step : (text rest : List ℕ) (value : ℕ) → 8 ≤ length rest → marked (take 8 rest) < 134217728 → Parsed text rest value
    → Parsed text (drop 8 rest) (value * 100000000 + marked (take 8 rest))
parsed_step text rest value some small inv =
    let all = are_digits (take 8 rest) small in
    let join = take-append-drop 8 rest in
    record {
      whole = omega (arith, length-drop 8 rest, some, inv.whole);
      all = λ h. inv.all (subst (AllDigits 10) join (digits_append (take 8 rest) (drop 8 rest) all h));
      only = λ h. digits_back (take 8 rest) (drop 8 rest) (subst (AllDigits 10) (sym join) (inv.only h));
      is = inv.is ∙ ap (digits_value_after 10 value) (sym join) ∙ value_append value (take 8 rest) (drop 8 rest)
          ∙ ap (λ v. digits_value_after 10 v (drop 8 rest))
          (eight_after value (take 8 rest) (length-take-le 8 rest some) ∙ ap (λ m. value * 100000000 + m) (sym (few_value (take 8 rest) all)));
    }

pub parsed_bad : (text rest : List ℕ) (value : ℕ) → 134217728 ≤ marked (take 8 rest) → Parsed text rest value → None ≡ number_of text
parsed_bad text rest value bad inv = no_number text (λ n. front_refused rest 8 (omega arith) bad (inv.only n.digits.1))

pub parsed_full : (text rest : List ℕ) (value : ℕ) → 8 ≤ length rest → marked (take 8 rest) < 134217728 → Parsed text rest value
    → 2 ^ 64 ≤ value * 100000000 + marked (take 8 rest) → None ≡ number_of text
parsed_full text rest value some small inv full = no_number text (λ n.
    let next = parsed_step text rest value some small inv in
    let more = value_grows (value * 100000000 + marked (take 8 rest)) (drop 8 rest) in
    omega (arith, n.below, next.is, more, full))

pub parsed_done : (text rest : List ℕ) (value : ℕ) → 0 < length text → length rest ≡ 0 → value < 2 ^ 64 → Parsed text rest value → Some value ≡ number_of text
parsed_done text [] value some none fits inv = number_read text (Some value) (sym inv.is)
    (λ _. record { digits = (some, inv.all tt); below = omega (arith, inv.is, fits) }, λ _. refl)
parsed_done text (r ∷ rs) value some none fits inv = absurd (omega (arith, none))

-- a product or a sum that is checked
pub too_much : (found : Option ℕ) (n : ℕ) → SomeIff found (n < 2 ^ 64) n → found ≡ None → 2 ^ 64 ≤ n
too_much None n iff none = elim (cases_lt n (2 ^ 64)) [ inl is ↦ absurd (iff is) | inr isnt ↦ isnt ]
too_much (Some m) n iff none = absurd (cc)

pub made_is : (found : Option ℕ) (n m : ℕ) → SomeIff found (n < 2 ^ 64) n → found ≡ Some m → (m ≡ n) × (m < 2 ^ 64)
made_is None n m iff some = absurd (cc)
made_is (Some l) n m iff some =
    let same : l ≡ n = iff.1 in
    let is : m ≡ n = cc in
    (is, omega (arith, is, iff.0))
