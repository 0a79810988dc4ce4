-- Hex digits: the tables to decode them, and decoding and encoding.
use Rattle.std.proofs.Common.{Option, Some, None, [], ◌∷◌, ◌++◌, ◌&&◌, nat_le, inl, inr, ◌≡◌, ◌<◌, ◌≤◌, ◌+◌, ◌*◌, ◌%◌, ℕ, List, Result, Ok, Err, Bool, true, false, map, get_or, slice_index, slice_set, length, take, drop, unwrap_or, refl, sym, ap, subst, ◌∙◌, arith}
use Rattle.std.specs.Prelude.{IsErr, MatchResult, OnOk, OnErr}
use Rattle.std.specs.Int.Bits.{bit_or}
use Rattle.std.specs.Str.{IsAscii, IsUtf8}
use Rattle.std.proofs.lemmas.Str.Ascii.{IsAscii-nil, IsAscii-cons}
use Rattle.std.proofs.lemmas.Str.{IsUtf8-from_ascii, IsUtf8-append}
use Rattle.hex.proofs.HexLemmas.{IsAscii-encode_with}
use Rattle.std.proofs.lemmas.Nat.{le_or_l, le_or_r, or_of_8}
use Rattle.std.proofs.lemmas.Bool.{and_parts, cases_lt}
use Rattle.std.proofs.lemmas.Bool.Decides.{nat_tests}
use Rattle.std.proofs.lemmas.List.FromFn.{get_or-map-range_with_len}
use Rattle.std.specs.List.{range_with_len}
use Rattle.hex.specs.Hex.{hex_digit_value, digit_or_error, ◌>>=◌, pair_value, decode_pairs, encode_lower, lower_digits}
use Rattle.hex.specs.declared.error.FromHexError.{FromHexError}
use Rattle.hex.proofs.Pairs.{prepend, decode_step, decode_done, decode_err}
use Rattle.blob_tokens.specs.declared.hex_text.TheConstants.{HIGH, LOW}

-- the tables' values for a byte
abbrev pub high_of : ℕ → ℕ
high_of c = 16 * unwrap_or (hex_digit_value c) 16

abbrev pub low_of : ℕ → ℕ
low_of c = unwrap_or (hex_digit_value c) 256

high_is : HIGH ≡ map high_of (range_with_len 0 256)
high_is = refl

low_is : LOW ≡ map low_of (range_with_len 0 256)
low_is = refl

high_at : (c : ℕ) → c < 256 → get_or HIGH c 0 ≡ high_of c
high_at c h = ap (λ t. get_or t c 0) high_is ∙ get_or-map-range_with_len high_of 0 256 c c 0 h (omega arith)

low_at : (c : ℕ) → c < 256 → get_or LOW c 0 ≡ low_of c
low_at c h = ap (λ t. get_or t c 0) low_is ∙ get_or-map-range_with_len low_of 0 256 c c 0 h (omega arith)

-- two digits
pub pair_reads : (a b i : ℕ) → high_of a + low_of b ≤ 255 → pair_value a b i ≡ Ok (high_of a + low_of b)
pair_reads a b i h = grind arith

pub digit_small : (c : ℕ) → unwrap_or (hex_digit_value c) 0 ≤ 15
digit_small c = grind arith

or_more : (o : Option ℕ) → unwrap_or o 0 ≤ 15 → (16 * unwrap_or o 16 ≤ 256) × (unwrap_or o 256 ≤ 256)
or_more None h = (omega arith, omega arith)
or_more (Some v) h = (omega (arith, h), omega (arith, h))

-- the sum of two entries of the tables
pub pair_at : (a b : ℕ) → a < 256 → b < 256 → (get_or HIGH a 0 + get_or LOW b 0 ≡ high_of a + low_of b) × (high_of a + low_of b ≤ 512)
pair_at a b h l = (
  omega (arith, high_at a h, low_at b l),
  omega (arith, (or_more (hex_digit_value a) (digit_small a)).0, (or_more (hex_digit_value b) (digit_small b)).1),
)

refuses_both : (a b i : ℕ) (o p : Option ℕ) → unwrap_or o 0 ≤ 15 → unwrap_or p 0 ≤ 15 → 255 < 16 * unwrap_or o 16 + unwrap_or p 256
    → IsErr (digit_or_error a i o >>= (λ high. digit_or_error b (i + 1) p >>= (λ low. Ok (high * 16 + low))))
refuses_both a b i None p _ _ h = refl
refuses_both a b i (Some v) None _ _ h = refl
refuses_both a b i (Some v) (Some w) small_v small_w h = absurd (omega (arith, h, small_v, small_w))

-- two bytes of which one isn't a digit
pub pair_refuses : (a b i : ℕ) → 255 < high_of a + low_of b → IsErr (pair_value a b i)
pair_refuses a b i h = refuses_both a b i (hex_digit_value a) (hex_digit_value b) (digit_small a) (digit_small b) h

-- the first pairs are decoded
abbrev pub Decodes : List ℕ → List ℕ → ℕ → Type 0
Decodes text bytes i = decode_pairs 0 text ≡ prepend (take i bytes) (decode_pairs (2 * i) (drop (2 * i) text))

-- the first pairs are decoded, or one of them is refused: no value, or one, exceeds a byte
pub record Reads (text bytes : List ℕ) (i seen : ℕ) : Type 0 where
  pub good : seen ≤ 255 → Decodes text bytes i
  pub bad : 255 < seen → IsErr (decode_pairs 0 text)

-- a refused pair refuses the text
refused-by : (text bytes : List ℕ) (i : ℕ) (r : Result ℕ FromHexError) → 2 * i + 1 < length text
    → pair_value (slice_index text (2 * i)) (slice_index text (2 * i + 1)) (2 * i) ≡ r → IsErr r
    → Decodes text bytes i → IsErr (decode_pairs 0 text)
refused-by text bytes i (Ok v) fits same bad inv = cc
refused-by text bytes i (Err e) fits same bad inv = rw (decode_err text bytes i e fits same inv) bad

refuses : (text bytes : List ℕ) (i : ℕ) → 2 * i + 1 < length text
    → 255 < high_of (slice_index text (2 * i)) + low_of (slice_index text (2 * i + 1))
    → Decodes text bytes i → IsErr (decode_pairs 0 text)
refuses text bytes i fits bad inv =
    let a = slice_index text (2 * i) in
    let b = slice_index text (2 * i + 1) in
    refused-by text bytes i (pair_value a b (2 * i)) fits refl (pair_refuses a b (2 * i) bad) inv

-- one pair more
still_good : (text bytes : List ℕ) (i seen value : ℕ) → 2 * i + 1 < length text → i < length bytes
    → value ≡ high_of (slice_index text (2 * i)) + low_of (slice_index text (2 * i + 1))
    → Reads text bytes i seen → bit_or seen value ≤ 255 → Decodes text (slice_set bytes i (value % 256)) (i + 1)
still_good text bytes i seen value fits room same inv h =
    let l = le_or_l seen value in
    let r = le_or_r seen value in
    let a = slice_index text (2 * i) in
    let b = slice_index text (2 * i + 1) in
    let byte : value % 256 ≡ high_of a + low_of b = omega (arith, h, r, same) in
    rw byte (decode_step text bytes i (high_of a + low_of b) fits room (pair_reads a b (2 * i) (omega (arith, h, r, same)))
    (inv.good (omega (arith, h, l))))

now_bad : (text bytes : List ℕ) (i seen value : ℕ) → 2 * i + 1 < length text
    → value ≡ high_of (slice_index text (2 * i)) + low_of (slice_index text (2 * i + 1))
    → Reads text bytes i seen → 255 < bit_or seen value → IsErr (decode_pairs 0 text)
now_bad text bytes i seen value fits same inv h = elim (cases_lt 255 seen) [
  | inl was ↦ inv.bad was
  | inr were ↦ elim (cases_lt 255 value) [
    | inl is ↦ refuses text bytes i fits (omega (arith, is, same)) (inv.good were)
    | inr not ↦
        let both = or_of_8 seen value (omega (arith, were)) (omega (arith, not)) in
        absurd (omega (arith, both, h))
  ]
]

pub reads_step : (text bytes : List ℕ) (i seen value : ℕ) → 2 * i + 1 < length text → i < length bytes
    → value ≡ high_of (slice_index text (2 * i)) + low_of (slice_index text (2 * i + 1))
    → Reads text bytes i seen → Reads text (slice_set bytes i (value % 256)) (i + 1) (bit_or seen value)
reads_step text bytes i seen value fits room same inv = record {
  good = still_good text bytes i seen value fits room same inv;
  bad = now_bad text bytes i seen value fits same inv;
}

only_err : (r : Result (List ℕ) FromHexError) (bytes : List ℕ) (result : Bool) → result ≡ false → IsErr r
    → MatchResult r (λ read. (result ≡ true) × (bytes ≡ read)) (λ _. result ≡ false)
only_err (Ok read) bytes result same bad = cc
only_err (Err e) bytes result same bad = same

-- all pairs were read
pub reads_done : (text bytes : List ℕ) (i seen : ℕ) (result : Bool) → length text ≤ 2 * i → length bytes ≤ i
    → (seen ≤ 255 → result ≡ true) → (255 < seen → result ≡ false) → Reads text bytes i seen
    → MatchResult (decode_pairs 0 text) (λ read. (result ≡ true) × (bytes ≡ read)) (λ _. result ≡ false)
reads_done text bytes i seen result fits room good_so bad_so inv = elim (cases_lt 255 seen) [
  | inl bad ↦ only_err (decode_pairs 0 text) bytes result (bad_so bad) (inv.bad bad)
  | inr good ↦
      let done = decode_done text bytes i room fits (inv.good good) in
      rw done (good_so good, refl)
]

-- the digits are ASCII
all_ascii : List ℕ → Bool
all_ascii [] = true
all_ascii (c ∷ cs) = nat_le c 127 && all_ascii cs

ascii_char : (c : ℕ) → nat_le c 127 ≡ true → c < 128
ascii_char c h = grind (arith, nat_tests)

ascii_from_test : (cs : List ℕ) → all_ascii cs ≡ true → IsAscii cs
unfolding all_ascii
ascii_from_test [] h = IsAscii-nil
ascii_from_test (c ∷ cs) h =
    let parts = and_parts (nat_le c 127) (all_ascii cs) h in
    IsAscii-cons c cs (ascii_char c parts.0) (ascii_from_test cs parts.1)

pub lower_ascii : IsAscii lower_digits
unfolding all_ascii
lower_ascii = ascii_from_test lower_digits refl

pub encoded_utf8 : (bytes : List ℕ) → IsUtf8 (encode_lower bytes)
encoded_utf8 bytes = IsUtf8-from_ascii (encode_lower bytes) (IsAscii-encode_with lower_digits bytes lower_ascii)

-- digits are appended to a text, or nothing is
pub still_utf8 : {T E : Type 0} (result : Result T E) (old new bytes : List ℕ) → IsUtf8 old
    → OnOk result (new ≡ old ++ encode_lower bytes) → OnErr result (new ≡ old) → IsUtf8 new
still_utf8 (Ok _) old new bytes utf8 ok err = subst IsUtf8 (sym ok) (IsUtf8-append old (encode_lower bytes) utf8 (encoded_utf8 bytes))
still_utf8 (Err _) old new bytes utf8 ok err = subst IsUtf8 (sym err) utf8
