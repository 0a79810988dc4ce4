-- The test of a number.
use Rattle.std.proofs.Common.{◌≡◌, ◌↔◌, ℕ, ◌<◌, ◌^◌, ◌&&◌, nat_lt, List, [], ◌∷◌, length, Bool, true, false, Option, Some, None, IsSome, IfSome, refl, sym, ap, subst, arith, cond}
use Rattle.std.specs.Bool.{Decides}
use Rattle.std.specs.Char.{is_digit, digit_value}
use Rattle.std.specs.List.{list_all}
use Rattle.std.specs.Str.Parse.{AllDigits, digits_value}
use Rattle.std.proofs.lemmas.Bool.Decides.{Decides-and, Decides-ltb, Decides-like}
use Rattle.blob_tokens.specs.Tokens.{IsNumber, number_of}
use Rattle.blob_tokens.proofs.Tokens.{has_bytes}

-- `IsNumber` as a test
abbrev is_number : List ℕ → Bool
is_number token = has_bytes token && list_all (λ byte. is_digit byte 10) token && nat_lt (digits_value 10 token) (2 ^ 64)

digits_decides : (bytes : List ℕ) → Decides (list_all (λ byte. is_digit byte 10) bytes) (AllDigits 10 bytes)
digits_decides [] = (λ _. tt, λ _. refl)
digits_decides (byte ∷ bytes) = Decides-and _ _ (Decides-ltb (digit_value byte) 10) (digits_decides bytes)

has_bytes_decides : (bytes : List ℕ) → Decides (has_bytes bytes) (0 < length bytes)
has_bytes_decides [] = (λ h. cc, λ h. absurd (omega arith))
has_bytes_decides (byte ∷ bytes) = (λ _. omega arith, λ _. refl)

is_number_decides : (token : List ℕ) → Decides (is_number token) (IsNumber token)
is_number_decides token = Decides-like _ (λ h. record { digits = h.0; below = h.1 }) (λ h. (h.digits, h.below))
    (Decides-and _ _ (Decides-and _ _ (has_bytes_decides token) (digits_decides token)) (Decides-ltb (digits_value 10 token) (2 ^ 64)))

chosen : (test : Bool) (P : Type 0) (value : ℕ) (found : Option ℕ) → Decides test P → IfSome found (λ v. v ≡ value) → (IsSome found ↔ P)
    → found ≡ cond test (Some value) None
chosen true P value (Some v) decides is found = ap Some is
chosen false P value (Some v) decides is found = let yes : false ≡ true = decides.1 (found.0 refl) in cc
chosen true P value None decides is found = let yes : false ≡ true = found.1 (decides.0 refl) in cc
chosen false P value None decides is found = refl

-- the two clauses of a parsed token determine the result
pub number_read : (token : List ℕ) (found : Option ℕ) → IfSome found (λ v. v ≡ digits_value 10 token) → (IsSome found ↔ IsNumber token) → found ≡ number_of token
number_read token found is some = chosen (is_number token) (IsNumber token) (digits_value 10 token) found (is_number_decides token) is some

some_value : (test : Bool) (value : ℕ) → IfSome (cond test (Some value) None) (λ v. v ≡ value)
some_value true value = refl
some_value false value = tt

some_found : (test : Bool) (P : Type 0) (value : ℕ) → Decides test P → IsSome (cond test (Some value) None) ↔ P
some_found true P value decides = (λ _. decides.0 refl, λ _. refl)
some_found false P value decides = (λ h. cc, λ p. let yes : false ≡ true = decides.1 p in cc)

-- and the result determines them
pub read_value : (token : List ℕ) (found : Option ℕ) → found ≡ number_of token → IfSome found (λ v. v ≡ digits_value 10 token)
read_value token found is = subst (λ f. IfSome f (λ v. v ≡ digits_value 10 token)) (sym is) (some_value (is_number token) (digits_value 10 token))

pub read_found : (token : List ℕ) (found : Option ℕ) → found ≡ number_of token → IsSome found ↔ IsNumber token
read_found token found is = subst (λ f. IsSome f ↔ IsNumber token) (sym is) (some_found (is_number token) (IsNumber token) (digits_value 10 token) (is_number_decides token))
