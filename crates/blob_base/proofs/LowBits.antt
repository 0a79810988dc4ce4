-- The lowest bit of sets of bits.
use Rattle.std.proofs.Common.{◌≡◌, ℕ, zero, suc, ◌-◌, ◌<◌, ◌^◌, ◌%◌, ◌==◌, ◌&&◌, ◌||◌, not, max, min, refl, arith}
use Rattle.std.specs.Int.RustNames.{bit_and, bit_or}
use Rattle.std.proofs.lemmas.Nat.{and_mask}
use Rattle.std.proofs.lemmas.Nat.Bits.{bit_at_or, bit_at_and, bit_at_lowest}

either_is_one : (x y : ℕ) → x < 2 → y < 2 → (max x y == 1) ≡ ((x == 1) || (y == 1))
either_is_one zero zero p q = refl
either_is_one zero (suc zero) p q = refl
either_is_one zero (suc (suc y)) p q = absurd (omega arith)
either_is_one (suc zero) zero p q = refl
either_is_one (suc zero) (suc zero) p q = refl
either_is_one (suc zero) (suc (suc y)) p q = absurd (omega arith)
either_is_one (suc (suc x)) y p q = absurd (omega arith)

first_alone_is_one : (x y : ℕ) → x < 2 → y < 2 → (min x (1 - y) == 1) ≡ ((x == 1) && not (y == 1))
first_alone_is_one zero zero p q = refl
first_alone_is_one zero (suc zero) p q = refl
first_alone_is_one zero (suc (suc y)) p q = absurd (omega arith)
first_alone_is_one (suc zero) zero p q = refl
first_alone_is_one (suc zero) (suc zero) p q = refl
first_alone_is_one (suc zero) (suc (suc y)) p q = absurd (omega arith)
first_alone_is_one (suc (suc x)) y p q = absurd (omega arith)

-- the lowest bit of a number by its remainder
lowest : (n : ℕ) → bit_and n 1 ≡ n % 2
lowest n = and_mask n 1

or_lowest : (a b : ℕ) → bit_or a b % 2 ≡ max (a % 2) (b % 2)
or_lowest a b = simp bit_at_lowest at (bit_at_or a b 0)

and_lowest : (a b : ℕ) → bit_and a b % 2 ≡ min (a % 2) (b % 2)
and_lowest a b = simp bit_at_lowest at (bit_at_and a b 0)

pub has_lowest-or : (a b : ℕ) → (bit_and (bit_or a b) 1 == 1) ≡ ((bit_and a 1 == 1) || (bit_and b 1 == 1))
has_lowest-or a b =
    rw (lowest (bit_or a b), lowest a, lowest b, or_lowest a b)
    (either_is_one (a % 2) (b % 2) (omega arith) (omega arith))

pub has_lowest-without : (a b : ℕ) → b < 2 ^ 8 → (bit_and (bit_and a (255 - b)) 1 == 1) ≡ ((bit_and a 1 == 1) && not (bit_and b 1 == 1))
has_lowest-without a b below =
    let flipped : (255 - b) % 2 ≡ 1 - b % 2 = omega arith in
    rw (lowest (bit_and a (255 - b)), lowest a, lowest b, and_lowest a (255 - b), flipped)
    (first_alone_is_one (a % 2) (b % 2) (omega arith) (omega arith))
