-- Cells by division.
use Rattle.std.proofs.Common.{◌≡◌, ℕ, ◌+◌, ◌*◌, ◌/◌, ◌%◌, ◌<◌, ◌≤◌, Bool, true, false, refl, sym, ◌∙◌, ap, nat_lt, if◌then◌else◌, arith}
use Rattle.std.proofs.lemmas.Bool.Decides.{nat_tests}
use Rattle.blob_model.specs.declared.mode.PartialWriteMode.{PartialWriteMode}
use Rattle.blob_model.specs.declared.mode.PartialWriteMode.TheVariants.{Prefix, Subset}
use Rattle.blob_draws.specs.Cells.{Grid, config_in_cell, mode_in_cell, first_cell_of, second_cell_of, first_of, second_of}

mode_first : (cell : ℕ) → cell < 10201 → mode_in_cell cell ≡ Prefix
mode_first cell h = let t : nat_lt cell 10201 ≡ true = grind (arith, nat_tests) in ap (λ (b : Bool). if b then Prefix else Subset) t

mode_second : (cell : ℕ) → 10201 ≤ cell → mode_in_cell cell ≡ Subset
mode_second cell h = let t : nat_lt cell 10201 ≡ false = grind (arith, nat_tests) in ap (λ (b : Bool). if b then Prefix else Subset) t

pub prefix_cell : (f r : ℕ) → f < 101 → r < 101 → config_in_cell (first_cell_of f r) ≡ first_of f r
prefix_cell f r hf hr =
    let a : (r * 101 + f) % 10201 % 101 ≡ f = omega arith in
    let b : (r * 101 + f) % 10201 / 101 ≡ r = omega arith in
    λ i. record { failure = a i; retention = b i; mode = mode_first (r * 101 + f) (omega arith) i }

pub subset_cell : (f r : ℕ) → f < 101 → r < 101 → config_in_cell (second_cell_of f r) ≡ second_of f r
subset_cell f r hf hr =
    let a : (10201 + (r * 101 + f)) % 10201 % 101 ≡ f = omega arith in
    let b : (10201 + (r * 101 + f)) % 10201 / 101 ≡ r = omega arith in
    λ i. record { failure = a i; retention = b i; mode = mode_second (10201 + (r * 101 + f)) (omega arith) i }

is_prefix : PartialWriteMode → Bool
is_prefix Prefix = true
is_prefix mode = false

test_of : (cell : ℕ) → nat_lt cell 10201 ≡ is_prefix (mode_in_cell cell)
unfolding is_prefix
test_of cell = go (nat_lt cell 10201)
  where
    go : (b : Bool) → b ≡ is_prefix (if b then Prefix else Subset)
    go true = refl
    go false = refl

pub one_cell : (a b : ℕ) → a < 20402 → b < 20402 → config_in_cell a ≡ config_in_cell b → a ≡ b
one_cell a b ha hb e =
    let f : a % 10201 % 101 ≡ b % 10201 % 101 = ap (λ (g : Grid). g.failure) e in
    let r : a % 10201 / 101 ≡ b % 10201 / 101 = ap (λ (g : Grid). g.retention) e in
    let t : nat_lt a 10201 ≡ nat_lt b 10201 = test_of a ∙ ap (λ (g : Grid). is_prefix g.mode) e ∙ sym (test_of b) in
    let rest : a % 10201 ≡ b % 10201 = omega arith in
    go (nat_lt a 10201) (nat_lt b 10201) refl refl t rest
  where
    go : (x y : Bool) → nat_lt a 10201 ≡ x → nat_lt b 10201 ≡ y → x ≡ y → a % 10201 ≡ b % 10201 → a ≡ b
    go true true p q t rest = grind (arith, nat_tests)
    go false false p q t rest = grind (arith, nat_tests)
    go true false p q t rest = cc
    go false true p q t rest = cc
