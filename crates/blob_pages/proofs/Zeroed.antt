-- The bytes of a blank page.
use Rattle.std.proofs.Common.{◌≡◌, ◌∙◌, sym, ap, ap₂, ℕ, ◌+◌, ◌-◌, ◌≤◌, List, ◌++◌, length, drop, replicate, arith}
use Rattle.std.proofs.lemmas.List.{take-replicate, drop-replicate, length-replicate, replicate-append-replicate}
use Rattle.blob_pages.specs.Sizes.{page_size, blank_bytes, splice}

pub blank_length : length blank_bytes ≡ page_size
unfolding blank_bytes
blank_length = length-replicate {A = ℕ} page_size 0

-- zeros written over zeros
over_zeros : (at n size : ℕ) → at + n ≤ size → splice (replicate size 0) at (replicate n 0) ≡ replicate size 0
over_zeros at n size fits =
    ap₂ (λ (x y : List ℕ). x ++ (replicate n 0 ++ y)) (take-replicate {X = ℕ} at size 0 (omega (arith, fits)))
    (ap (λ (k : ℕ). drop (at + k) (replicate size 0)) (length-replicate {A = ℕ} n 0) ∙ drop-replicate {X = ℕ} (at + n) size 0)
    ∙ ap (λ (x : List ℕ). replicate at 0 ++ x) (replicate-append-replicate {A = ℕ} n (size - (at + n)) 0)
    ∙ replicate-append-replicate {A = ℕ} at (n + (size - (at + n))) 0
    ∙ ap (λ (k : ℕ). replicate k 0) (omega (arith, fits))

pub clearing : (at n : ℕ) → at + n ≤ page_size → blank_bytes ≡ splice blank_bytes at (replicate n 0)
unfolding blank_bytes
clearing at n fits = sym (over_zeros at n page_size fits)
