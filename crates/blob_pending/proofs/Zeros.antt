-- Bytes that are all zeros, and parts of them.
use Rattle.std.proofs.Common.{◌≡◌, ◌∙◌, refl, sym, ap, ap₂, ℕ, zero, suc, ◌+◌, true, ◌&&◌, List, [], ◌∷◌, length, take, drop, replicate, eqb, arith}
use Rattle.std.proofs.lemmas.Bool.{and_parts, cond-true, eqb-true}
use Rattle.std.proofs.lemmas.List.{take-append-drop, take-take, drop-take, drop-drop, length-replicate}
use Rattle.std.proofs.lemmas.List.Folds.{list_all-append}
use Rattle.blob_pending.specs.Contents.{are_zeros, bytes_of, zeros_in}

zeros_are : (n : ℕ) → are_zeros (replicate n 0) ≡ true
zeros_are zero = refl
zeros_are (suc n) = zeros_are n

pub zeros_need : (n : ℕ) → zeros_in (replicate n 0) ≡ n
zeros_need n = cond-true (are_zeros (replicate n 0)) _ _ (zeros_are n) ∙ length-replicate n 0

pub zeros_of : (bytes : List ℕ) → are_zeros bytes ≡ true → replicate (length bytes) 0 ≡ bytes
zeros_of [] all = refl
zeros_of (b ∷ bytes) all =
    let both = and_parts (eqb b 0) (are_zeros bytes) all in
    ap₂ (λ (x : ℕ) (xs : List ℕ). x ∷ xs) (sym (eqb-true b 0 both.0)) (zeros_of bytes both.1)

-- bytes that are held whole
pub held_whole : (bytes : List ℕ) → bytes_of bytes (length bytes) ≡ bytes
held_whole [] = refl
held_whole (b ∷ bytes) = refl

-- a front, and what follows it
parts : (n : ℕ) (bytes : List ℕ) → are_zeros bytes ≡ (are_zeros (take n bytes) && are_zeros (drop n bytes))
parts n bytes = ap are_zeros (sym (take-append-drop n bytes)) ∙ list_all-append (λ (byte : ℕ). eqb byte 0) (take n bytes) (drop n bytes)

pub joined : (n m : ℕ) (bytes : List ℕ) → are_zeros (take (n + m) bytes) ≡ (are_zeros (take n bytes) && are_zeros (take m (drop n bytes)))
joined n m bytes = parts n (take (n + m) bytes) ∙ ap₂ (λ (x y : List ℕ). are_zeros x && are_zeros y) (take-take n (n + m) bytes (omega arith)) (drop-take n m bytes)

-- what follows n bytes at an index
pub follows : (at n : ℕ) (bytes : List ℕ) → are_zeros (drop at bytes) ≡ (are_zeros (take n (drop at bytes)) && are_zeros (drop (at + n) bytes))
follows at n bytes = parts n (drop at bytes) ∙ ap (λ (x : List ℕ). are_zeros (take n (drop at bytes)) && are_zeros x) (drop-drop n at bytes)
