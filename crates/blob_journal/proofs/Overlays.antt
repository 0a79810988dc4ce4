-- Bytes over an empty list.
use Rattle.std.proofs.Common.{◌≡◌, ℕ, zero, suc, ◌-◌, ◌<◌, ◌&&◌, List, [], true, length, get_or, max, map, refl, ap, ◌∙◌, arith}
use Rattle.std.specs.List.{range_with_len}
use Rattle.std.proofs.lemmas.Bool.{cond-true}
use Rattle.std.proofs.lemmas.Bool.Decides.{nat_tests}
use Rattle.std.proofs.lemmas.Grind.{same_number_lists}
use Rattle.std.proofs.lemmas.List.FromFn.{get_or-map-range_with_len, length-map-range_with_len}
use Rattle.blob_model.specs.Bytes.{byte_over, lies, overlay, overlay_by, reach}

reach_all : (n : ℕ) → reach 0 n (λ _. true) ≡ n
reach_all zero = refl
reach_all (suc n) = omega arith

larger : (n : ℕ) → max 0 n ≡ n
larger n = omega arith

within : (n k : ℕ) → k < n → (lies 0 n k && true) ≡ true
within n k h = grind (arith, nat_tests)

byte_at : (bytes : List ℕ) (k : ℕ) → k < length bytes → byte_over [] 0 bytes (λ _. true) k ≡ get_or bytes k 0
byte_at bytes k h =
    let same : k - 0 ≡ k = omega arith in
    cond-true (lies 0 (length bytes) k && true) (get_or bytes (k - 0) 0) (get_or [] k 0) (within (length bytes) k h) ∙ ap (λ i. get_or bytes i 0) same

-- bytes over nothing are these bytes
pub over_nothing : (bytes : List ℕ) → overlay [] 0 bytes ≡ bytes
unfolding overlay_by
over_nothing bytes =
    let f : ℕ → ℕ = byte_over [] 0 bytes (λ _. true) in
    let n = length bytes in
    let long : max 0 (reach 0 n (λ _. true)) ≡ n = larger (reach 0 n (λ _. true)) ∙ reach_all n in
    ap (λ m. map f (range_with_len 0 m)) long
    ∙ same_number_lists (map f (range_with_len 0 n)) bytes (length-map-range_with_len f 0 n)
    (λ k h.
    let below : k < n = omega (arith, length-map-range_with_len f 0 n) in
    get_or-map-range_with_len f 0 n k k 0 below (omega arith) ∙ byte_at bytes k below)
