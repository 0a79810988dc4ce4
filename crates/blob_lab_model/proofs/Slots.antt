-- The slots of a table after one is set or added.
use Rattle.std.proofs.Common.{◌≡◌, ℕ, zero, suc, ◌++◌, ◌⊎◌, inl, inr, List, [], ◌∷◌, set, length, Option, Some, None, refl, sym, ap, ⊎_elim, arith}
use Rattle.std.proofs.lemmas.Option.{none-some}
use Rattle.blob_lab_model.specs.Answers.{kept_at}

-- after a slot is set, a value is the new one, or an old one at another number
pub kept_set : {X : Type 0} (slots : List (Option X)) (number : ℕ) (slot : Option X) (i : ℕ) (x : X) → kept_at (set slots number slot) i ≡ Some x
    → ((number ≡ i) × (slot ≡ Some x)) ⊎ ((number ≡ i → ⊥) × (kept_at slots i ≡ Some x))
kept_set [] number slot i x here = cc
kept_set (y ∷ slots) zero slot zero x here = inl (refl, here)
kept_set (y ∷ slots) zero slot (suc i) x here = inr (λ e. omega (arith, e), here)
kept_set (y ∷ slots) (suc number) slot zero x here = inr (λ e. omega (arith, e), here)
kept_set (y ∷ slots) (suc number) slot (suc i) x here =
    ⊎_elim
    (λ (new : (number ≡ i) × (slot ≡ Some x)). inl (ap suc new.0, new.1))
    (λ (old : (number ≡ i → ⊥) × (kept_at slots i ≡ Some x)). inr (λ e. old.0 (omega (arith, e)), old.1))
    (kept_set slots number slot i x here)

-- a slot added at the end
pub kept_push : {X : Type 0} (slots : List (Option X)) (slot : Option X) (i : ℕ) (x : X) → kept_at (slots ++ slot ∷ []) i ≡ Some x
    → ((i ≡ length slots) × (slot ≡ Some x)) ⊎ (kept_at slots i ≡ Some x)
kept_push [] slot zero x here = inl (refl, here)
kept_push [] slot (suc i) x here = cc
kept_push (y ∷ slots) slot zero x here = inr here
kept_push (y ∷ slots) slot (suc i) x here =
    ⊎_elim
    (λ (new : (i ≡ length slots) × (slot ≡ Some x)). inl (ap suc new.0, new.1))
    (λ (old : kept_at slots i ≡ Some x). inr old)
    (kept_push slots slot i x here)

-- an emptied slot
pub kept_emptied : {X : Type 0} (slots : List (Option X)) (number i : ℕ) (x : X) → kept_at (set slots number None) i ≡ Some x → (number ≡ i → ⊥) × (kept_at slots i ≡ Some x)
kept_emptied slots number i x here =
    ⊎_elim
    (λ (new : (number ≡ i) × (None ≡ Some x)). absurd (none-some x new.1))
    (λ (old : (number ≡ i → ⊥) × (kept_at slots i ≡ Some x)). old)
    (kept_set slots number None i x here)

-- emptying an empty slot changes nothing
pub emptied_again : {X : Type 0} (slots : List (Option X)) (number : ℕ) → kept_at slots number ≡ None → set slots number None ≡ slots
emptied_again [] number gone = refl
emptied_again (y ∷ slots) zero gone = ap (λ slot. slot ∷ slots) (sym gone)
emptied_again (y ∷ slots) (suc number) gone = ap (λ rest. y ∷ rest) (emptied_again slots number gone)
