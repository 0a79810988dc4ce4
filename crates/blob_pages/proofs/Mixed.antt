-- The selected bytes of a run over the existing bytes, as one run.
use Rattle.std.proofs.Common.{◌≡◌, ⊎_elim, ℕ, ◌+◌, ◌-◌, ◌<◌, ◌≤◌, min, Bool, true, List, length, get_or, take, drop, refl, sym, ◌∙◌, ap, arith}
use Rattle.std.proofs.lemmas.Bool.{cases_lt, cases_Bool}
use Rattle.std.proofs.lemmas.List.{get_or_past, get_or-take, get_or-drop, length-take}
use Rattle.blob_model.specs.Bytes.{overlay, overlay_by, resize, reach}
use Rattle.blob_model.proofs.Bytes.{same_bytes, length-overlay_by, reach_below, reach_all, above_chosen, at_chosen, at_other, at_resized, picks}

-- the last selected byte, counted from the run's start
pub reach_back : (o n : ℕ) (c : ℕ → Bool) → o < reach o n c → reach o n c - o ≡ reach 0 n c
reach_back o n c some =
    let low = reach_below 0 n c (reach o n c - o) (λ i h e. omega (arith, above_chosen o n c i h e)) in
    let high = reach_below o n c (o + reach 0 n c) (λ i h e. omega (arith, above_chosen 0 n c i h e)) in
    omega (arith, some, low, high)

module _ (x t : List ℕ) (o n : ℕ) (b : List ℕ) (c : ℕ → Bool) (some : 0 < n) (far : reach o (length b) c ≡ o + n) (len : length t ≡ n) (there : (i : ℕ) → i < n → get_or t i 0 ≡ get_or x (o + i) 0) where
  pub length-mixed : length (overlay_by t 0 b c) ≡ n
  length-mixed = omega (arith, len, length-overlay_by t 0 b c, reach_below 0 (length b) c n (λ i h e. omega (arith, far, above_chosen o (length b) c i h e)))

  pub mixed_is : overlay x o (overlay_by t 0 b c) ≡ overlay_by x o b c
  mixed_is = same_bytes _ _
      (omega (arith, some, far, length-mixed, length-overlay_by x o (overlay_by t 0 b c) (λ _. true), length-overlay_by x o b c, reach_all o (length (overlay_by t 0 b c)) (omega (arith, some, length-mixed))))
      (λ p. ⊎_elim (λ low. before p low) (λ ge. ⊎_elim (λ lt. within p ge lt) (λ past. behind p past) (cases_lt p (o + n))) (cases_lt p o))
    where
      before : (p : ℕ) → p < o → get_or (overlay x o (overlay_by t 0 b c)) p 0 ≡ get_or (overlay_by x o b c) p 0
      before p low = at_other x o (overlay_by t 0 b c) (λ _. true) p (λ ge _. absurd (omega (arith, low, ge))) ∙ sym (at_other x o b c p (λ ge _. absurd (omega (arith, low, ge))))

      back : (p : ℕ) → p - o - 0 ≡ p - o
      back p = omega arith

      within : (p : ℕ) → o ≤ p → p < o + n → get_or (overlay x o (overlay_by t 0 b c)) p 0 ≡ get_or (overlay_by x o b c) p 0
      within p ge lt = at_chosen x o (overlay_by t 0 b c) (λ _. true) p ge (omega (arith, lt, length-mixed)) refl ∙ ⊎_elim
          (λ s. at_chosen t 0 b c (p - o) (omega arith) (omega (arith, s.0, s.1)) (ap c (back p) ∙ s.2) ∙ ap (λ k. get_or b k 0) (back p) ∙ sym (at_chosen x o b c p s.0 s.1 s.2))
          (λ out. at_other t 0 b c (p - o) (λ _ u. ap c (back p) ∙ out ge (omega (arith, u, ge))) ∙ there (p - o) (omega (arith, ge, lt)) ∙ ap (λ k. get_or x k 0) (omega (arith, ge)) ∙ sym (at_other x o b c p out))
          (picks o (length b) c p)

      behind : (p : ℕ) → o + n ≤ p → get_or (overlay x o (overlay_by t 0 b c)) p 0 ≡ get_or (overlay_by x o b c) p 0
      behind p past = at_other x o (overlay_by t 0 b c) (λ _. true) p (λ _ u. absurd (omega (arith, past, u, length-mixed)))
          ∙ sym (at_other x o b c p (λ ge u. ⊎_elim (λ e. absurd (omega (arith, past, far, ge, above_chosen o (length b) c (p - o) (omega (arith, ge, u)) e))) (λ e. e) (cases_Bool (c (p - o)))))

-- no byte is selected
pub none_reached : (x : List ℕ) (o : ℕ) (b : List ℕ) (c : ℕ → Bool) → reach o (length b) c ≤ o → overlay_by x o b c ≡ x
none_reached x o b c h = same_bytes _ _
    (omega (arith, length-overlay_by x o b c, reach_below o (length b) c (length x) (λ i l e. absurd (omega (arith, h, above_chosen o (length b) c i l e)))))
    (λ p. at_other x o b c p (λ ge u. ⊎_elim (λ e. absurd (omega (arith, h, ge, above_chosen o (length b) c (p - o) (omega (arith, ge, u)) e))) (λ e. e) (cases_Bool (c (p - o)))))

-- the bytes of a range, with zeros after the end
pub range_at : (x y t : List ℕ) (o end from count : ℕ) → from ≡ min o (length x) → count ≡ min end (length x) - from → y ≡ take count (drop from x) → t ≡ resize y (end - o)
    → (i : ℕ) → i < end - o → get_or t i 0 ≡ get_or x (o + i) 0
range_at x y t o end from count ef ec ey et i h = ap (λ l. get_or l i 0) et ∙ at_resized y (end - o) i h ∙ ⊎_elim
    (λ lt. ap (λ l. get_or l i 0) ey ∙ get_or-take count (drop from x) i 0 lt ∙ get_or-drop from x i 0 ∙ ap (λ k. get_or x k 0) (omega (arith, ef, ec, lt)))
    (λ ge. get_or_past y i 0 (omega (arith, ge, ap length ey, length-take count (drop from x))) ∙ sym (get_or_past x (o + i) 0 (omega (arith, ef, ec, ge, h))))
    (cases_lt i count)
