-- Bytes that are written over a file, and a new length, in the terms of a disk: `Torn`, `Mixed`, `Cut` and `Holds`.
use Rattle.std.proofs.Common.{◌≡◌, ◌⊎◌, ℕ, ◌+◌, ◌-◌, ◌<◌, ◌≤◌, max, List, length, Bool, true, false, get_or, refl, ◌∙◌, ap, inl, inr, arith}
use Rattle.blob_model.specs.Bytes.{overlay_by, reach, resize, write_live}
use Rattle.blob_model.proofs.Bytes.{length-overlay_by, length-resized, reach_all, reach_below, at_chosen, at_other, at_resized, picks}
use Rattle.blob_faulty.specs.Outcomes.{WritesSome}
use Rattle.sqlite_disk.specs.Disk.{Torn, Mixed, Cut, Holds}

reach_within : (o : ℕ) (b : List ℕ) (c : ℕ → Bool) → reach o (length b) c ≤ o + length b
reach_within o b c = reach_below o (length b) c (o + length b) (λ i h e. omega (arith, h))

pub torn_over : (o : ℕ) (b : List ℕ) (c : ℕ → Bool) (x : List ℕ) → Torn o (length b) x (overlay_by x o b c)
torn_over o b c x = record {
  no_shorter = omega (arith, length-overlay_by x o b c);
  no_longer = omega (arith, length-overlay_by x o b c, reach_within o b c);
  below = λ i h k. at_other x o b c i (λ low high. absurd (omega (arith, low, k)));
  above = λ i h k. at_other x o b c i (λ low high. absurd (omega (arith, high, k)));
}

pub mixed_over : (o : ℕ) (b : List ℕ) (c : ℕ → Bool) (x : List ℕ) → Mixed o b x (overlay_by x o b c)
mixed_over o b c x = record {
  torn = torn_over o b c x;
  each = λ i h k. here i (picks o (length b) c (o + i));
}
  where
    back : (i : ℕ) → (o + i) - o ≡ i
    back i = omega arith

    here : (i : ℕ) → ((o ≤ o + i) × (o + i < o + length b) × (c ((o + i) - o) ≡ true)) ⊎ (o ≤ o + i → o + i < o + length b → c ((o + i) - o) ≡ false) →
        (get_or (overlay_by x o b c) (o + i) 0 ≡ get_or x (o + i) 0) ⊎ (get_or (overlay_by x o b c) (o + i) 0 ≡ get_or b i 0)
    here i (inl (low, high, e)) = inr (at_chosen x o b c (o + i) low high e ∙ ap (λ (p : ℕ). get_or b p 0) (back i))
    here i (inr isnt) = inl (at_other x o b c (o + i) isnt)

-- a resize that is done
pub cut_to : (n : ℕ) (x : List ℕ) → Cut n x (resize x n)
cut_to n x = record {
  no_shorter = omega (arith, length-resized x n);
  no_longer = omega (arith, length-resized x n);
  below = λ i h k. at_resized x n i k;
}

-- and one that is not
pub cut_not : (n : ℕ) (x : List ℕ) → Cut n x x
cut_not n x = record {
  no_shorter = omega arith;
  no_longer = omega arith;
  below = λ i h k. refl;
}

-- and one that reaches another length
pub partly_refused : (x : List ℕ) → length x ≡ 20 → Cut 50 x (resize x 70) → ⊥
partly_refused x e k = omega (arith, e, length-resized x 70, k.no_longer)

-- what a write does to live bytes
pub mixed_some : (o : ℕ) (b x y : List ℕ) → WritesSome o b x y → Mixed o b x y
mixed_some o b x y w = record {
  torn = record {
    no_shorter = omega (arith, len, w.no_shorter);
    no_longer = omega (arith, len, w.no_longer, reach_within o b w.chosen);
    below = λ i h k. same i ∙ at_other grown o b w.chosen i (λ low high. absurd (omega (arith, low, k))) ∙ at_resized x w.grown i (omega (arith, h, w.no_shorter));
    above = λ i h k. same i ∙ at_other grown o b w.chosen i (λ low high. absurd (omega (arith, high, k))) ∙ at_resized x w.grown i (omega (arith, h, w.no_shorter));
  };
  each = λ i h k. here i (omega (arith, k, w.no_shorter)) (picks o (length b) w.chosen (o + i));
}
  where
    grown : List ℕ
    grown = resize x w.grown

    len : length y ≡ max w.grown (reach o (length b) w.chosen)
    len = ap (λ (z : List ℕ). length z) w.is ∙ length-overlay_by grown o b w.chosen ∙ ap (λ (n : ℕ). max n (reach o (length b) w.chosen)) (length-resized x w.grown)

    same : (p : ℕ) → get_or y p 0 ≡ get_or (overlay_by grown o b w.chosen) p 0
    same p = ap (λ (z : List ℕ). get_or z p 0) w.is

    back : (i : ℕ) → (o + i) - o ≡ i
    back i = omega arith

    here : (i : ℕ) → o + i < w.grown → ((o ≤ o + i) × (o + i < o + length b) × (w.chosen ((o + i) - o) ≡ true)) ⊎ (o ≤ o + i → o + i < o + length b → w.chosen ((o + i) - o) ≡ false) →
        (get_or y (o + i) 0 ≡ get_or x (o + i) 0) ⊎ (get_or y (o + i) 0 ≡ get_or b i 0)
    here i in_grown (inl (low, high, e)) = inr (same (o + i) ∙ at_chosen grown o b w.chosen (o + i) low high e ∙ ap (λ (p : ℕ). get_or b p 0) (back i))
    here i in_grown (inr isnt) = inl (same (o + i) ∙ at_other grown o b w.chosen (o + i) isnt ∙ at_resized x w.grown (o + i) in_grown)

-- after a complete write the file holds all of its bytes
pub holds_written : (o : ℕ) (b x : List ℕ) → 0 < length b → Holds (write_live x o b) o b
holds_written o b x some = record {
  within = omega (arith, length-overlay_by grown o b (λ _. true), reach_all o (length b) some);
  each = λ i h. at_chosen grown o b (λ _. true) (o + i) (omega arith) (omega (arith, h)) refl ∙ ap (λ (p : ℕ). get_or b p 0) (back i);
}
  where
    grown : List ℕ
    grown = resize x (max (length x) o)

    back : (i : ℕ) → (o + i) - o ≡ i
    back i = omega arith
