-- Overlays and resizes as the results of loops and of calls of `Vec`.
use Rattle.std.proofs.Common.{[], ◌≡◌, ◌⊎◌, ⊎_elim, true≢false, ℕ, ◌+◌, ◌-◌, ◌<◌, ◌≤◌, max, Bool, true, false, List, ◌++◌, length, get_or, take, drop, replicate, refl, sym, ◌∙◌, ap, arith, ◌&&◌, ltb, length-append, append-nil, length-take, length-drop}
use Rattle.std.proofs.lemmas.Bool.{cases_lt, le-ltb, lt-ltb, and_parts, and_from}
use Rattle.std.proofs.lemmas.List.{get_or_past, get_or_append_left, get_or-append_right, get_or-take, get_or-drop, get_or-replicate, length-replicate, drop_all, take_all}
use Rattle.blob_model.proofs.Agrees.{alike, overlay_same}
use Rattle.blob_model.specs.Bytes.{reach, overlay_by, overlay, resize, write_live}
use Rattle.blob_model.proofs.Bytes.{above_chosen, reach_below, reach_all, length-overlay_by, at_chosen, at_other, length-resized, at_resized, past_resized, same_bytes, none_chosen, picks}

-- the selection limited to the first n bytes
abbrev pub first : ℕ → (ℕ → Bool) → ℕ → Bool
first n c i = ltb i n && c i

-- the result of `resize` of a vector
pub resized_is : (x : List ℕ) (n : ℕ) → take n x ++ replicate (n - length x) 0 ≡ resize x n
resized_is x n = same_bytes _ _ len (λ p. ⊎_elim (λ h. ⊎_elim (λ k. kept p h k) (λ k. new p h k) (cases_lt p (length x))) (λ h. past p h) (cases_lt p n))
  where
    len : length (take n x ++ replicate (n - length x) 0) ≡ length (resize x n)
    len = omega (arith, length-append (take n x) (replicate (n - length x) 0), length-take n x, length-replicate {A = ℕ} (n - length x) 0, length-resized x n)

    kept : (p : ℕ) → p < n → p < length x → get_or (take n x ++ replicate (n - length x) 0) p 0 ≡ get_or (resize x n) p 0
    kept p h k = get_or_append_left (take n x) _ 0 p (omega (arith, length-take n x)) ∙ get_or-take n x p 0 h ∙ sym (at_resized x n p h)

    new : (p : ℕ) → p < n → length x ≤ p → get_or (take n x ++ replicate (n - length x) 0) p 0 ≡ get_or (resize x n) p 0
    new p h k = get_or-append_right (take n x) _ (length x) p 0 (omega (arith, length-take n x)) k
        ∙ get_or-replicate (n - length x) (p - length x) 0 0 (omega arith) ∙ sym (get_or_past x p 0 k) ∙ sym (at_resized x n p h)

    past : (p : ℕ) → n ≤ p → get_or (take n x ++ replicate (n - length x) 0) p 0 ≡ get_or (resize x n) p 0
    past p h = get_or_past _ p 0 (omega (arith, len, length-resized x n)) ∙ sym (past_resized x n p h)

-- the clause of a vector's `resize`
pub resized_to : (x y : List ℕ) (n len : ℕ) → len ≡ length x → y ≡ take n x ++ replicate (n - len) 0 → y ≡ resize x n
resized_to x y n len e h = h ∙ ap (λ k. take n x ++ replicate (n - k) 0) e ∙ resized_is x n

-- no growth to a length that is reached already
pub grown_none : (x : List ℕ) (n : ℕ) → n ≤ length x → x ≡ resize x (max (length x) n)
grown_none x n h = same_bytes _ _ (omega (arith, length-resized x (max (length x) n))) (λ p. ⊎_elim (λ l. sym (at_resized x _ p (omega arith))) (λ l. get_or_past x p 0 l ∙ sym (past_resized x (max (length x) n) p (omega arith))) (cases_lt p (length x)))

-- zeros that the overlay covers, or would add itself, don't change its result
pub overlay_padded : (x : List ℕ) (n o : ℕ) (b : List ℕ) (c : ℕ → Bool) → length x ≤ n → n ≤ max (length x) (reach o (length b) c) → overlay_by (resize x n) o b c ≡ overlay_by x o b c
overlay_padded x n o b c low high = same_bytes _ _
    (omega (arith, length-overlay_by (resize x n) o b c, length-overlay_by x o b c, length-resized x n))
    (λ p. ⊎_elim (λ h. at p h) (λ h. outside p h) (picks o (length b) c p))
  where
    same : (p : ℕ) → get_or (resize x n) p 0 ≡ get_or x p 0
    same p = ⊎_elim (λ h. at_resized x n p h) (λ h. past_resized x n p h ∙ sym (get_or_past x p 0 (omega arith))) (cases_lt p n)

    at : (p : ℕ) → (o ≤ p) × (p < o + length b) × (c (p - o) ≡ true) → get_or (overlay_by (resize x n) o b c) p 0 ≡ get_or (overlay_by x o b c) p 0
    at p h = at_chosen (resize x n) o b c p h.0 h.1 h.2 ∙ sym (at_chosen x o b c p h.0 h.1 h.2)

    outside : (p : ℕ) → (o ≤ p → p < o + length b → c (p - o) ≡ false) → get_or (overlay_by (resize x n) o b c) p 0 ≡ get_or (overlay_by x o b c) p 0
    outside p h = at_other (resize x n) o b c p h ∙ same p ∙ sym (at_other x o b c p h)

pub lay_padded : (x y z : List ℕ) (o : ℕ) (b : List ℕ) (c : ℕ → Bool) (r : ℕ) → r ≡ reach o (length b) c → y ≡ resize x (max (length x) r) → z ≡ overlay_by y o b c → z ≡ overlay_by x o b c
lay_padded x y z o b c r is e f = f ∙ ap (λ l. overlay_by l o b c) (e ∙ ap (λ n. resize x (max (length x) n)) is) ∙ overlay_padded x _ o b c (omega arith) (omega arith)

-- a write of some bytes needs no zeros before its offset
pub live_some : (x : List ℕ) (o : ℕ) (b : List ℕ) → 0 < length b → write_live x o b ≡ overlay x o b
live_some x o b h = overlay_padded x _ o b (λ _. true) (omega arith) (omega (arith, reach_all o (length b) h))

-- A run over bytes that are there up to its offset: its first part is over the rest of them, and the rest of it is appended.
extended_within : (y : List ℕ) (o t : ℕ) (b : List ℕ) → t ≡ length b → overlay y o (take t b) ++ drop t b ≡ overlay y o b
extended_within y o t b is = ap (λ z. overlay y o (take t b) ++ z) (drop_all t b (omega (arith, is))) ∙ append-nil (overlay y o (take t b)) ∙ ap (overlay y o) (take_all t b (omega (arith, is)))

extended_beyond : (y : List ℕ) (o t : ℕ) (b : List ℕ) → o ≤ length y → t ≡ length y - o → t < length b → overlay y o (take t b) ++ drop t b ≡ overlay y o b
extended_beyond y o t b there is more = same_bytes _ _
    (omega (
      arith,
      length-append (overlay y o (take t b)) (drop t b),
      length-drop t b,
      len,
      is,
      more,
      there,
      length-overlay_by y o b (λ _. true),
      reach_all o (length b) (omega (arith, more)),
    ))
    (λ p. ⊎_elim (λ l. before p l) (λ l. ⊎_elim (λ u. beyond p l u) (λ u. past p u) (cases_lt p (o + length b))) (cases_lt p (length y)))
  where
    count : length (take t b) ≡ t
    count = omega (arith, length-take t b, more)

    small : reach o (length (take t b)) (λ _. true) ≤ length y
    small = reach_below o (length (take t b)) (λ _. true) (length y) (λ i l _. omega (arith, count, is, there))

    len : length (overlay y o (take t b)) ≡ length y
    len = omega (arith, length-overlay_by y o (take t b) (λ _. true), small)

    before : (p : ℕ) → p < length y → get_or (overlay y o (take t b) ++ drop t b) p 0 ≡ get_or (overlay y o b) p 0
    before p l = get_or_append_left (overlay y o (take t b)) (drop t b) 0 p (omega (arith, len)) ∙ ⊎_elim
        (λ low. at_other y o (take t b) (λ _. true) p (λ h _. absurd (omega arith)) ∙ sym (at_other y o b (λ _. true) p (λ h _. absurd (omega arith))))
        (λ ge. at_chosen y o (take t b) (λ _. true) p ge (omega (arith, count, is)) refl ∙ get_or-take t b (p - o) 0 (omega (arith, is)) ∙ sym (at_chosen y o b (λ _. true) p ge (omega (arith, is, more)) refl))
        (cases_lt p o)

    beyond : (p : ℕ) → length y ≤ p → p < o + length b → get_or (overlay y o (take t b) ++ drop t b) p 0 ≡ get_or (overlay y o b) p 0
    beyond p l u = get_or-append_right (overlay y o (take t b)) (drop t b) (length y) p 0 len l ∙ get_or-drop t b (p - length y) 0 ∙ ap (λ q. get_or b q 0) (omega (arith, is, there))
        ∙ sym (at_chosen y o b (λ _. true) p (omega (arith, there)) u refl)

    past : (p : ℕ) → o + length b ≤ p → get_or (overlay y o (take t b) ++ drop t b) p 0 ≡ get_or (overlay y o b) p 0
    past p u = get_or_past (overlay y o (take t b) ++ drop t b) p 0 (omega (arith, length-append (overlay y o (take t b)) (drop t b), length-drop t b, len, is, more, there))
        ∙ sym (get_or_past (overlay y o b) p 0 (omega (arith, length-overlay_by y o b (λ _. true), reach_all o (length b) (omega (arith, more)), is, more, there)))

pub extended : (y : List ℕ) (o t : ℕ) (b : List ℕ) → o ≤ length y → (t ≡ length b) ⊎ ((t ≡ length y - o) × (t < length b)) → overlay y o (take t b) ++ drop t b ≡ overlay y o b
extended y o t b there cases = ⊎_elim (λ h. extended_within y o t b h) (λ h. extended_beyond y o t b there h.0 h.1) cases

pub overlay_none : (x : List ℕ) (o : ℕ) (c : ℕ → Bool) → overlay_by x o [] c ≡ x
overlay_none x o c = same_bytes _ _ (omega (arith, length-overlay_by x o [] c)) (λ p. at_other x o [] c p (λ l u. absurd (omega arith)))

pub overlay_empty : (x : List ℕ) (o : ℕ) (b : List ℕ) (c : ℕ → Bool) → length b ≡ 0 → overlay_by x o b c ≡ x
overlay_empty x o b c e = same_bytes _ _ (omega (arith, length-overlay_by x o b c, ap (λ n. reach o n c) e)) (λ p. at_other x o b c p (λ l u. absurd (omega arith)))

-- a run of k bytes written over existing bytes
pub pasted : (x : List ℕ) (o k : ℕ) (b : List ℕ) → k ≡ length b → o + length b ≤ length x → take o x ++ (b ++ drop k (drop o x)) ≡ overlay x o b
pasted x o k b is h = same_bytes _ _
    (omega (
      arith,
      is,
      length-append (take o x) (b ++ drop k (drop o x)),
      length-append b (drop k (drop o x)),
      length-take o x,
      length-drop k (drop o x),
      length-drop o x,
      length-overlay_by x o b (λ _. true),
      reach_below o (length b) (λ _. true) (length x) (λ i l _. omega arith),
    ))
    (λ p. ⊎_elim (λ l. before p l) (λ l. ⊎_elim (λ m. within p l m) (λ m. behind p m) (cases_lt p (o + length b))) (cases_lt p o))
  where
    before : (p : ℕ) → p < o → get_or (take o x ++ (b ++ drop k (drop o x))) p 0 ≡ get_or (overlay x o b) p 0
    before p l = get_or_append_left (take o x) _ 0 p (omega (arith, length-take o x)) ∙ get_or-take o x p 0 l ∙ sym (at_other x o b (λ _. true) p (λ m _. absurd (omega arith)))

    within : (p : ℕ) → o ≤ p → p < o + length b → get_or (take o x ++ (b ++ drop k (drop o x))) p 0 ≡ get_or (overlay x o b) p 0
    within p l m = get_or-append_right (take o x) _ o p 0 (omega (arith, length-take o x)) l ∙ get_or_append_left b _ 0 (p - o) (omega arith) ∙ sym (at_chosen x o b (λ _. true) p l m refl)

    behind : (p : ℕ) → o + length b ≤ p → get_or (take o x ++ (b ++ drop k (drop o x))) p 0 ≡ get_or (overlay x o b) p 0
    behind p m = get_or-append_right (take o x) _ o p 0 (omega (arith, length-take o x)) (omega arith)
        ∙ get_or-append_right b _ (length b) (p - o) 0 refl (omega arith)
        ∙ get_or-drop k (drop o x) (p - o - length b) 0 ∙ get_or-drop o x _ 0 ∙ ap (λ q. get_or x q 0) (omega (arith, is))
        ∙ sym (at_other x o b (λ _. true) p (λ _ u. absurd (omega arith)))

-- the last selected byte of two lists is the last of the second or, if that has none, of the first
reach_more : (o m n : ℕ) (c : ℕ → Bool) → reach o (m + n) c ≡ max (reach o m c) (reach (o + m) n (λ i. c (m + i)))
reach_more o m n c = at_most (above n) (below n)
  where
    above : (n : ℕ) → reach o (m + n) c ≤ max (reach o m c) (reach (o + m) n (λ i. c (m + i)))
    above n = reach_below o (m + n) c (max (reach o m c) (reach (o + m) n (λ i. c (m + i)))) (λ i l e. ⊎_elim
        (λ h. let up = above_chosen o m c i h e in omega arith)
        (λ h. let up = above_chosen (o + m) n (λ j. c (m + j)) (i - m) (omega arith) (ap c (omega arith) ∙ e) in omega arith)
        (cases_lt i m))

    below : (n : ℕ) → max (reach o m c) (reach (o + m) n (λ i. c (m + i))) ≤ reach o (m + n) c
    below n =
        let one = reach_below o m c (reach o (m + n) c) (λ i l e. above_chosen o (m + n) c i (omega arith) e) in
        let two = reach_below (o + m) n (λ i. c (m + i)) (reach o (m + n) c) (λ i l e. let up = above_chosen o (m + n) c (m + i) (omega arith) e in omega arith) in
        omega arith

    at_most : {a b : ℕ} → a ≤ b → b ≤ a → a ≡ b
    at_most h k = omega arith

-- two lists of bytes written one after the other
pub overlay_more : (x : List ℕ) (o : ℕ) (a b : List ℕ) (c : ℕ → Bool)
    → overlay_by (overlay_by x o a c) (o + length a) b (λ i. c (length a + i)) ≡ overlay_by x o (a ++ b) c
overlay_more x o a b c = same_bytes _ _
    (omega (arith, len, length-overlay_by (overlay_by x o a c) (o + length a) b (λ i. c (length a + i)), length-overlay_by x o (a ++ b) c, reach_more o (length a) (length b) c, ap (λ n. reach o n c) all))
    (λ p. ⊎_elim (λ h. at p h) (λ out. ⊎_elim (λ h. first_at p out h) (λ out'. neither p out out') (picks o (length a) c p)) (picks (o + length a) (length b) (λ i. c (length a + i)) p))
  where
    all : length (a ++ b) ≡ length a + length b
    all = length-append a b

    len : length (overlay_by x o a c) ≡ max (length x) (reach o (length a) c)
    len = length-overlay_by x o a c

    at : (p : ℕ) → (o + length a ≤ p) × (p < o + length a + length b) × (c (length a + (p - (o + length a))) ≡ true)
        → get_or (overlay_by (overlay_by x o a c) (o + length a) b (λ i. c (length a + i))) p 0 ≡ get_or (overlay_by x o (a ++ b) c) p 0
    at p s =
        let e : length a + (p - (o + length a)) ≡ p - o = omega (arith, s.0) in
        at_chosen (overlay_by x o a c) (o + length a) b (λ i. c (length a + i)) p s.0 s.1 s.2
        ∙ sym (get_or-append_right a b (length a) (p - o) 0 refl (omega (arith, s.0)) ∙ ap (λ q. get_or b q 0) (omega (arith, s.0)))
        ∙ sym (at_chosen x o (a ++ b) c p (omega (arith, s.0)) (omega (arith, s.1, all)) (sym (ap c e) ∙ s.2))

    first_at : (p : ℕ) → (o + length a ≤ p → p < o + length a + length b → c (length a + (p - (o + length a))) ≡ false) → (o ≤ p) × (p < o + length a) × (c (p - o) ≡ true)
        → get_or (overlay_by (overlay_by x o a c) (o + length a) b (λ i. c (length a + i))) p 0 ≡ get_or (overlay_by x o (a ++ b) c) p 0
    first_at p out s = at_other (overlay_by x o a c) (o + length a) b (λ i. c (length a + i)) p out ∙ at_chosen x o a c p s.0 s.1 s.2
        ∙ sym (get_or_append_left a b 0 (p - o) (omega (arith, s.0, s.1)))
        ∙ sym (at_chosen x o (a ++ b) c p s.0 (omega (arith, s.1, all)) s.2)

    neither : (p : ℕ) → (o + length a ≤ p → p < o + length a + length b → c (length a + (p - (o + length a))) ≡ false) → (o ≤ p → p < o + length a → c (p - o) ≡ false)
        → get_or (overlay_by (overlay_by x o a c) (o + length a) b (λ i. c (length a + i))) p 0 ≡ get_or (overlay_by x o (a ++ b) c) p 0
    neither p out out' = at_other (overlay_by x o a c) (o + length a) b (λ i. c (length a + i)) p out ∙ at_other x o a c p out'
        ∙ sym (at_other x o (a ++ b) c p (λ l u. ⊎_elim (λ k. out' l k) (λ k. ap c (back p k) ∙ out k (omega (arith, u, all))) (cases_lt p (o + length a))))
      where
        back : (p : ℕ) → o + length a ≤ p → p - o ≡ length a + (p - (o + length a))
        back p k = omega arith

-- bytes of which none is selected don't reach further
pub reach_gap : (o m k : ℕ) (c : ℕ → Bool) → ((i : ℕ) → m ≤ i → i < m + k → c i ≡ false) → reach o (m + k) c ≡ reach o m c
reach_gap o m k c none = omega (arith, reach_more o m k c, reach_below (o + m) k (λ i. c (m + i)) 0 (λ i l e. absurd (true≢false (sym e ∙ none (m + i) (omega arith) (omega arith)))))

-- the loop over `keep`: its start, its steps and its end
pub lay_none : (x : List ℕ) (o : ℕ) (b : List ℕ) (c : ℕ → Bool) → x ≡ overlay_by x o b (first 0 c)
lay_none x o b c = sym (none_chosen x o b) ∙ overlay_same x o b _ _ (λ i h. ap (λ t. t && c i) (sym (le-ltb i 0 (omega arith))))

-- bytes of which none is selected
pub lay_gap : (x : List ℕ) (o : ℕ) (b : List ℕ) (c : ℕ → Bool) (i e : ℕ) → i ≤ e → ((j : ℕ) → i ≤ j → j < e → c j ≡ false)
    → overlay_by x o b (first i c) ≡ overlay_by x o b (first e c)
lay_gap x o b c i e some none = overlay_same x o b (first i c) (first e c) (λ j _. ⊎_elim (λ l. early j l) (λ l. ⊎_elim (λ u. inside j l u) (λ u. late j u) (cases_lt j e)) (cases_lt j i))
  where
    early : (j : ℕ) → j < i → first i c j ≡ first e c j
    early j l = ap (λ t. t && c j) (lt-ltb j i l ∙ sym (lt-ltb j e (omega arith)))

    inside : (j : ℕ) → i ≤ j → j < e → first i c j ≡ first e c j
    inside j l u = ap (λ t. t && c j) (le-ltb j i l) ∙ sym (none j l u) ∙ sym (ap (λ t. t && c j) (lt-ltb j e u))

    late : (j : ℕ) → e ≤ j → first i c j ≡ first e c j
    late j u = ap (λ t. t && c j) (le-ltb j i (omega arith) ∙ sym (le-ltb j e u))

-- a run of selected bytes, over bytes that are there
pub lay_run : (x : List ℕ) (o : ℕ) (b : List ℕ) (c : ℕ → Bool) (i e : ℕ) → i < e → e ≤ length b → reach o (length b) c ≤ length x → ((j : ℕ) → i ≤ j → j < e → c j ≡ true)
    → overlay (overlay_by x o b (first i c)) (o + i) (take (e - i) (drop i b)) ≡ overlay_by x o b (first e c)
lay_run x o b c i e some within r all = same_bytes _ _
    (omega (
      arith,
      len,
      length-overlay_by y (o + i) run (λ _. true),
      length-overlay_by x o b (first e c),
      reach_all (o + i) (length run) (omega (arith, count)),
      count,
      small e,
      last,
    ))
    (λ p. ⊎_elim (λ l. before p l) (λ l. ⊎_elim (λ u. within_run p l u) (λ u. behind p u) (cases_lt p (o + e))) (cases_lt p (o + i)))
  where
    y : List ℕ
    y = overlay_by x o b (first i c)

    run : List ℕ
    run = take (e - i) (drop i b)

    count : length run ≡ e - i
    count = omega (arith, length-take (e - i) (drop i b), length-drop i b)

    small : (n : ℕ) → reach o (length b) (first n c) ≤ length x
    small n = reach_below o (length b) _ (length x) (λ j l t. let up = above_chosen o (length b) c j l (and_parts (ltb j n) (c j) t).1 in omega arith)

    len : length y ≡ length x
    len = omega (arith, length-overlay_by x o b (first i c), small i)

    last : o + (e - 1) < length x
    last = omega (arith, above_chosen o (length b) c (e - 1) (omega arith) (all (e - 1) (omega arith) (omega arith)))

    within_run : (p : ℕ) → o + i ≤ p → p < o + e → get_or (overlay y (o + i) run) p 0 ≡ get_or (overlay_by x o b (first e c)) p 0
    within_run p l u = at_chosen y (o + i) run (λ _. true) p l (omega (arith, count)) refl
        ∙ get_or-take (e - i) (drop i b) (p - (o + i)) 0 (omega arith) ∙ get_or-drop i b (p - (o + i)) 0 ∙ ap (λ q. get_or b q 0) (omega arith)
        ∙ sym (at_chosen x o b (first e c) p (omega arith) (omega arith) (and_from (ltb (p - o) e) (c (p - o)) (lt-ltb (p - o) e (omega arith)) (all (p - o) (omega arith) (omega arith))))

    early : (p : ℕ) → o ≤ p → p < o + i → first i c (p - o) ≡ first e c (p - o)
    early p m l = ap (λ t. t && c (p - o)) (lt-ltb (p - o) i (omega arith) ∙ sym (lt-ltb (p - o) e (omega arith)))

    late : (p : ℕ) → o ≤ p → o + e ≤ p → first i c (p - o) ≡ first e c (p - o)
    late p m u = ap (λ t. t && c (p - o)) (le-ltb (p - o) i (omega arith) ∙ sym (le-ltb (p - o) e (omega arith)))

    before : (p : ℕ) → p < o + i → get_or (overlay y (o + i) run) p 0 ≡ get_or (overlay_by x o b (first e c)) p 0
    before p l = at_other y (o + i) run (λ _. true) p (λ m _. absurd (omega arith)) ∙ alike x x o b (first i c) (first e c) p (λ m _. early p m l) refl

    behind : (p : ℕ) → o + e ≤ p → get_or (overlay y (o + i) run) p 0 ≡ get_or (overlay_by x o b (first e c)) p 0
    behind p u = at_other y (o + i) run (λ _. true) p (λ _ h. absurd (omega (arith, count))) ∙ alike x x o b (first i c) (first e c) p (λ m _. late p m u) refl

pub lay_end : (x : List ℕ) (o : ℕ) (b : List ℕ) (c : ℕ → Bool) (i : ℕ) → length b ≤ i → overlay_by x o b (first i c) ≡ overlay_by x o b c
lay_end x o b c i h = overlay_same x o b (first i c) c (λ j l. ap (λ t. t && c j) (lt-ltb j i (omega arith)))

-- a vector after all its bytes are written through a slice
pub written_back : (x y : List ℕ) (n : ℕ) → n ≡ length x → length y ≡ length x → take n (y ++ drop (length y) x) ≡ y
written_back x y n e l = ap (λ r. take n (y ++ r)) (drop_all (length y) x (omega (arith, l))) ∙ ap (take n) (append-nil y) ∙ take_all n y (omega (arith, e, l))

-- a run of k bytes that is written through a slice over existing bytes of a vector
pub pasted_back : (x y z : List ℕ) (n o k : ℕ) (b : List ℕ) → z ≡ x → n ≡ length x → k ≡ length b → o + length b ≤ length x → y ≡ take o x ++ (b ++ drop k (drop o x)) → take n (y ++ drop (length y) z) ≡ overlay x o b
pasted_back x y z n o k b same all is h laid =
    let paste : y ≡ overlay x o b = laid ∙ pasted x o k b is h in
    let len : length y ≡ length x = omega (arith, ap length paste, length-overlay_by x o b (λ _. true), reach_below o (length b) (λ _. true) (length x) (λ i l _. omega arith)) in
    written_back z y n (all ∙ ap length (sym same)) (len ∙ ap length (sym same)) ∙ paste
