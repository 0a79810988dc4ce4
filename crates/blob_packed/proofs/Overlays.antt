-- A write over bytes, front and back.
use Rattle.std.proofs.Common.{◌≡◌, ◌⊎◌, ⊎_elim, inl, inr, ℕ, zero, suc, ◌+◌, ◌-◌, ◌<◌, ◌≤◌, max, min, Bool, true, false, List, ◌++◌, length, take, drop, get_or, replicate, if◌then◌else◌, refl, sym, ◌∙◌, ap, ap₂, arith, append-nil, length-append, length-drop}
use Rattle.std.proofs.Math.ListN.{get_or-append}
use Rattle.std.proofs.Math.Seq.{drop-append_seam, take-append_seam}
use Rattle.std.proofs.lemmas.Bool.{cases_Bool, cases_lt}
use Rattle.std.proofs.lemmas.List.{get_or-append_right, get_or-drop, get_or-replicate, get_or-take, get_or_past, length-replicate, length-take}
use Rattle.blob_model.specs.Bytes.{overlay, overlay_by, reach, resize, write_live}
use Rattle.blob_model.proofs.Agrees.{alike}
use Rattle.blob_model.proofs.Bytes.{at_chosen, at_other, at_resized, length-overlay_by, length-resized, none_chosen, past_resized, reach_all, same_bytes}

pub length-overlay : (x : List ℕ) (o : ℕ) (b : List ℕ) → 0 < length b → length (overlay x o b) ≡ max (length x) (o + length b)
length-overlay x o b some = length-overlay_by x o b (λ _. true) ∙ ap (λ (n : ℕ). max (length x) n) (reach_all o (length b) some)

-- a write from o on leaves what is before, and is one from 0 on of what is behind
pub split : (x b : List ℕ) (n o : ℕ) → 0 < length b → overlay x (n + o) b ≡ resize x n ++ overlay (drop n x) o b
split x b n o some = same_bytes (overlay x (n + o) b) (resize x n ++ behind) long each
  where
    behind : List ℕ
    behind = overlay (drop n x) o b

    long : length (overlay x (n + o) b) ≡ length (resize x n ++ behind)
    long = omega (arith, length-overlay x (n + o) b some, length-append (resize x n) behind, length-resized x n, length-overlay (drop n x) o b some, length-drop n x)

    out : (p : ℕ) → n ≤ p → (n + o ≤ p → p < n + o + length b → ⊥) → get_or (overlay x (n + o) b) p 0 ≡ get_or behind (p - n) 0
    out p ge isnt =
        let at : n + (p - n) ≡ p = omega arith in
        at_other x (n + o) b (λ _. true) p (λ after before. absurd (isnt after before))
        ∙ sym (at_other (drop n x) o b (λ _. true) (p - n) (λ after before. absurd (isnt (omega arith) (omega arith)))
        ∙ get_or-drop n x (p - n) 0 ∙ ap (λ (k : ℕ). get_or x k 0) at)

    back : (p : ℕ) → n ≤ p → get_or (overlay x (n + o) b) p 0 ≡ get_or behind (p - n) 0
    back p ge = ⊎_elim
        (λ (low : p < n + o). out p ge (λ (after : n + o ≤ p) (before : p < n + o + length b). absurd (omega arith)))
        (λ (after : n + o ≤ p). ⊎_elim
        (λ (before : p < n + o + length b).
        let at : p - (n + o) ≡ p - n - o = omega arith in
        at_chosen x (n + o) b (λ _. true) p after before refl ∙ ap (λ (k : ℕ). get_or b k 0) at
        ∙ sym (at_chosen (drop n x) o b (λ _. true) (p - n) (omega arith) (omega arith) refl))
        (λ (past : n + o + length b ≤ p). out p ge (λ (a : n + o ≤ p) (c : p < n + o + length b). absurd (omega arith)))
        (cases_lt p (n + o + length b)))
        (cases_lt p (n + o))

    each : (p : ℕ) → get_or (overlay x (n + o) b) p 0 ≡ get_or (resize x n ++ behind) p 0
    each p = ⊎_elim
        (λ (lt : p < n). at_other x (n + o) b (λ _. true) p (λ after before. absurd (omega arith))
        ∙ sym (at_resized x n p lt) ∙ sym (get_or-append (resize x n) behind 0 p (omega (arith, length-resized x n))))
        (λ (ge : n ≤ p). back p ge ∙ sym (get_or-append_right (resize x n) behind n p 0 (length-resized x n) ge))
        (cases_lt p n)

-- a write from 0 on takes the place of the front
pub front : (x b : List ℕ) → 0 < length b → overlay x 0 b ≡ b ++ drop (length b) x
front x b some = same_bytes (overlay x 0 b) (b ++ drop (length b) x) long each
  where
    long : length (overlay x 0 b) ≡ length (b ++ drop (length b) x)
    long = omega (arith, length-overlay x 0 b some, length-append b (drop (length b) x), length-drop (length b) x)

    each : (p : ℕ) → get_or (overlay x 0 b) p 0 ≡ get_or (b ++ drop (length b) x) p 0
    each p = ⊎_elim
        (λ (lt : p < length b).
        let at : p - 0 ≡ p = omega arith in
        at_chosen x 0 b (λ _. true) p (omega arith) (omega arith) refl ∙ ap (λ (k : ℕ). get_or b k 0) at ∙ sym (get_or-append b (drop (length b) x) 0 p lt))
        (λ (ge : length b ≤ p).
        let at : length b + (p - length b) ≡ p = omega arith in
        at_other x 0 b (λ _. true) p (λ after before. absurd (omega arith))
        ∙ sym (get_or-append_right b (drop (length b) x) (length b) p 0 refl ge ∙ get_or-drop (length b) x (p - length b) 0 ∙ ap (λ (k : ℕ). get_or x k 0) at))
        (cases_lt p (length b))

zero_at : (n p : ℕ) → ◌≡◌ {A = ℕ} (get_or (replicate n 0) p 0) 0
zero_at n p = ⊎_elim (λ (lt : p < n). get_or-replicate n p 0 0 lt) (λ (ge : n ≤ p). get_or_past (replicate n 0) p 0 (omega (arith, length-replicate {A = ℕ} n 0))) (cases_lt p n)

-- bytes that grow get zeros
pub resized : (x : List ℕ) (n : ℕ) → resize x n ≡ take n x ++ replicate (n - length (take n x)) 0
resized x n = same_bytes (resize x n) (take n x ++ zeros) long each
  where
    zeros : List ℕ
    zeros = replicate (n - length (take n x)) 0

    short : length (take n x) ≡ min n (length x)
    short = length-take n x

    long : length (resize x n) ≡ length (take n x ++ zeros)
    long = omega (arith, short, length-resized x n, length-append (take n x) zeros, length-replicate {A = ℕ} (n - length (take n x)) 0)

    past : (p : ℕ) → length (take n x) ≤ p → get_or (resize x n) p 0 ≡ 0
    past p ge = ⊎_elim
        (λ (lt : p < n). at_resized x n p lt ∙ get_or_past x p 0 (omega (arith, short)))
        (λ (more : n ≤ p). past_resized x n p more)
        (cases_lt p n)

    each : (p : ℕ) → get_or (resize x n) p 0 ≡ get_or (take n x ++ zeros) p 0
    each p = ⊎_elim
        (λ (lt : p < length (take n x)).
        let low : p < n = omega (arith, short) in
        at_resized x n p low ∙ sym (get_or-append (take n x) zeros 0 p lt ∙ get_or-take n x p 0 low))
        (λ (ge : length (take n x) ≤ p).
        past p ge ∙ sym (get_or-append_right (take n x) zeros (length (take n x)) p 0 refl ge ∙ zero_at (n - length (take n x)) (p - length (take n x))))
        (cases_lt p (length (take n x)))

pub front_again : (p q : List ℕ) → resize (p ++ q) (length p) ≡ p
front_again p q =
    let same : take (length p) (p ++ q) ≡ p = take-append_seam p q in
    let none : length p - length (take (length p) (p ++ q)) ≡ 0 = omega (arith, ap (λ (l : List ℕ). length l) same) in
    resized (p ++ q) (length p) ∙ ap₂ (λ (l : List ℕ) (k : ℕ). l ++ replicate k 0) same none ∙ append-nil p

-- live bytes that have no gap before a write
pub live_overlay : (x : List ℕ) (o : ℕ) (b : List ℕ) → o ≤ length x → write_live x o b ≡ overlay x o b
live_overlay x o b there = ap (λ (l : List ℕ). overlay l o b) (ap (λ (n : ℕ). resize x n) (omega (arith, there)) ∙ whole x)
  where
    whole : (x : List ℕ) → resize x (length x) ≡ x
    whole x = same_bytes (resize x (length x)) x (length-resized x (length x)) (λ p. ⊎_elim
        (λ lt. at_resized x (length x) p lt)
        (λ ge. past_resized x (length x) p ge ∙ sym (get_or_past x p 0 ge))
        (cases_lt p (length x)))

-- a write behind some bytes takes the place of what follows them
pub written : (p q b : List ℕ) → 0 < length b → write_live (p ++ q) (length p) b ≡ p ++ (b ++ drop (length b) q)
written p q b some =
    let at : length p ≡ length p + 0 = omega arith in
    live_overlay (p ++ q) (length p) b (omega (arith, length-append p q))
    ∙ ap (λ (k : ℕ). overlay (p ++ q) k b) at ∙ split (p ++ q) b (length p) 0 some
    ∙ ap₂ (λ (l m : List ℕ). l ++ overlay m 0 b) (front_again p q) (drop-append_seam p q)
    ∙ ap (λ (l : List ℕ). p ++ l) (front q b some)

-- with the same choice for each of its bytes
constant : (x : List ℕ) (o : ℕ) (b : List ℕ) (c d : ℕ → Bool) → ((j : ℕ) → j < length b → c j ≡ d j) → overlay_by x o b c ≡ overlay_by x o b d
constant x o b c d same = same_bytes _ _ (length-overlay_by x o b c ∙ ap (λ (n : ℕ). max (length x) n) (same_reach o (length b) c d same) ∙ sym (length-overlay_by x o b d))
    (λ p. alike x x o b c d p (λ after before. same (p - o) (omega (arith, after, before))) refl)
  where
    same_reach : (o n : ℕ) (c d : ℕ → Bool) → ((j : ℕ) → j < n → c j ≡ d j) → reach o n c ≡ reach o n d
    same_reach o zero c d same = refl
    same_reach o (suc n) c d same = ap₂ (λ (t : Bool) (m : ℕ). if t then suc (o + n) else m) (same n (omega arith)) (same_reach o n c d (λ j low. same j (omega (arith, low))))

-- a write is applied whole or not at all
pub all_or_none : (x : List ℕ) (o : ℕ) (b : List ℕ) (c : ℕ → Bool) → ((j : ℕ) → j < length b → c j ≡ c 0) → (overlay_by x o b c ≡ overlay x o b) ⊎ (overlay_by x o b c ≡ x)
all_or_none x o b c same = ⊎_elim
    (λ t. inl (constant x o b c (λ _. true) (λ j low. same j low ∙ t)))
    (λ f. inr (constant x o b c (λ _. false) (λ j low. same j low ∙ f) ∙ none_chosen x o b))
    (cases_Bool (c 0))
