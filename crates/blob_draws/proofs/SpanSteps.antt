-- Runs that are found from the last position on.
use Rattle.std.proofs.Common.{◌≡◌, ◌≢◌, ℕ, zero, suc, ◌+◌, ◌-◌, ◌<◌, Bool, true, false, eqb, List, [], ◌∷◌, ◌++◌, length, reverse, get_or, set, take, drop, refl, sym, ◌∙◌, ap, ap₂, arith, add-one}
use Rattle.std.proofs.lemmas.Bool.{cond-true, cond-false, eq-eqb, ne_eqb}
use Rattle.std.proofs.lemmas.List.{reverse-append}
use Rattle.std.proofs.Math.Seq.{drop-cons}
use Rattle.blob_model.specs.Runs.{Run, runs, with_byte}
use Rattle.blob_draws.specs.Spans.{piece, pieces}
use Rattle.blob_draws.specs.declared.runs.Span.{Span}

-- a list by its last element
by_last : {X : Type 0} (xs : List X) (n : ℕ) (x : X) → length xs ≡ n + 1 → x ≡ get_or xs n x → xs ≡ take n xs ++ x ∷ []
by_last [] n x h at = absurd (omega arith)
by_last (y ∷ []) zero x h at = ap (λ z. z ∷ []) (sym at)
by_last (y ∷ z ∷ xs) zero x h at = absurd (omega arith)
by_last {X} (y ∷ xs) (suc n) x h at = ap (λ (r : List X). y ∷ r) (by_last xs n x (omega arith) at)

set_last : {X : Type 0} (xs : List X) (n : ℕ) (x : X) → length xs ≡ n + 1 → set xs n x ≡ take n xs ++ x ∷ []
set_last [] n x h = absurd (omega arith)
set_last (y ∷ []) zero x h = refl
set_last (y ∷ z ∷ xs) zero x h = absurd (omega arith)
set_last {X} (y ∷ xs) (suc n) x h = ap (λ (r : List X). y ∷ r) (set_last xs n x (omega arith))

pieces_push : (o : ℕ) (bytes : List ℕ) (xs : List Span) (s : Span) → pieces o bytes (reverse (xs ++ s ∷ [])) ≡ piece o bytes s ∷ pieces o bytes (reverse xs)
pieces_push o bytes xs s = ap (pieces o bytes) (reverse-append xs (s ∷ []))

-- a piece by its first byte
piece_cons : (o p e : ℕ) (bytes : List ℕ) → p < e → p < length bytes → take (e - p) (drop p bytes) ≡ get_or bytes p 0 ∷ take (e - (p + 1)) (drop (p + 1) bytes)
piece_cons o p e bytes h l = ap₂ (λ (n : ℕ) (b : List ℕ). take n b) left (drop-cons bytes p 0 l) ∙ ap (λ (k : ℕ). get_or bytes p 0 ∷ take (e - (p + 1)) (drop k bytes)) (sym (add-one p))
  where
    left : e - p ≡ suc (e - (p + 1))
    left = omega arith

-- the nearest run goes on
pub extended : (o p : ℕ) (bytes : List ℕ) (xs : List Span) (n : ℕ) (s y : Span) → length xs ≡ n + 1 → s ≡ get_or xs n s → s.start ≡ p + 1 → y.start ≡ p → y.end ≡ s.end → p < length bytes →
    pieces o bytes (reverse (set xs n y)) ≡ with_byte (o + p) (get_or bytes p 0) (pieces o bytes (reverse xs))
extended o p bytes xs n s y len at next start end h =
    ap (λ (l : List Span). pieces o bytes (reverse l)) (set_last xs n y len) ∙ pieces_push o bytes (take n xs) y
    ∙ ap (λ (r : Run). r ∷ rest) (ap₂ (λ (a e : ℕ). run (o + a) (take (e - a) (drop a bytes))) start end ∙ ap (λ (b : List ℕ). run (o + p) b) (piece_cons o p s.end bytes (omega (arith, s.some, next)) h))
    ∙ ap (λ (a : ℕ). run (o + p) (get_or bytes p 0 ∷ take (s.end - a) (drop a bytes)) ∷ rest) (sym next)
    ∙ sym (cond-true (eqb (o + s.start) ((o + p) + 1)) _ _ (eq-eqb _ _ (omega arith)))
    ∙ ap (λ (rs : List Run). with_byte (o + p) (get_or bytes p 0) rs) (sym (pieces_push o bytes (take n xs) s) ∙ ap (λ (l : List Span). pieces o bytes (reverse l)) (sym (by_last xs n s len at)))
  where
    rest : List Run
    rest = pieces o bytes (reverse (take n xs))

    run : ℕ → List ℕ → Run
    run a b = (a, b)

-- another run
one_piece : (o p : ℕ) (bytes : List ℕ) (y : Span) → y.start ≡ p → y.end ≡ p + 1 → p < length bytes → piece o bytes y ≡ (o + p, get_or bytes p 0 ∷ [])
one_piece o p bytes y start end h = ap₂ (λ (a e : ℕ). run (o + a) (take (e - a) (drop a bytes))) start end
    ∙ ap (λ (b : List ℕ). run (o + p) b) (piece_cons o p (p + 1) bytes (omega arith) h ∙ ap (λ (k : ℕ). get_or bytes p 0 ∷ take k (drop (p + 1) bytes)) none)
  where
    run : ℕ → List ℕ → Run
    run a b = (a, b)

    none : (p + 1) - (p + 1) ≡ 0
    none = omega arith

pub begun : (o p : ℕ) (bytes : List ℕ) (xs : List Span) (n : ℕ) (s y : Span) → length xs ≡ n + 1 → s ≡ get_or xs n s → s.start ≢ p + 1 → y.start ≡ p → y.end ≡ p + 1 → p < length bytes →
    pieces o bytes (reverse (xs ++ y ∷ [])) ≡ with_byte (o + p) (get_or bytes p 0) (pieces o bytes (reverse xs))
begun o p bytes xs n s y len at other start end h =
    pieces_push o bytes xs y ∙ ap (λ (r : Run). r ∷ pieces o bytes (reverse xs)) (one_piece o p bytes y start end h)
    ∙ ap (λ (rs : List Run). (o + p, get_or bytes p 0 ∷ []) ∷ rs) last
    ∙ sym (cond-false (eqb (o + s.start) ((o + p) + 1)) _ _ (ne_eqb _ _ (λ e. other (omega arith))))
    ∙ ap (λ (rs : List Run). with_byte (o + p) (get_or bytes p 0) rs) (sym last)
  where
    last : pieces o bytes (reverse xs) ≡ piece o bytes s ∷ pieces o bytes (reverse (take n xs))
    last = ap (λ (l : List Span). pieces o bytes (reverse l)) (by_last xs n s len at) ∙ pieces_push o bytes (take n xs) s

pub first_begun : (o p : ℕ) (bytes : List ℕ) (xs : List Span) (y : Span) → length xs ≡ 0 → y.start ≡ p → y.end ≡ p + 1 → p < length bytes → pieces o bytes (reverse (xs ++ y ∷ [])) ≡ with_byte (o + p) (get_or bytes p 0) (pieces o bytes (reverse xs))
first_begun o p bytes [] y none start end h = ap (λ (r : Run). r ∷ []) (one_piece o p bytes y start end h)
first_begun o p bytes (x ∷ xs) y none start end h = absurd (omega arith)

-- a position that is left out, and one that is chosen
pub left_out : (o i : ℕ) (bytes : List ℕ) (chosen : List Bool) → i < length chosen → length bytes ≡ length chosen → get_or chosen i false ≡ false → runs (o + (i + 1)) (drop (i + 1) bytes) (drop (i + 1) chosen) ≡ runs (o + i) (drop i bytes) (drop i chosen)
left_out o i bytes chosen h same e = sym (ap₂ (λ (b : List ℕ) (c : List Bool). runs (o + i) b c) (drop-cons bytes i 0 (omega arith)) (drop-cons chosen i false h ∙ ap (λ (t : Bool). t ∷ drop (suc i) chosen) e)
    ∙ ap₂ (λ (k : ℕ) (j : ℕ). runs k (drop j bytes) (drop j chosen)) next (sym (add-one i)))
  where
    next : (o + i) + 1 ≡ o + (i + 1)
    next = omega arith

pub joined_in : (o i : ℕ) (bytes : List ℕ) (chosen : List Bool) → i < length chosen → length bytes ≡ length chosen → get_or chosen i false ≡ true → with_byte (o + i) (get_or bytes i 0) (runs (o + (i + 1)) (drop (i + 1) bytes) (drop (i + 1) chosen)) ≡ runs (o + i) (drop i bytes) (drop i chosen)
joined_in o i bytes chosen h same e = sym (ap₂ (λ (b : List ℕ) (c : List Bool). runs (o + i) b c) (drop-cons bytes i 0 (omega arith)) (drop-cons chosen i false h ∙ ap (λ (t : Bool). t ∷ drop (suc i) chosen) e)
    ∙ ap₂ (λ (k : ℕ) (j : ℕ). with_byte (o + i) (get_or bytes i 0) (runs k (drop j bytes) (drop j chosen))) next (sym (add-one i)))
  where
    next : (o + i) + 1 ≡ o + (i + 1)
    next = omega arith

pub back_one : (o i : ℕ) (bytes : List ℕ) (chosen : List Bool) → 0 < i → runs (o + i) (drop i bytes) (drop i chosen) ≡ runs (o + ((i - 1) + 1)) (drop ((i - 1) + 1) bytes) (drop ((i - 1) + 1) chosen)
back_one o i bytes chosen h = ap (λ (k : ℕ). runs (o + k) (drop k bytes) (drop k chosen)) same
  where
    same : i ≡ (i - 1) + 1
    same = omega arith
