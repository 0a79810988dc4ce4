-- The steps of loops that draw.
use Rattle.std.proofs.Common.{◌≡◌, ◌⊎◌, ⊎_elim, ℕ, zero, suc, ◌+◌, ◌-◌, ◌<◌, ◌≤◌, Bool, true, false, cond, eqb, ◌/◌, ◌%◌, ◌*◌, List, [], ◌∷◌, ◌++◌, replicate, refl, sym, ◌∙◌, ap, arith, append_assoc, append-nil, suc-mul}
use Rattle.std.proofs.lemmas.Nat.{div-add-mod', mod-mul-add}
use Rattle.std.proofs.lemmas.Bool.{ne_eqb}
use Rattle.rand_core.specs.Stream.{Stream}
use Rattle.blob_model.specs.Rates.{Rate, sample}
use Rattle.blob_model.specs.Draws.{front, each, sectors, with_first}

-- choices that were drawn, before those that will be
abbrev pub joined : List Bool → List Bool × Stream → List Bool × Stream
joined done rest = (done ++ rest.0, rest.1)

joined_one : (done : List Bool) (b : Bool) (rest : List Bool × Stream) → joined done (with_first b rest) ≡ joined (done ++ b ∷ []) rest
joined_one done b rest = ap (λ (xs : List Bool). (xs, rest.1)) (sym (append_assoc done (b ∷ []) rest.0))

joined_all : (done more : List Bool) (rest : List Bool × Stream) → joined (done ++ more) rest ≡ joined done (joined more rest)
joined_all done more rest = ap (λ (xs : List Bool). (xs, rest.1)) (append_assoc done more rest.0)

pub each_more : (rate : Rate) (len i : ℕ) (s s' : Stream) (done : List Bool) (b : Bool) → i < len → (b, s') ≡ sample rate s → joined (done ++ b ∷ []) (each rate (len - (i + 1)) s') ≡ joined done (each rate (len - i) s)
unfolding each
each_more rate len i s s' done b h e = sym (ap (λ n. joined done (each rate n s)) left ∙ step (len - (i + 1)))
  where
    left : len - i ≡ suc (len - (i + 1))
    left = omega arith

    step : (n : ℕ) → joined done (each rate (suc n) s) ≡ joined (done ++ b ∷ []) (each rate n s')
    step n = ap (λ (d : Bool × Stream). joined done (with_first d.0 (each rate n d.1))) (sym e) ∙ joined_one done b (each rate n s')

pub each_all : (rate : Rate) (len i : ℕ) (s : Stream) (done : List Bool) → len ≤ i → joined done (each rate (len - i) s) ≡ (done, s)
unfolding each
each_all rate len i s done h = ap (λ n. joined done (each rate n s)) zeros ∙ ap (λ (xs : List Bool). (xs, s)) (append-nil done)
  where
    zeros : len - i ≡ 0
    zeros = omega arith

-- a kept prefix: one more kept byte, the first lost byte, and the end
pub front_more : (rate : Rate) (len i : ℕ) (s s' : Stream) (done : List Bool) (b : Bool) → i < len → (b, s') ≡ sample rate s → b ≡ true → joined (done ++ true ∷ []) (front rate (len - (i + 1)) s') ≡ joined done (front rate (len - i) s)
unfolding front
front_more rate len i s s' done b h e t = sym (ap (λ n. joined done (front rate n s)) left ∙ step (len - (i + 1)))
  where
    left : len - i ≡ suc (len - (i + 1))
    left = omega arith

    step : (n : ℕ) → joined done (front rate (suc n) s) ≡ joined (done ++ true ∷ []) (front rate n s')
    step n = ap (λ (d : Bool × Stream). joined done (cond d.0 (with_first true (front rate n d.1)) (replicate (suc n) false, d.1))) (sym e ∙ ap (λ (x : Bool). (x, s')) t) ∙ joined_one done true (front rate n s')

pub front_lost : (rate : Rate) (len i : ℕ) (s s' : Stream) (done all : List Bool) (b : Bool) → i < len → (b, s') ≡ sample rate s → b ≡ false → all ≡ done ++ replicate (len - i) false → (all, s') ≡ joined done (front rate (len - i) s)
unfolding front
front_lost rate len i s s' done all b h e f is = ap (λ (xs : List Bool). (xs, s')) is ∙ sym (ap (λ n. joined done (front rate n s)) left ∙ step (len - (i + 1)) ∙ ap (λ n. joined done (replicate n false, s')) (sym left))
  where
    left : len - i ≡ suc (len - (i + 1))
    left = omega arith

    step : (n : ℕ) → joined done (front rate (suc n) s) ≡ joined done (replicate (suc n) false, s')
    step n = ap (λ (d : Bool × Stream). joined done (cond d.0 (with_first true (front rate n d.1)) (replicate (suc n) false, d.1))) (sym e ∙ ap (λ (x : Bool). (x, s')) f)

pub front_all : (rate : Rate) (len i : ℕ) (s : Stream) (done : List Bool) → len ≤ i → joined done (front rate (len - i) s) ≡ (done, s)
unfolding front
front_all rate len i s done h = ap (λ n. joined done (front rate n s)) zeros ∙ ap (λ (xs : List Bool). (xs, s)) (append-nil done)
  where
    zeros : len - i ≡ 0
    zeros = omega arith

-- sectors
-- the bytes of a sector after its first one share its draw
sector_rest : (rate : Rate) (size : ℕ) (b : Bool) (k p n : ℕ) (s : Stream) → ((i : ℕ) → i < k → eqb ((p + i) % size) 0 ≡ false)
    → sectors rate size p false b (k + n) s ≡ joined (replicate k b) (sectors rate size (p + k) false b n s)
unfolding sectors
sector_rest rate size b zero p n s inside = ap (λ m. sectors rate size p false b m s) (none n) ∙ ap (λ q. joined [] (sectors rate size q false b n s)) (same p)
  where
    none : (m : ℕ) → 0 + m ≡ m
    none m = omega arith

    same : (q : ℕ) → q ≡ q + 0
    same q = omega arith
sector_rest rate size b (suc k) p n s inside =
    ap (λ m. sectors rate size p false b m s) (one k n)
    ∙ ap (λ (t : Bool). let d = cond t (sample rate s) (b, s) in with_first d.0 (sectors rate size (p + 1) false d.0 (k + n) d.1)) (ap (λ q. eqb (q % size) 0) (omega arith) ∙ inside 0 (omega arith))
    ∙ ap (λ (r : List Bool × Stream). with_first b r) (sector_rest rate size b k (p + 1) n s (λ i h. ap (λ q. eqb (q % size) 0) (omega arith) ∙ inside (i + 1) (omega arith)))
    ∙ ap (λ q. joined (replicate (suc k) b) (sectors rate size q false b n s)) (next p k)
  where
    one : (a m : ℕ) → suc a + m ≡ suc (a + m)
    one a m = omega arith

    next : (q a : ℕ) → q + 1 + a ≡ q + suc a
    next q a = omega arith

-- at the start of a sector it doesn't matter what comes before
sector_start : (rate : Rate) (size : ℕ) (b : Bool) (p n : ℕ) (s : Stream) → eqb (p % size) 0 ≡ true → sectors rate size p false b n s ≡ sectors rate size p true false n s
unfolding sectors
sector_start rate size b p zero s e = refl
sector_start rate size b p (suc n) s e = ap (λ (t : Bool). let d = cond t (sample rate s) (b, s) in with_first d.0 (sectors rate size (p + 1) false d.0 n d.1)) e

-- the bytes of a write in one sector share one draw
pub sector_more : (rate : Rate) (size o len i k : ℕ) (s s' : Stream) (done : List Bool) (b : Bool) → 0 < size → 0 < k → i + k ≤ len → (o + i) % size + k ≤ size → (i + k ≡ len) ⊎ ((o + i) % size + k ≡ size)
    → (b, s') ≡ sample rate s
    → joined (done ++ replicate k b) (sectors rate size (o + (i + k)) true false (len - (i + k)) s') ≡ joined done (sectors rate size (o + i) true false (len - i) s)
unfolding sectors
sector_more rate size o len i k s s' done b full some fits within ends e =
    ap (λ (r : List Bool × Stream). joined (done ++ replicate k b) r) (sym tail)
    ∙ joined_all done (replicate k b) (sectors rate size (p + 1 + (k - 1)) false b (len - (i + k)) s')
    ∙ ap (λ (r : List Bool × Stream). joined done r) (sym whole)
  where
    p : ℕ
    p = o + i

    at : (j : ℕ) → p % size + j < size → (p + j) % size ≡ p % size + j
    at j h = ap (λ q. q % size) (omega (arith, div-add-mod' p size)) ∙ mod-mul-add (p / size) size (p % size + j) h

    inside : (j : ℕ) → j < k - 1 → eqb ((p + 1 + j) % size) 0 ≡ false
    inside j h =
        let moved : p + 1 + j ≡ p + (1 + j) = omega arith in
        ap (λ q. eqb (q % size) 0) moved ∙ ap (λ q. eqb q 0) (at (1 + j) (omega arith)) ∙ ne_eqb (p % size + (1 + j)) 0 (λ z. omega arith)

    next : p % size + k ≡ size → o + (i + k) ≡ suc (p / size) * size + 0
    next h = omega (arith, h, div-add-mod' p size, suc-mul (p / size) size)

    tail : sectors rate size (p + 1 + (k - 1)) false b (len - (i + k)) s' ≡ sectors rate size (o + (i + k)) true false (len - (i + k)) s'
    tail = ap (λ q. sectors rate size q false b (len - (i + k)) s') {y = o + (i + k)} (omega arith) ∙ ⊎_elim
        (λ all. ap (λ n. sectors rate size (o + (i + k)) false b n s') {y = 0} (omega arith) ∙ ap (λ n. sectors rate size (o + (i + k)) true false n s') {x = 0} (omega arith))
        (λ h. sector_start rate size b (o + (i + k)) (len - (i + k)) s' (ap (λ q. eqb (q % size) 0) (next h) ∙ ap (λ q. eqb q 0) (mod-mul-add (suc (p / size)) size 0 full)))
        ends

    count : len - i ≡ suc ((k - 1) + (len - (i + k)))
    count = omega arith

    whole : sectors rate size p true false (len - i) s ≡ joined (replicate k b) (sectors rate size (p + 1 + (k - 1)) false b (len - (i + k)) s')
    whole = ap (λ n. sectors rate size p true false n s) count
        ∙ ap (λ (d : Bool × Stream). with_first d.0 (sectors rate size (p + 1) false d.0 ((k - 1) + (len - (i + k))) d.1)) (sym e)
        ∙ ap (λ (r : List Bool × Stream). with_first b r) (sector_rest rate size b (k - 1) (p + 1) (len - (i + k)) s' inside)
        ∙ ap (λ n. joined (replicate n b) (sectors rate size (p + 1 + (k - 1)) false b (len - (i + k)) s')) {x = suc (k - 1)} (omega arith)

pub sectors_all : (rate : Rate) (size p len i : ℕ) (first last : Bool) (s : Stream) (done : List Bool) → len ≤ i → joined done (sectors rate size p first last (len - i) s) ≡ (done, s)
unfolding sectors
sectors_all rate size p len i first last s done h = ap (λ n. joined done (sectors rate size p first last n s)) zeros ∙ ap (λ (xs : List Bool). (xs, s)) (append-nil done)
  where
    zeros : len - i ≡ 0
    zeros = omega arith
