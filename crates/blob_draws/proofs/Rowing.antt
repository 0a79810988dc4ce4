-- The rows of a crash: which writes they are of, and how they are found.
use Rattle.std.proofs.Common.{◌-◌, ◌≡◌, ◌≢◌, ◌⊎◌, inl, inr, ⊎_elim, ℕ, zero, suc, ◌<◌, ◌≤◌, Bool, ltb, ltb-true, ltb-false, List, [], ◌∷◌, ◌++◌, length, get_or, refl, sym, ◌∙◌, ap, subst, arith, eqb, Vec}
use Rattle.std.specs.Prelude.{map}
use Rattle.std.specs.Global.{Global}
use Rattle.std.specs.List.Sorted.{IsPermutation, IsNonDecreasingBy, IsNonDecreasing}
use Rattle.std.proofs.lemmas.Bool.{cases_Bool, cond-true, cond-false, eq-eqb, ne_eqb}
use Rattle.std.proofs.lemmas.List.{get_or_default}
use Rattle.std.proofs.lemmas.List.Sorted.{IsPermutation-trans, IsPermutation-sym, IsPermutation-map}
use Rattle.rand_core.specs.Stream.{Stream}
use Rattle.blob_model.specs.Directory.{Directory}
use Rattle.blob_model.specs.Draws.{Row, with_first, positions, draw_rows, row_of}
use Rattle.blob_model.specs.Durable.{Durable}
use Rattle.blob_model.specs.Files.{Files, all_needs}
use Rattle.blob_model.specs.Log.{Need}
use Rattle.blob_model.specs.Order.{ListAt, held_at, ArePlacesApart, waiting_of_all, all_placed, need_number, Rise}
use Rattle.blob_model.specs.Stands.{StandsFor}
use Rattle.blob_model.proofs.AnyOrder.{needs_rise}
use Rattle.blob_model.proofs.CrashSteps.{gathered}
use Rattle.blob_draws.specs.declared.draw.Draw.{Draw}
use Rattle.blob_draws.specs.Drawings.{Drawing, drawing_of, drawings_of, drawing_in, drawings_in, rows_drawn}
use Rattle.blob_draws.specs.Rows.{rows_in, AreNumbered}
use Rattle.blob_draws.proofs.Sorting.{placed_permutes, Climbs, sorted_is, order_mapped, order_unmapped}

-- rows that were drawn, before those that will be
abbrev pub joined_rows : List Row → List Row × Stream → List Row × Stream
joined_rows done rest = (done ++ rest.0, rest.1)

-- the rows of the pending writes are the rows of their draws
pub rows_same : (s : Stream) (ns : List Need) → rows_drawn s (drawings_of ns) ≡ draw_rows s ns
rows_same s [] = refl
rows_same s (n ∷ ns) = ap (λ (r : List Row × Stream). with_first (n.write.number, (positions n.write.mode n.write.rate n.write.offset (length n.write.bytes) s).0) r) (rows_same (positions n.write.mode n.write.rate n.write.offset (length n.write.bytes) s).1 ns)

climb : (from : ℕ) (ns : List Need) → Rise from ns → Climbs (λ (d : Drawing). d.number) from (drawings_of ns)
climb from [] r = tt
climb from (n ∷ ns) r = (r.0, climb (suc n.write.number) ns r.1)

-- what was gathered and sorted is what the files need
pub gathered_needs : (names : Directory) (bytes : Durable) (hs : List ListAt) (write marker : ℕ) (f : Files) (ds : List Draw) → IsPermutation (drawings_of (waiting_of_all hs)) (drawings_in ds) → IsNonDecreasingBy (λ (d : Draw). d.number) ds →
    ArePlacesApart hs → StandsFor names bytes (held_at hs) write marker f → drawings_in ds ≡ drawings_of (all_needs f.log)
gathered_needs names bytes hs write marker f ds moved up apart s =
    let same : all_placed need_number [] (waiting_of_all hs) ≡ all_needs f.log = gathered names bytes hs write marker f apart s in
    sorted_is (λ (d : Drawing). d.number) 0 (drawings_in ds) (drawings_of (all_needs f.log)) (order_mapped drawing_in (λ (d : Draw). d.number) (λ (d : Drawing). d.number) (λ _. refl) ds up)
    (climb 0 (all_needs f.log) (needs_rise 0 f.log f.next_write s.rising))
    (IsPermutation-trans (drawings_of (all_needs f.log)) (drawings_of (waiting_of_all hs)) (drawings_in ds)
    (IsPermutation-sym (drawings_of (waiting_of_all hs)) (drawings_of (all_needs f.log)) (subst (λ (ns : List Need). IsPermutation (drawings_of (waiting_of_all hs)) (drawings_of ns)) same (IsPermutation-map drawing_of (waiting_of_all hs) (all_placed need_number [] (waiting_of_all hs)) (placed_permutes need_number (waiting_of_all hs)))))
    moved)

-- each row has its write's number
rows_numbered : (s : Stream) (ds : List Drawing) → map (λ (r : Row). r.0) (rows_drawn s ds).0 ≡ map (λ (d : Drawing). d.number) ds
rows_numbered s [] = refl
rows_numbered s (d ∷ ds) = ap (λ (l : List ℕ). d.number ∷ l) (rows_numbered (positions d.mode d.rate d.offset d.len s).1 ds)

numbers_in : (rows : List (ℕ × Vec Bool Global)) → map (λ (r : Row). r.0) (rows_in rows) ≡ map (λ (row : ℕ × Vec Bool Global). row.0) rows
numbers_in [] = refl
numbers_in (row ∷ rows) = ap (λ (l : List ℕ). row.0 ∷ l) (numbers_in rows)

numbers_of : (ds : List Draw) → map (λ (d : Drawing). d.number) (drawings_in ds) ≡ map (λ (d : Draw). d.number) ds
numbers_of [] = refl
numbers_of (d ∷ ds) = ap (λ (l : List ℕ). d.number ∷ l) (numbers_of ds)

pub rows_rise : (s rest : Stream) (ds : List Draw) (rows : List (ℕ × Vec Bool Global)) → (rows_in rows, rest) ≡ rows_drawn s (drawings_in ds) → IsNonDecreasingBy (λ (d : Draw). d.number) ds → AreNumbered rows
rows_rise s rest ds rows e up = order_unmapped (λ (row : ℕ × Vec Bool Global). row.0) (λ (row : ℕ × Vec Bool Global). row.0) (λ (n : ℕ). n) (λ _. refl) rows
    (subst (λ (l : List ℕ). IsNonDecreasing l)
    (sym (sym (numbers_in rows) ∙ ap (λ (p : List Row × Stream). map (λ (r : Row). r.0) p.0) e ∙ rows_numbered s (drawings_in ds) ∙ numbers_of ds))
    (order_mapped (λ (d : Draw). d.number) (λ (d : Draw). d.number) (λ (n : ℕ). n) (λ _. refl) ds up))

-- the row of a number
pub row_at : (rows : List (ℕ × Vec Bool Global)) (number i : ℕ) (x : ℕ × Vec Bool Global) → i < length rows → x ≡ get_or rows i x → ((k : ℕ) (d : ℕ × Vec Bool Global) → k < i → (get_or rows k d).0 < number) → x.0 ≡ number → x.1.items ≡ row_of (rows_in rows) number
row_at [] number i x h e below is = absurd (omega arith)
row_at (r ∷ rows) number zero x h e below is = sym (cond-true (eqb r.0 number) _ _ (eq-eqb r.0 number (sym (ap (λ (y : ℕ × Vec Bool Global). y.0) e) ∙ is)) ∙ ap (λ (y : ℕ × Vec Bool Global). y.1.items) (sym e))
row_at (r ∷ rows) number (suc i) x h e below is =
    let less : r.0 < number = below 0 x (omega arith) in
    let ne : r.0 ≢ number = omega arith in
    row_at rows number i x (omega arith) e (λ k d l. below (suc k) d (omega arith)) is ∙ sym (cond-false (eqb r.0 number) _ _ (ne_eqb r.0 number ne))

pub row_none : (rows : List (ℕ × Vec Bool Global)) (number : ℕ) → ((k : ℕ) (d : ℕ × Vec Bool Global) → k < length rows → (get_or rows k d).0 ≢ number) → row_of (rows_in rows) number ≡ []
row_none [] number h = refl
row_none (r ∷ rows) number h = cond-false (eqb r.0 number) _ _ (ne_eqb r.0 number (h 0 r (omega arith))) ∙ row_none rows number (λ k d l. h (suc k) d (omega arith))

-- no row has the number if the numbers before i are less and those from i on are greater
pub row_past : (rows : List (ℕ × Vec Bool Global)) (number i : ℕ) → ((k : ℕ) (d : ℕ × Vec Bool Global) → k < i → (get_or rows k d).0 < number) → ((k : ℕ) (d : ℕ × Vec Bool Global) → i ≤ k → k < length rows → number < (get_or rows k d).0) → [] ≡ row_of (rows_in rows) number
row_past rows number i below above = sym (row_none rows number (λ k d l. ⊎_elim (λ h. less (get_or rows k d).0 (below k d h)) (λ h. more (get_or rows k d).0 (above k d h l)) (order k i)))
  where
    less : (a : ℕ) → a < number → a ≢ number
    less a h = omega arith

    more : (a : ℕ) → number < a → a ≢ number
    more a h = omega arith

    order : (a b : ℕ) → (a < b) ⊎ (b ≤ a)
    order a b = ⊎_elim (λ y. inl (ltb-true a b y)) (λ n. inr (ltb-false a b n)) (cases_Bool (ltb a b))

pub row_other : (rows : List (ℕ × Vec Bool Global)) (number i : ℕ) (x : ℕ × Vec Bool Global) → AreNumbered rows → i < length rows → x ≡ get_or rows i x → x.0 ≢ number →
    ((k : ℕ) (d : ℕ × Vec Bool Global) → k < i → (get_or rows k d).0 < number) → ((k : ℕ) (d : ℕ × Vec Bool Global) → i ≤ k → k < length rows → number ≤ (get_or rows k d).0) → [] ≡ row_of (rows_in rows) number
row_other rows number i x up h e isnt below above = row_past rows number i below (λ k d a l. past k d a l (above i x (omega arith) h))
  where
    first : x.0 ≡ (get_or rows i x).0
    first = ap (λ (y : ℕ × Vec Bool Global). y.0) e

    past : (k : ℕ) (d : ℕ × Vec Bool Global) → i ≤ k → k < length rows → number ≤ (get_or rows i x).0 → number < (get_or rows k d).0
    past k d a l least = omega (arith, first, isnt, least, up i k x a l, ap (λ (y : ℕ × Vec Bool Global). y.0) (get_or_default rows k x d l))

-- those before a row that is below a number are too
pub first_at : (rows : List (ℕ × Vec Bool Global)) (number i : ℕ) → AreNumbered rows → i ≤ length rows → ((d : ℕ × Vec Bool Global) → (get_or rows (i - 1) d).0 < number) → (k : ℕ) (d : ℕ × Vec Bool Global) → k < i → (get_or rows k d).0 < number
first_at rows number i up h before k d l = let last : (get_or rows (i - 1) d).0 < number = before d in omega (arith, last, up k (i - 1) d (omega arith) (omega arith))
