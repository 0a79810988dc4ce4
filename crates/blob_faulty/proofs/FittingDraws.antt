-- The choices that a crash draws fit the mode in which each write was issued.
use Rattle.std.proofs.Common.{◌≡◌, ℕ, suc, ◌<◌, ◌≤◌, Bool, eqb, eq-eqb, List, [], ◌∷◌, ◌++◌, append_assoc, length, refl, sym, ◌∙◌, subst, arith}
use Rattle.std.proofs.lemmas.Bool.{cond_both, cond-true, cond-false, ne_eqb}
use Rattle.rand_core.specs.Stream.{Stream}
use Rattle.blob_model.specs.declared.mode.PartialWriteMode.{PartialWriteMode}
use Rattle.blob_model.specs.declared.mode.PartialWriteMode.TheVariants.{Prefix, Subset, Sectors}
use Rattle.blob_model.specs.Draws.{Row, chosen_by, draw_rows, positions, row_of}
use Rattle.blob_model.specs.Files.{Above, Logged, Rising, all_needs, from_after, log_of, need_at}
use Rattle.blob_model.specs.Log.{Entry, Kept, Loose, Need, Resized, Write, has_bare, need_of}
use Rattle.blob_model.specs.Runs.{is_chosen}
use Rattle.blob_faulty.specs.Fits.{FitsEntry, FitsLog, FitsMode}
use Rattle.blob_faulty.proofs.FittingWrites.{positions_fit}

-- rows below a number, and from one on
abbrev pub Below : ℕ → List Row → Type 0
Below n [] = Unit {0}
Below n (r ∷ rows) = (r.0 < n) × Below n rows

abbrev pub From : ℕ → List Row → Type 0
From n [] = Unit {0}
From n (r ∷ rows) = (n ≤ r.0) × From n rows

row_past : (n : ℕ) (front rows : List Row) → Below n front → row_of (front ++ rows) n ≡ row_of rows n
row_past n [] rows low = refl
row_past n (r ∷ front) rows (first, low) = cond-false (eqb r.0 n) _ _ (ne_eqb r.0 n (omega arith)) ∙ row_past n front rows low

row_none : (n : ℕ) (rows : List Row) → From (suc n) rows → row_of rows n ≡ []
row_none n [] high = refl
row_none n (r ∷ rows) (first, high) = cond-false (eqb r.0 n) _ _ (ne_eqb r.0 n (omega arith)) ∙ row_none n rows high

below_more : (n m : ℕ) (rows : List Row) → n ≤ m → Below n rows → Below m rows
below_more n m [] le low = tt
below_more n m (r ∷ rows) le (first, low) = (omega arith, below_more n m rows le low)

below_push : (n : ℕ) (rows : List Row) (r : Row) → Below n rows → r.0 < n → Below n (rows ++ r ∷ [])
below_push n [] r low one = (one, tt)
below_push n (x ∷ rows) r (first, low) one = (first, below_push n rows r low one)

from_less : (n m : ℕ) (rows : List Row) → m ≤ n → From n rows → From m rows
from_less n m [] le high = tt
from_less n m (r ∷ rows) le (first, high) = (omega arith, from_less n m rows le high)

head_from : (e : Entry) (later : List Entry) (needs : List Need) (from : ℕ) (s : Stream) → Above from e → ((t : Stream) → From (from_after from e) (draw_rows t needs).0) → From from (draw_rows s (need_at e later needs)).0
head_from (Kept p b) later needs from s one rest = rest s
head_from (Resized n) later needs from s one rest = rest s
head_from (Loose w) later needs from s one rest =
    cond_both (has_bare (need_of w later)) (need_of w later ∷ needs) needs (λ ns. From from (draw_rows s ns).0)
    (λ _. (one, from_less (suc w.number) from _ (omega arith) (rest _)))
    (λ _. from_less (suc w.number) from _ (omega arith) (rest s))

rows_from : (log : List Logged) (from next : ℕ) (s : Stream) → Rising from log next → From from (draw_rows s (all_needs log)).0
rows_from [] from next s up = tt
rows_from (e ∷ log) from next s (one, up) = head_from e.entry (log_of log e.place) (all_needs log) from s one (λ t. rows_from log (from_after from e.entry) next t up)

-- no choice at all fits every mode
none_fits : (mode : PartialWriteMode) (o n : ℕ) → FitsMode mode o n (is_chosen [])
none_fits Prefix o n = λ i j le lt is. is
none_fits Subset o n = tt
none_fits (Sectors size) o n = λ some i j li lj same. refl

fits_row : (w : Write) (table : List Row) (row : List Bool) → row_of table w.number ≡ row → FitsMode w.mode w.offset (length w.bytes) (is_chosen row) → FitsMode w.mode w.offset (length w.bytes) (chosen_by table w.number)
fits_row w table row is fits = subst (λ (r : List Bool). FitsMode w.mode w.offset (length w.bytes) (is_chosen r)) (sym is) fits

module _ (needs : List Need) (log : List Logged) (from : ℕ) (s : Stream) (front : List Row) (low : Below from front) where
  abbrev After : ℕ → Type 0
  After n = (t : Stream) (f : List Row) → Below n f → FitsLog (chosen_by (f ++ (draw_rows t needs).0)) log

  abbrev Above_ : ℕ → Type 0
  Above_ n = (t : Stream) → From n (draw_rows t needs).0

  head_fits : (e : Entry) (later : List Entry) → Above from e → After (from_after from e) → Above_ (from_after from e)
      → FitsEntry (chosen_by (front ++ (draw_rows s (need_at e later needs)).0)) e × FitsLog (chosen_by (front ++ (draw_rows s (need_at e later needs)).0)) log
  head_fits (Kept p b) later one rest high = (tt, rest s front low)
  head_fits (Resized n) later one rest high = (tt, rest s front low)
  head_fits (Loose w) later one rest high =
      let d = positions w.mode w.rate w.offset (length w.bytes) s in
      let more = (draw_rows d.1 needs).0 in
      cond_both (has_bare (need_of w later)) (need_of w later ∷ needs) needs
      (λ ns. FitsEntry (chosen_by (front ++ (draw_rows s ns).0)) (Loose w) × FitsLog (chosen_by (front ++ (draw_rows s ns).0)) log)
      (λ _. (
        fits_row w (front ++ (w.number, d.0) ∷ more) d.0
            (row_past w.number front ((w.number, d.0) ∷ more) (below_more from w.number front one low) ∙ cond-true (eqb w.number w.number) _ _ (eq-eqb w.number w.number refl))
            (positions_fit w.mode w.rate w.offset (length w.bytes) s),
        subst (λ (rows : List Row). FitsLog (chosen_by rows) log) (append_assoc front ((w.number, d.0) ∷ []) more)
            (rest d.1 (front ++ (w.number, d.0) ∷ []) (below_push (suc w.number) front (w.number, d.0) (below_more from (suc w.number) front (omega arith) low) (omega arith))),
      ))
      (λ _. (
        fits_row w (front ++ (draw_rows s needs).0) []
            (row_past w.number front _ (below_more from w.number front one low) ∙ row_none w.number _ (high s))
            (none_fits w.mode w.offset (length w.bytes)),
        rest s front (below_more from (suc w.number) front (omega arith) low),
      ))

pub rows_fit : (log : List Logged) (from next : ℕ) (s : Stream) (front : List Row) → Below from front → Rising from log next → FitsLog (chosen_by (front ++ (draw_rows s (all_needs log)).0)) log
rows_fit [] from next s front low up = tt
rows_fit (e ∷ log) from next s front low (one, up) =
    head_fits (all_needs log) log from s front low e.entry (log_of log e.place) one (λ t f l. rows_fit log (from_after from e.entry) next t f l up) (λ t. rows_from log (from_after from e.entry) next t up)
