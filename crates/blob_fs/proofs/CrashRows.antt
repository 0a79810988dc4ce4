-- The rows of a crash: each is of a pending write, and there are at most as many as noted places.
use Rattle.std.proofs.Common.{◌≡◌, ◌≤◌, ◌∙◌, ℕ, Bool, true, List, [], ◌∷◌, length, map, leb, is_some, Vec, refl, sym, ap, subst, arith}
use Rattle.std.proofs.Math.Logic.{∥∥₁_elim}
use Rattle.std.specs.BTreeMap.{BTreeMap, get}
use Rattle.std.specs.Coded.{Coded-set, coded_bool}
use Rattle.std.specs.Global.{Global}
use Rattle.std.specs.List.{AllByRecursion, AllByRecursion-prop}
use Rattle.std.specs.Ordering.{nat_cmp}
use Rattle.std.proofs.lemmas.Bool.{le-leb, leb-true}
use Rattle.std.proofs.lemmas.List.{length-map}
use Rattle.rand_core.specs.Stream.{Stream}
use Rattle.blob_model.specs.Draws.{Row}
use Rattle.blob_model.specs.Files.{Files, all_needs}
use Rattle.blob_model.specs.Log.{Need}
use Rattle.blob_model.specs.Order.{In}
use Rattle.blob_model.proofs.AnyOrder.{needs_rise}
use Rattle.blob_draws.specs.Rows.{rows_of}
use Rattle.blob_draws.specs.declared.selections.Selections.{Selections}
use Rattle.blob_faulty.specs.Crashes.{CrashDraws}
use Rattle.blob_faulty.specs.Keeps.{IsFor, OverMemory}
use Rattle.blob_faulty.specs.Wrapper.{rng_of}
use Rattle.blob_journal.specs.Journals.{store_of}
use Rattle.blob_fs.specs.declared.crash.Place.{Place}
use Rattle.blob_fs.specs.declared.file_system.FileSystem.{FileSystem}
use Rattle.blob_fs.specs.Files.{journaled_of}
use Rattle.blob_fs.specs.PlaceMaps.{ArePlaces, place_of_row}
use Rattle.blob_fs.specs.Places.{FindsPlaces}
use Rattle.blob_fs.proofs.CrashWrites.{as_many, in_log, row_numbers}
use Rattle.blob_fs.proofs.WritePlaces.{kept_true, needs_at, numbers_each, places_each}

-- the numbers of a table's rows are those of the writes that it was drawn for
numbers_in : (rows : List (ℕ × Vec Bool Global)) → map (λ (r : Row). r.0) (map (λ (row : ℕ × Vec Bool Global). (row.0, row.1.items)) rows) ≡ map (λ (row : ℕ × Vec Bool Global). row.0) rows
numbers_in [] = refl
numbers_in (row ∷ rows) = ap (λ (l : List ℕ). row.0 ∷ l) (numbers_in rows)

module _ {R : Type 0} (stream : R → Stream) (fs : FileSystem R) (after : OverMemory R) (rows : Selections) (places : BTreeMap ℕ Place) where
  numbered : (files : Files) → IsFor (store_of (journaled_of fs)) files → CrashDraws stream (store_of (journaled_of fs)) after rows
      → map (λ (row : ℕ × Vec Bool Global). row.0) (rows_of rows) ≡ map (λ (n : Need). n.write.number) (all_needs files.log)
  numbered files s draws = sym (numbers_in (rows_of rows))
      ∙ ap (λ (p : List Row × Stream). map (λ (r : Row). r.0) p.0) (draws files s)
      ∙ row_numbers (stream (rng_of (store_of (journaled_of fs)))) (all_needs files.log)

  -- each write that is needed is pending, so its place was noted
  needed : (files : Files) → IsFor (store_of (journaled_of fs)) files → ArePlaces fs places → (w : Need) → In w (all_needs files.log) → is_some (get nat_cmp places w.write.number) ≡ true
  needed files s are w there =
      let logged = in_log files.log w there in
      are.each logged.0 w (subst (λ (ws : List Need). In w ws) (sym (needs_at (store_of (journaled_of fs)) files logged.0 s)) logged.1)

  rows_there : ArePlaces fs places → CrashDraws stream (store_of (journaled_of fs)) after rows
      → AllByRecursion (λ (row : ℕ × Vec Bool Global). is_some (get nat_cmp places row.0) ≡ true) (rows_of rows)
  rows_there are draws =
      ∥∥₁_elim fs.store.kept (AllByRecursion-prop (λ (row : ℕ × Vec Bool Global). is_some (get nat_cmp places row.0) ≡ true) (λ row. Coded-set coded_bool (is_some (get nat_cmp places row.0)) true) (rows_of rows))
      (λ k. let s : IsFor (store_of (journaled_of fs)) k.has.found.files = k.has.found.stands in
      numbers_each (λ n. is_some (get nat_cmp places n) ≡ true) (all_needs k.has.found.files.log) (rows_of rows) (numbered k.has.found.files s draws) (needed k.has.found.files s are))

  -- as many places as rows have room
  pub rows_fit : ArePlaces fs places → CrashDraws stream (store_of (journaled_of fs)) after rows → length (rows_of rows) ≤ length places.entries
  rows_fit are draws = leb-true (length (rows_of rows)) (length places.entries) (kept_true fs (leb (length (rows_of rows)) (length places.entries)) (λ files s.
      le-leb (length (rows_of rows)) (length places.entries)
      (let many = as_many places 0 (all_needs files.log) (needs_rise 0 files.log files.next_write s.rising) (needed files s are) in
      let same = ap (λ (l : List ℕ). length l) (numbered files s draws) in
      omega (arith, many, same, length-map (rows_of rows) (λ (row : ℕ × Vec Bool Global). row.0)))))

  -- each row's place is found
  pub rows_found : ArePlaces fs places → CrashDraws stream (store_of (journaled_of fs)) after rows → FindsPlaces fs rows (map (place_of_row places) (rows_of rows))
  rows_found are draws = places_each fs places are.found (rows_of rows) (rows_there are draws)
