-- The truncations of a file, as the code applies them.
use Rattle.std.proofs.Common.{◌≡◌, ◌+◌, ◌-◌, ◌<◌, ◌≤◌, ◌&&◌, ◌||◌, ℕ, zero, suc, Bool, true, false, List, [], ◌∷◌, Vec, drop, ext_get_or, get_or, length, min, nat_eq, nat_le, take, if◌then◌else◌, refl, sym, ap, ap₂, ◌∙◌, arith, ◌++◌, ⊎_elim}
use Rattle.std.proofs.lemmas.Bool.{and_left, cases_Bool, cond_both, false≢true, lt-leb}
use Rattle.std.proofs.lemmas.List.{append-nil, nil_from_length, take_all}
use Rattle.std.proofs.lemmas.List.Elements.{All-head, All-tail}
use Rattle.std.proofs.Math.Seq.{drop-length}
use Rattle.std.specs.Global.{Global}
use Rattle.std.specs.List.{fold}
use Rattle.std.specs.Prelude.{All}
use Rattle.blob_model.specs.Bytes.{overlay, resize, write_live}
use Rattle.blob_model.proofs.Bytes.{at_chosen, at_other, length-overlay_by, length-resized, reach_all}
use Rattle.blob_draws.specs.Rows.{rows_of}
use Rattle.blob_journal.specs.Fixed.{has_byte}
use Rattle.blob_journal.proofs.Fixed.{has_from, has_parts, resized_has}
use Rattle.blob_fs.specs.declared.truncation.Kept.{Kept}
use Rattle.blob_fs.specs.declared.truncation.Truncation.{Truncation}
use Rattle.blob_fs.specs.declared.crash.Place.{Place}
use Rattle.blob_fs.specs.Truncations.{cut_start, is_lost, keeps_at, keeps_later, keeps_write, lost_of, marks_from, puts_back, size_after, truncated, truncated_by, unless_lost}

-- The edits that a crash lost.

pub lost_end : (numbers : List ℕ) (kept : List Bool) (i : ℕ) → min (length numbers) (length kept) ≤ i → lost_of (drop i numbers) (drop i kept) ≡ []
lost_end [] [] zero past = refl
lost_end [] [] (suc i) past = refl
lost_end [] (k ∷ kept) zero past = refl
lost_end [] (k ∷ kept) (suc i) past = none (drop i kept)
  where
    none : (l : List Bool) → lost_of [] l ≡ []
    none l = refl
lost_end (n ∷ numbers) [] zero past = refl
lost_end (n ∷ numbers) [] (suc i) past = none (drop i numbers)
  where
    none : (l : List ℕ) → lost_of l [] ≡ []
    none [] = refl
    none (x ∷ l) = refl
lost_end (n ∷ numbers) (k ∷ kept) zero past = absurd (omega arith)
lost_end (n ∷ numbers) (k ∷ kept) (suc i) past = lost_end numbers kept i (omega arith)

pub lost_step : (numbers : List ℕ) (kept : List Bool) (i : ℕ) → i < length numbers → i < length kept
    → lost_of (drop i numbers) (drop i kept) ≡ (if get_or kept i false then lost_of (drop (suc i) numbers) (drop (suc i) kept) else (get_or numbers i 0 ∷ lost_of (drop (suc i) numbers) (drop (suc i) kept)))
lost_step [] kept i low short = absurd (omega arith)
lost_step (n ∷ numbers) [] i low short = absurd (omega arith)
lost_step (n ∷ numbers) (k ∷ kept) zero low short = refl
lost_step (n ∷ numbers) (k ∷ kept) (suc i) low short = lost_step numbers kept i (omega arith) (omega arith)

-- The bytes of later writes.

-- one more choice of a write
taken_more : (choices : List Bool) (i k : ℕ) → i < length choices → get_or (take (suc i) choices) k false ≡ (get_or (take i choices) k false || (get_or choices i false && nat_eq k i))
taken_more [] i k low = absurd (omega arith)
taken_more (true ∷ choices) zero zero low = refl
taken_more (false ∷ choices) zero zero low = refl
taken_more (true ∷ choices) zero (suc k) low = grind arith
taken_more (false ∷ choices) zero (suc k) low = refl
taken_more (true ∷ choices) (suc i) zero low = refl
taken_more (false ∷ choices) (suc i) zero low = grind arith
taken_more (c ∷ choices) (suc i) (suc k) low =
    let same : nat_eq k i ≡ nat_eq (suc k) (suc i) = grind arith in
    taken_more choices i k (omega arith) ∙ ap (λ b. get_or (take i choices) k false || (get_or choices i false && b)) same

pub keeps_more : (offset i at : ℕ) (choices : List Bool) → i < length choices
    → keeps_at offset (take (suc i) choices) at ≡ (keeps_at offset (take i choices) at || (get_or choices i false && nat_eq at (offset + i)))
keeps_more offset i at choices low = ⊎_elim (λ y. inside y) (λ n. outside n) (cases_Bool (nat_le offset at))
  where
    sift : (f a b x : Bool) → f ≡ true → (f && (a || (b && x))) ≡ ((f && a) || (b && x))
    sift true a b x e = refl
    sift false a b x e = absurd (false≢true e)

    shut : (f a a' b x : Bool) → f ≡ false → x ≡ false → (f && a) ≡ ((f && a') || (b && x))
    shut true a a' b x e n = absurd (false≢true (sym e))
    shut false a a' true x e n = sym n
    shut false a a' false x e n = refl

    inside : nat_le offset at ≡ true → keeps_at offset (take (suc i) choices) at ≡ (keeps_at offset (take i choices) at || (get_or choices i false && nat_eq at (offset + i)))
    inside y =
        let same : nat_eq (at - offset) i ≡ nat_eq at (offset + i) = grind (arith, y) in
        ap (λ b. nat_le offset at && b) (taken_more choices i (at - offset) low)
        ∙ sift (nat_le offset at) (get_or (take i choices) (at - offset) false) (get_or choices i false) (nat_eq (at - offset) i) y
        ∙ ap (λ b. keeps_at offset (take i choices) at || (get_or choices i false && b)) same

    outside : nat_le offset at ≡ false → keeps_at offset (take (suc i) choices) at ≡ (keeps_at offset (take i choices) at || (get_or choices i false && nat_eq at (offset + i)))
    outside n = shut (nat_le offset at) (get_or (take (suc i) choices) (at - offset) false) (get_or (take i choices) (at - offset) false) (get_or choices i false) (nat_eq at (offset + i)) n (grind (arith, n))

-- tests of the same positions
pub both_pass : (x f a b : Bool) → ((x || (f && a)) || (f && b)) ≡ (x || (f && (a || b)))
both_pass true f a b = refl
both_pass false true a b = refl
both_pass false false a b = refl

pub none_passes : (x f : Bool) → (x || (f && false)) ≡ x
none_passes true f = refl
none_passes false true = refl
none_passes false false = refl

-- one more choice is marked
pub mark_more : (from offset i next result at : ℕ) (choices : List Bool) (new before first : Bool) → next ≡ suc i → i < length choices → result ≡ min (offset + i) 18446744073709551615 → at < 18446744073709551615
    → new ≡ (before || marks_from from (λ p. get_or choices i false && nat_eq p result) at) → before ≡ (first || marks_from from (keeps_at offset (take i choices)) at)
    → new ≡ (first || marks_from from (keeps_at offset (take next choices)) at)
mark_more from offset i next result at choices new before first up low is small one h =
    let same : nat_eq at result ≡ nat_eq at (offset + i) = grind (arith, is, small) in
    one
    ∙ ap₂ (λ x b. x || (nat_le from at && (get_or choices i false && b))) h same
    ∙ both_pass first (nat_le from at) (keeps_at offset (take i choices) at) (get_or choices i false && nat_eq at (offset + i))
    ∙ ap (λ b. first || (nat_le from at && b)) (sym (keeps_more offset i at choices low) ∙ ap (λ n. keeps_at offset (take n choices) at) (sym up))

module _ (first inode : ℕ) (at : ℕ) where
  pub later_end : (rows : List (ℕ × Vec Bool Global)) (places : List Place) (i : ℕ) → min (length rows) (length places) ≤ i
      → keeps_later first inode (drop i rows) (drop i places) at ≡ false
  later_end [] places zero past = refl
  later_end [] places (suc i) past = refl
  later_end (row ∷ rows) [] zero past = refl
  later_end (row ∷ rows) [] (suc i) past = none (drop i rows)
    where
      none : (l : List (ℕ × Vec Bool Global)) → keeps_later first inode l [] at ≡ false
      none [] = refl
      none (x ∷ l) = refl
  later_end (row ∷ rows) (place ∷ places) zero past = absurd (omega arith)
  later_end (row ∷ rows) (place ∷ places) (suc i) past = later_end rows places i (omega arith)

  pub later_step : (rows : List (ℕ × Vec Bool Global)) (places : List Place) (i : ℕ) (row : ℕ × Vec Bool Global) (place : Place) → i < length rows → i < length places
      → keeps_later first inode (drop i rows) (drop i places) at
      ≡ (keeps_write first inode (get_or rows i row).0 (get_or rows i row).1.items (get_or places i place) at || keeps_later first inode (drop (suc i) rows) (drop (suc i) places) at)
  later_step [] places i row place low short = absurd (omega arith)
  later_step (r ∷ rows) [] i row place low short = absurd (omega arith)
  later_step (r ∷ rows) (p ∷ places) zero row place low short = refl
  later_step (r ∷ rows) (p ∷ places) (suc i) row place low short = later_step rows places i row place (omega arith) (omega arith)

  -- one more write is marked
  pub later_more : (from i next : ℕ) (rows rows' : List (ℕ × Vec Bool Global)) (places places' : List Place) (row : ℕ × Vec Bool Global) (choices : List Bool) (d : Place) (new before all : Bool)
      → next ≡ suc i → i < length rows → i < length places → rows' ≡ rows → places' ≡ places → row ≡ get_or rows' i row → choices ≡ row.1.items
      → new ≡ (before || marks_from from (keeps_write first inode row.0 choices (get_or places' i d)) at)
      → (before || marks_from from (keeps_later first inode (drop i rows) (drop i places)) at) ≡ all
      → (new || marks_from from (keeps_later first inode (drop next rows) (drop next places)) at) ≡ all
  later_more from i next rows rows' places places' row choices d new before all up low short rs ps r is one h =
      let rest = keeps_later first inode (drop (suc i) rows) (drop (suc i) places) at in
      let here : row ≡ get_or rows i row = r ∙ ap (λ l. get_or l i row) rs in
      let step : keeps_later first inode (drop i rows) (drop i places) at ≡ (keeps_write first inode row.0 choices (get_or places' i d) at || rest) =
      later_step rows places i row d low short
      ∙ ap₂ (λ (x : ℕ × Vec Bool Global) (y : List Place). keeps_write first inode x.0 x.1.items (get_or y i d) at || rest) (sym here) (sym ps)
      ∙ ap (λ l. keeps_write first inode row.0 l (get_or places' i d) at || rest) (sym is) in
      ap (λ n. new || (nat_le from at && keeps_later first inode (drop n rows) (drop n places) at)) up
      ∙ ap (λ b. b || (nat_le from at && rest)) one
      ∙ both_pass before (nat_le from at) (keeps_write first inode row.0 choices (get_or places' i d) at) rest
      ∙ ap (λ b. before || (nat_le from at && b)) (sym step)
      ∙ h

-- what `deref_mut` lent is written back whole
pub written_back : (n : ℕ) (xs ys : List Bool) → n ≡ length ys → length xs ≡ length ys → take n (xs ++ drop (length xs) ys) ≡ xs
written_back n xs ys whole same =
    let none : drop (length xs) ys ≡ [] = ap (λ n. drop n ys) same ∙ drop-length ys in
    ap (λ l. take n (xs ++ l)) none ∙ ap (λ l. take n l) (append-nil xs) ∙ take_all n xs (omega arith)

-- A file that gets other bytes.

pub written_whole : (x new : List ℕ) → write_live (resize x 0) 0 new ≡ new
written_whole x new =
    let none : resize x 0 ≡ [] = nil_from_length (resize x 0) (length-resized x 0) in
    let bare : resize [] 0 ≡ [] = nil_from_length (resize [] 0) (length-resized [] 0) in
    ap (λ l. write_live l 0 new) none ∙ ap (λ l. overlay l 0 new) bare ∙ laid new
  where
    long : (new : List ℕ) → length (overlay [] 0 new) ≡ length new
    long [] = length-overlay_by [] 0 [] (λ _. true)
    long (y ∷ new) = length-overlay_by [] 0 (y ∷ new) (λ _. true) ∙ omega (arith, reach_all 0 (length (y ∷ new)) (omega arith))

    less : (p : ℕ) → p - 0 ≡ p
    less p = omega arith

    laid : (new : List ℕ) → overlay [] 0 new ≡ new
    laid new = ext_get_or 0 (overlay [] 0 new) new (long new) (λ p low. at_chosen [] 0 new (λ _. true) p (omega arith) (omega (arith, low, long new)) refl ∙ ap (λ n. get_or new n 0) (less p))

-- Bytes that truncations leave.

module _ (lost : List ℕ) (at : ℕ) where
  step_above : (size : ℕ) (t : Truncation) → at < size → at < t.length → at < size_after lost size t
  step_above size t low long = cond_both (is_lost lost t) size t.length (λ n. at < n) (λ y. low) (λ n. long)

  -- the cut counts from above a position that is below all of these
  pub start_above : (size : ℕ) (ts : List Truncation) → at < size → All (λ t. at < t.length) ts → at < cut_start lost size ts
  start_above size [] low all = low
  start_above size (t ∷ ts) low all =
      start_above (size_after lost size t) ts (step_above size t low (All-head (λ t. at < t.length) t ts all)) (All-tail (λ t. at < t.length) t ts all)

  module _ (kept : Kept) (inode byte : ℕ) (found : List ℕ) where
    once_has : (bytes : List ℕ) (t : Truncation) → at < t.length → has_byte at byte bytes ≡ true → has_byte at byte (truncated_by kept inode found bytes t) ≡ true
    once_has bytes t long h =
        let one = has_parts at byte (resize bytes t.length) (resized_has at byte t.length bytes long h) in
        let test = puts_back kept inode t in
        let out : (p : ℕ) → p < t.length → test p ≡ false = λ p low.
        and_left (nat_le t.length p) (keeps_later t.next_write inode (rows_of kept.rows) kept.places.items p) (lt-leb t.length p low) in
        has_from at byte (truncated_by kept inode found bytes t) (
          omega (arith, length-overlay_by (resize bytes t.length) 0 found test, one.0),
          at_other (resize bytes t.length) 0 found test at (λ low high. out (at - 0) (omega arith)) ∙ one.1,
        )

    step_has : (bytes : List ℕ) (t : Truncation) → at < t.length → has_byte at byte bytes ≡ true → has_byte at byte (unless_lost kept lost inode found bytes t) ≡ true
    step_has bytes t long h = cond_both (is_lost lost t) bytes (truncated_by kept inode found bytes t) (λ l. has_byte at byte l ≡ true) (λ y. h) (λ n. once_has bytes t long h)

    all_have : (bytes : List ℕ) (ts : List Truncation) → All (λ t. at < t.length) ts → has_byte at byte bytes ≡ true → has_byte at byte (fold (unless_lost kept lost inode found) bytes ts) ≡ true
    all_have bytes [] all h = h
    all_have bytes (t ∷ ts) all h =
        all_have (unless_lost kept lost inode found bytes t) ts (All-tail (λ t. at < t.length) t ts all) (step_has bytes t (All-head (λ t. at < t.length) t ts all) h)

  -- truncations leave each byte that is below all of their lengths
  pub truncated_has : (kept : Kept) (inode byte : ℕ) (ts : List Truncation) (found : List ℕ) → All (λ t. at < t.length) ts → has_byte at byte found ≡ true
      → has_byte at byte (truncated kept lost inode ts found) ≡ true
  truncated_has kept inode byte ts found all h = all_have kept inode byte found found ts all h
