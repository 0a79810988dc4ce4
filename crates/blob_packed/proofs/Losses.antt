-- What a crash leaves of records.
use Rattle.std.proofs.Common.{◌≡◌, ◌⊎◌, ⊎_elim, inl, inr, ℕ, zero, suc, ◌+◌, ◌-◌, ◌<◌, ◌≤◌, ◌^◌, Bool, true, false, not, ◌&&◌, ◌||◌, List, [], ◌∷◌, ◌++◌, length, take, drop, replicate, Some, None, if◌then◌else◌, nat_eq, refl, sym, ◌∙◌, ap, ap₂, arith, append-nil, append_assoc, length-append}
use Rattle.std.specs.Str.{bytes_eq}
use Rattle.std.specs.Cmp.Lexicographic.{bytes_decides}
use Rattle.std.proofs.Math.Seq.{drop-append_seam, take-append_seam}
use Rattle.std.proofs.lemmas.Bool.{and_from, and_parts, or_cases, or_right}
use Rattle.std.proofs.lemmas.Bool.Decides.{nat_tests}
use Rattle.std.proofs.lemmas.List.{length-replicate, replicate-append-replicate, take-append-drop}
use Rattle.blob_model.specs.Bytes.{overlay, overlay_by, resize, write_live}
use Rattle.blob_model.proofs.Bytes.{length-resized}
use Rattle.blob_packed.specs.Records.{FitFrom, Found, Record, found_from, packed, packed_from, record_bytes}
use Rattle.blob_packed.specs.Losses.{LeftAreFound, OneMore, OneMoreIsLeft, PackedIsLeft, Settled, SettledIsLeft, after_loss, is_left, may_be_left}
use Rattle.blob_packed.proofs.Overlays.{all_or_none, front, resized, split, written}
use Rattle.blob_packed.proofs.Scans.{length-record_bytes, nothing_at, one_found, passed}

pub same_bytes_eq : (x y : List ℕ) → x ≡ y → bytes_eq x y ≡ true
same_bytes_eq x y is = (bytes_decides x y).1 is

whole_left : (n : ℕ) (r : Record) (found : List ℕ) → found ≡ record_bytes n r → is_left n r found ≡ true
whole_left n r found is = ap (λ (b : Bool). b || (not r.1 && bytes_eq found (replicate (length found) 0))) (same_bytes_eq found (record_bytes n r) is)

packed_left : (n : ℕ) (records : List Record) → may_be_left n records (packed_from n records) ≡ true
packed_left n [] = refl
packed_left n (r ∷ records) =
    let bytes : List ℕ = record_bytes n r in
    let more : List ℕ = packed_from (suc n) records in
    and_from (is_left n r (take (length bytes) (bytes ++ more))) (may_be_left (suc n) records (drop (length bytes) (bytes ++ more)))
    (whole_left n r (take (length bytes) (bytes ++ more)) (take-append_seam bytes more))
    (ap (λ (l : List ℕ). may_be_left (suc n) records l) (drop-append_seam bytes more) ∙ packed_left (suc n) records)

pub packed_is_left : PackedIsLeft
packed_is_left records = packed_left 0 records

-- What is left of one record.

pub lost_left : (n : ℕ) (r : Record) (found : List ℕ) → r.1 ≡ false → found ≡ replicate (length found) 0 → is_left n r found ≡ true
lost_left n r found loose lost =
    or_right (bytes_eq found (record_bytes n r)) (not r.1 && bytes_eq found (replicate (length found) 0))
    (and_from (not r.1) (bytes_eq found (replicate (length found) 0)) (ap (λ (b : Bool). not b) loose) (same_bytes_eq found (replicate (length found) 0) lost))

pub record IsLost (r : Record) (found : List ℕ) : Type 0 where
  pub loose : r.1 ≡ false
  pub is : found ≡ replicate (length found) 0

not_true : (b : Bool) → not b ≡ true → b ≡ false
not_true true h = cc
not_true false h = refl

-- it is whole or lost
pub left_parts : (n : ℕ) (r : Record) (found : List ℕ) → is_left n r found ≡ true → (found ≡ record_bytes n r) ⊎ IsLost r found
left_parts n r found h =
    let zeros : List ℕ = replicate (length found) 0 in
    ⊎_elim
    (λ (same : bytes_eq found (record_bytes n r) ≡ true). inl ((bytes_decides found (record_bytes n r)).0 same))
    (λ (lost : (not r.1 && bytes_eq found zeros) ≡ true).
    let both = and_parts (not r.1) (bytes_eq found zeros) lost in
    inr (record { loose = not_true r.1 both.0; is = (bytes_decides found zeros).0 both.1 }))
    (or_cases (bytes_eq found (record_bytes n r)) (not r.1 && bytes_eq found zeros) h)

-- zeros may follow it up to its length
grown_left : (n : ℕ) (r : Record) (x : List ℕ) → is_left n r (take (length (record_bytes n r)) x) ≡ true → is_left n r (resize x (length (record_bytes n r))) ≡ true
grown_left n r x h = ⊎_elim whole lost (left_parts n r found h)
  where
    size : ℕ
    size = length (record_bytes n r)

    found : List ℕ
    found = take size x

    whole : found ≡ record_bytes n r → is_left n r (resize x size) ≡ true
    whole is =
        let none : size - length found ≡ 0 = omega (arith, ap (λ (l : List ℕ). length l) is) in
        whole_left n r (resize x size) (resized x size ∙ ap₂ (λ (l : List ℕ) (k : ℕ). l ++ replicate k 0) is none ∙ append-nil (record_bytes n r))

    lost : IsLost r found → is_left n r (resize x size) ≡ true
    lost l =
        let zeros : resize x size ≡ replicate (length found + (size - length found)) 0 = resized x size
        ∙ ap (λ (m : List ℕ). m ++ replicate (size - length found) 0) l.is ∙ replicate-append-replicate (length found) (size - length found) 0 in
        let long : length found + (size - length found) ≡ length (resize x size) =
        sym (ap (λ (m : List ℕ). length m) zeros ∙ length-replicate (length found + (size - length found)) 0) in
        lost_left n r (resize x size) l.loose (zeros ∙ ap (λ (k : ℕ). replicate k 0) long)

-- A write behind records.

pub some_bytes : (n : ℕ) (r : Record) → 0 < length (record_bytes n r)
some_bytes n r = omega (arith, length-record_bytes n r)

-- a record that is written from 0 on, before others
front_left : (n : ℕ) (r : Record) (records : List Record) (x : List ℕ) → may_be_left (suc n) records (drop (length (record_bytes n r)) x) ≡ true
    → may_be_left n (r ∷ records) (overlay x 0 (record_bytes n r)) ≡ true
front_left n r records x h =
    let bytes : List ℕ = record_bytes n r in
    let more : List ℕ = drop (length bytes) x in
    let made : overlay x 0 bytes ≡ bytes ++ more = front x bytes (some_bytes n r) in
    ap (λ (l : List ℕ). may_be_left n (r ∷ records) l) made
    ∙ and_from (is_left n r (take (length bytes) (bytes ++ more))) (may_be_left (suc n) records (drop (length bytes) (bytes ++ more)))
    (whole_left n r (take (length bytes) (bytes ++ more)) (take-append_seam bytes more))
    (ap (λ (l : List ℕ). may_be_left (suc n) records l) (drop-append_seam bytes more) ∙ h)

-- the records before a write are left as they were
behind_left : (rest rest' : List Record) (b : List ℕ) (m n : ℕ) (before : List Record) (x : List ℕ) → 0 < length b → m ≡ n + length before
    → ((y : List ℕ) → may_be_left m rest y ≡ true → may_be_left m rest' (overlay y 0 b) ≡ true)
    → may_be_left n (before ++ rest) x ≡ true → may_be_left n (before ++ rest') (overlay x (length (packed_from n before)) b) ≡ true
behind_left rest rest' b m n [] x some is step h =
    let at : n ≡ m = omega arith in
    ap (λ (k : ℕ). may_be_left k rest' (overlay x 0 b)) at ∙ step x (ap (λ (k : ℕ). may_be_left k rest x) (sym at) ∙ h)
behind_left rest rest' b m n (r ∷ before) x some is step h =
    let bytes : List ℕ = record_bytes n r in
    let o : ℕ = length (packed_from (suc n) before) in
    let y : List ℕ = overlay (drop (length bytes) x) o b in
    let new : List ℕ = resize x (length bytes) in
    let long : length bytes ≡ length new = sym (length-resized x (length bytes)) in
    let both = and_parts (is_left n r (take (length bytes) x)) (may_be_left (suc n) (before ++ rest) (drop (length bytes) x)) h in
    let made : overlay x (length (packed_from n (r ∷ before))) b ≡ new ++ y = ap (λ (k : ℕ). overlay x k b) (length-append bytes (packed_from (suc n) before)) ∙ split x b (length bytes) o some in
    let head : take (length bytes) (new ++ y) ≡ new = ap (λ (k : ℕ). take k (new ++ y)) long ∙ take-append_seam new y in
    let tail : drop (length bytes) (new ++ y) ≡ y = ap (λ (k : ℕ). drop k (new ++ y)) long ∙ drop-append_seam new y in
    ap (λ (l : List ℕ). may_be_left n (r ∷ (before ++ rest')) l) made
    ∙ and_from (is_left n r (take (length bytes) (new ++ y))) (may_be_left (suc n) (before ++ rest') (drop (length bytes) (new ++ y)))
    (ap (λ (l : List ℕ). is_left n r l) head ∙ grown_left n r x both.0)
    (ap (λ (l : List ℕ). may_be_left (suc n) (before ++ rest') l) tail
    ∙ behind_left rest rest' b m (suc n) before (drop (length bytes) x) some (omega arith) step both.1)

no_bytes : (x : List ℕ) → nat_eq (length x) 0 ≡ true → x ≡ []
no_bytes [] h = refl
no_bytes (b ∷ x) h = let none : length (b ∷ x) ≡ 0 = grind (arith, nat_tests) in absurd (omega arith)

none_taken : (k : ℕ) → take {A = ℕ} k [] ≡ []
none_taken zero = refl
none_taken (suc k) = refl

none_dropped : (k : ℕ) → drop {A = ℕ} k [] ≡ []
none_dropped zero = refl
none_dropped (suc k) = refl

-- bytes of records may be found of these and one more, which is lost
more_lost : (n : ℕ) (records : List Record) (r : Record) (x : List ℕ) → r.1 ≡ false → may_be_left n records x ≡ true → may_be_left n (records ++ r ∷ []) x ≡ true
more_lost n [] r x loose h =
    let size : ℕ = length (record_bytes n r) in
    let none : x ≡ [] = no_bytes x h in
    let head : take size x ≡ [] = ap (λ (l : List ℕ). take size l) none ∙ none_taken size in
    let rest : drop size x ≡ [] = ap (λ (l : List ℕ). drop size l) none ∙ none_dropped size in
    and_from (is_left n r (take size x)) (may_be_left (suc n) [] (drop size x))
    (lost_left n r (take size x) loose (head ∙ sym (ap (λ (l : List ℕ). replicate (length l) 0) head)))
    (ap (λ (l : List ℕ). nat_eq (length l) 0) rest)
more_lost n (a ∷ records) r x loose h =
    let size : ℕ = length (record_bytes n a) in
    let both = and_parts (is_left n a (take size x)) (may_be_left (suc n) records (drop size x)) h in
    and_from (is_left n a (take size x)) (may_be_left (suc n) (records ++ r ∷ []) (drop size x)) both.0 (more_lost (suc n) records r (drop size x) loose both.1)

pub one_more_is_left : OneMoreIsLeft
one_more_is_left records bytes found chosen same h = ⊎_elim all none (all_or_none found o b chosen same)
  where
    r : Record
    r = (bytes, false)

    b : List ℕ
    b = record_bytes (length records) r

    o : ℕ
    o = length (packed records)

    step : (y : List ℕ) → may_be_left (length records) [] y ≡ true → may_be_left (length records) (r ∷ []) (overlay y 0 b) ≡ true
    step y nothing = front_left (length records) r [] y
        (ap (λ (l : List ℕ). nat_eq (length l) 0) (ap (λ (l : List ℕ). drop (length b) l) (no_bytes y nothing) ∙ none_dropped (length b)))

    all : overlay_by found o b chosen ≡ overlay found o b → may_be_left 0 (records ++ r ∷ []) (overlay_by found o b chosen) ≡ true
    all is = ap (λ (l : List ℕ). may_be_left 0 (records ++ r ∷ []) l) is
        ∙ behind_left [] (r ∷ []) b (length records) 0 records found (some_bytes (length records) r) (omega arith) step
        (ap (λ (l : List Record). may_be_left 0 l found) (append-nil records) ∙ h)

    none : overlay_by found o b chosen ≡ found → may_be_left 0 (records ++ r ∷ []) (overlay_by found o b chosen) ≡ true
    none is = ap (λ (l : List ℕ). may_be_left 0 (records ++ r ∷ []) l) is ∙ more_lost 0 records r found refl h

same_length : (n : ℕ) (bytes : List ℕ) (was is : Bool) → length (record_bytes n (bytes, was)) ≡ length (record_bytes n (bytes, is))
same_length n bytes was is = length-record_bytes n (bytes, was) ∙ sym (length-record_bytes n (bytes, is))

pub settled_is_left : SettledIsLeft
settled_is_left before after bytes found was h =
    behind_left ((bytes, was) ∷ after) ((bytes, true) ∷ after) (record_bytes n (bytes, true)) n 0 before found (some_bytes n (bytes, true)) (omega arith) step h
  where
    n : ℕ
    n = length before

    old : ℕ
    old = length (record_bytes n (bytes, was))

    step : (y : List ℕ) → may_be_left n ((bytes, was) ∷ after) y ≡ true → may_be_left n ((bytes, true) ∷ after) (overlay y 0 (record_bytes n (bytes, true))) ≡ true
    step y left =
        let both = and_parts (is_left n (bytes, was) (take old y)) (may_be_left (suc n) after (drop old y)) left in
        front_left n (bytes, true) after y (ap (λ (k : ℕ). may_be_left (suc n) after (drop k y)) (same_length n bytes true was) ∙ both.1)

-- Live bytes.

pub packed_append : (m n : ℕ) (before rest : List Record) → m ≡ n + length before → packed_from n (before ++ rest) ≡ packed_from n before ++ packed_from m rest
packed_append m n [] rest is = let at : n ≡ m = omega arith in ap (λ (k : ℕ). packed_from k rest) at
packed_append m n (r ∷ before) rest is =
    ap (λ (l : List ℕ). record_bytes n r ++ l) (packed_append m (suc n) before rest (omega arith))
    ∙ sym (append_assoc (record_bytes n r) (packed_from (suc n) before) (packed_from m rest))

pub one_more : OneMore
one_more records r =
    let all : List ℕ = packed records in
    let b : List ℕ = record_bytes (length records) r in
    packed_append (length records) 0 records (r ∷ []) (omega arith)
    ∙ sym (ap (λ (l : List ℕ). write_live l (length all) b) (sym (append-nil all)) ∙ written all [] b (some_bytes (length records) r)
    ∙ ap (λ (l : List ℕ). all ++ (b ++ l)) (none_dropped (length b)))

pub settled : Settled
settled before after bytes was =
    let n : ℕ = length before in
    let front : List ℕ = packed before in
    let more : List ℕ = packed_from (suc n) after in
    let old : List ℕ = record_bytes n (bytes, was) in
    let new : List ℕ = record_bytes n (bytes, true) in
    packed_append n 0 before ((bytes, true) ∷ after) (omega arith)
    ∙ sym (ap (λ (l : List ℕ). write_live l (length front) new) (packed_append n 0 before ((bytes, was) ∷ after) (omega arith))
    ∙ written front (old ++ more) new (some_bytes n (bytes, true))
    ∙ ap (λ (l : List ℕ). front ++ (new ++ l)) (ap (λ (k : ℕ). drop k (old ++ more)) (same_length n bytes true was) ∙ drop-append_seam old more))

-- The records that are found.

zeros_passed : (next k : ℕ) (y : List ℕ) → found_from next (replicate k 0 ++ y) ≡ found_from next y
zeros_passed next zero y = refl
zeros_passed next (suc k) y = passed next 0 (replicate k 0 ++ y) refl ∙ zeros_passed next k y

-- one number more
chosen_too : ℕ → Bool → (ℕ → Bool) → ℕ → Bool
chosen_too n b chosen i = if nat_eq i n then b else chosen i

at_that : (n : ℕ) (b : Bool) (chosen : ℕ → Bool) → chosen_too n b chosen n ≡ b
unfolding chosen_too
at_that n b chosen = let same : nat_eq n n ≡ true = grind (arith, nat_tests) in ap (λ (t : Bool). if t then b else chosen n) same

at_another : (n i : ℕ) (b : Bool) (chosen : ℕ → Bool) → n < i → chosen_too n b chosen i ≡ chosen i
unfolding chosen_too
at_another n i b chosen h = let other : nat_eq i n ≡ false = grind (arith, nat_tests) in ap (λ (t : Bool). if t then b else chosen i) other

others_same : (n m : ℕ) (b : Bool) (chosen : ℕ → Bool) (records : List Record) → n < m → after_loss (chosen_too n b chosen) m records ≡ after_loss chosen m records
others_same n m b chosen [] h = refl
others_same n m b chosen (r ∷ records) h =
    ap₂ (λ (t : Bool) (l : List Found). (if r.1 || t then Some r else None) ∷ l) (at_another n m b chosen h) (others_same n (suc m) b chosen records (omega arith))

kept_too : (n : ℕ) (r : Record) (chosen : ℕ → Bool) (records : List Record) → after_loss (chosen_too n true chosen) n (r ∷ records) ≡ Some r ∷ after_loss chosen (suc n) records
kept_too n r chosen records =
    ap₂ (λ (t : Bool) (l : List Found). (if r.1 || t then Some r else None) ∷ l) (at_that n true chosen) (others_same n (suc n) true chosen records (omega arith))
    ∙ ap (λ (t : Bool). (if t then Some r else None) ∷ after_loss chosen (suc n) records) (or_true r.1)
  where
    or_true : (b : Bool) → (b || true) ≡ true
    or_true true = refl
    or_true false = refl

lost_too : (n : ℕ) (r : Record) (chosen : ℕ → Bool) (records : List Record) → r.1 ≡ false → after_loss (chosen_too n false chosen) n (r ∷ records) ≡ None ∷ after_loss chosen (suc n) records
lost_too n r chosen records loose =
    ap₂ (λ (t : Bool) (l : List Found). (if r.1 || t then Some r else None) ∷ l) (at_that n false chosen) (others_same n (suc n) false chosen records (omega arith))
    ∙ ap (λ (t : Bool). (if t || false then Some r else None) ∷ after_loss chosen (suc n) records) loose

none_more : (k m : ℕ) (l : List Found) → m ≡ suc k → replicate m None ++ l ≡ replicate k None ++ (None ∷ l)
none_more k m l is = ap (λ (n : ℕ). replicate n None ++ l) is ∙ snoc k l
  where
    snoc : (k : ℕ) (l : List Found) → replicate (suc k) None ++ l ≡ replicate k None ++ (None ∷ l)
    snoc zero l = refl
    snoc (suc k) l = ap (λ (m : List Found). None ∷ m) (snoc k l)

-- the records of bytes from one number on, where those before it and from `next` on are lost
record Sees (n next : ℕ) (records : List Record) (found : List ℕ) : Type 0 where
  chosen : ℕ → Bool
  last : ℕ
  is : found_from next found ++ replicate last None ≡ replicate (n - next) None ++ after_loss chosen n records

sees_kept : (n next : ℕ) (r : Record) (records : List Record) (rest : List ℕ) → next ≤ n → n < 2 ^ 64 → length r.0 < 2 ^ 64
    → Sees (suc n) (suc n) records rest → Sees n next (r ∷ records) (record_bytes n r ++ rest)
sees_kept n next r records rest low fit short s =
    let lost : List Found = replicate (n - next) None in
    let none : suc n - suc n ≡ 0 = omega arith in
    record {
      chosen = chosen_too n true s.chosen;
      last = s.last;
      is = ap (λ (l : List Found). l ++ replicate s.last None) (one_found next n r rest low fit short)
          ∙ append_assoc lost (Some r ∷ found_from (suc n) rest) (replicate s.last None)
          ∙ ap (λ (l : List Found). lost ++ (Some r ∷ l)) (s.is ∙ ap (λ (k : ℕ). replicate k None ++ after_loss s.chosen (suc n) records) none)
          ∙ sym (ap (λ (l : List Found). lost ++ l) (kept_too n r s.chosen records));
    }

sees_lost : (n next k : ℕ) (r : Record) (records : List Record) (rest : List ℕ) → next ≤ n → r.1 ≡ false
    → Sees (suc n) next records rest → Sees n next (r ∷ records) (replicate k 0 ++ rest)
sees_lost n next k r records rest low loose s =
    let more : suc n - next ≡ suc (n - next) = omega arith in
    record {
      chosen = chosen_too n false s.chosen;
      last = s.last;
      is = ap (λ (l : List Found). l ++ replicate s.last None) (zeros_passed next k rest) ∙ s.is
          ∙ none_more (n - next) (suc n - next) (after_loss s.chosen (suc n) records) more
          ∙ sym (ap (λ (l : List Found). replicate (n - next) None ++ l) (lost_too n r s.chosen records loose));
    }

sees_same : (n next : ℕ) (records : List Record) (x y : List ℕ) → y ≡ x → Sees n next records y → Sees n next records x
sees_same n next records x y same s = record {
  chosen = s.chosen;
  last = s.last;
  is = ap (λ (l : List ℕ). found_from next l ++ replicate s.last None) (sym same) ∙ s.is;
}

sees : (n next : ℕ) (records : List Record) (found : List ℕ) → next ≤ n → FitFrom n records → may_be_left n records found ≡ true → Sees n next records found
sees n next [] found low fit h =
    let none : found_from next found ≡ [] = nothing_at next found found (ap (λ (l : List ℕ). length l) (no_bytes found h)) refl in
    record {
      chosen = λ _. false;
      last = n - next;
      is = ap (λ (l : List Found). l ++ replicate (n - next) None) none ∙ sym (append-nil (replicate (n - next) None));
    }
sees n next (r ∷ records) found low fit h =
    let size : ℕ = length (record_bytes n r) in
    let head : List ℕ = take size found in
    let rest : List ℕ = drop size found in
    let both = and_parts (is_left n r head) (may_be_left (suc n) records rest) h in
    let seam : head ++ rest ≡ found = take-append-drop size found in
    ⊎_elim
    (λ (whole : head ≡ record_bytes n r). sees_same n next (r ∷ records) found (record_bytes n r ++ rest) (ap (λ (l : List ℕ). l ++ rest) (sym whole) ∙ seam)
    (sees_kept n next r records rest low fit.0 fit.1 (sees (suc n) (suc n) records rest (omega arith) fit.2 both.1)))
    (λ (lost : IsLost r head). sees_same n next (r ∷ records) found (replicate (length head) 0 ++ rest) (ap (λ (l : List ℕ). l ++ rest) (sym lost.is) ∙ seam)
    (sees_lost n next (length head) r records rest low lost.loose (sees (suc n) next records rest (omega arith) fit.2 both.1)))
    (left_parts n r head both.0)

pub left_are_found : LeftAreFound
left_are_found records found fit h =
    let s = sees 0 0 records found (omega arith) fit h in
    record { chosen = s.chosen; last = s.last; is = s.is }
