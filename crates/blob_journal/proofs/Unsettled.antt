-- Each edit of a journal that nothing settled is listed.
use Rattle.std.proofs.Common.{◌≡◌, ℕ, zero, suc, ◌+◌, ◌<◌, Bool, true, false, not, ◌&&◌, ◌||◌, List, [], ◌∷◌, ◌++◌, Some, None, length, take, map, refl, sym, ◌∙◌, ap, ap₂, subst, arith}
use Rattle.std.specs.Prelude.{filter, nat_eq, slice_get, if◌then◌else◌}
use Rattle.std.specs.Coded.{Coded-set, Unit-prop, ×_prop, coded_bool}
use Rattle.std.proofs.lemmas.Bool.Decides.{nat_tests}
use Rattle.blob_directory.specs.declared.unsettled.Unsettled.{Unsettled}
pub use Rattle.blob_directory.specs.Indexes.{unwanted}
use Rattle.blob_directory.specs.Records.{Found}
use Rattle.blob_directory.specs.Settled.{AreSettled}
use Rattle.blob_directory.specs.Syncs.{marked}
use Rattle.blob_packed.specs.Records.{Record}
use Rattle.blob_journal.specs.Records.{AreListed, InRecords, IsListed, is_listed}
use Rattle.blob_journal.specs.Told.{is_marked_in, settle_one, settled_in}
use Rattle.blob_journal.proofs.Growing.{any_append}
use Rattle.blob_journal.proofs.Records.{apart}

-- One edit.

still_listed : (listed now : Bool) (f : Found) → IsListed listed f → IsListed listed (settle_one now f)
still_listed listed now None h = tt
still_listed listed now (Some (edit, true)) h = refl
still_listed listed true (Some (edit, false)) h = refl
still_listed listed false (Some (edit, false)) h = h

listed_then : (a b : Bool) (f : Found) → (a ≡ true → b ≡ true) → IsListed a f → IsListed b f
listed_then a b None more h = tt
listed_then a b (Some (edit, true)) more h = refl
listed_then a b (Some (edit, false)) more h = more h

listed_now : (f : Found) (listed : Bool) → listed ≡ true → IsListed listed f
listed_now None listed is = tt
listed_now (Some (edit, true)) listed is = refl
listed_now (Some (edit, false)) listed is = is

-- Settling leaves them in the list, or drops them.

pub listed_settled : (which : ℕ → Bool) (n : ℕ) (told : List Found) (edits : List Unsettled) → AreListed n told edits → AreListed n (settled_in which n told) edits
listed_settled which n [] edits h = tt
listed_settled which n (f ∷ told) edits h = (still_listed (is_listed edits n) (which n) f h.0, listed_settled which (suc n) told edits h.1)

pub listed_by : (edits edits' : List Unsettled) → ((i : ℕ) → is_listed edits i ≡ true → is_listed edits' i ≡ true) → (n : ℕ) (told : List Found) → AreListed n told edits → AreListed n told edits'
listed_by edits edits' more n [] h = tt
listed_by edits edits' more n (f ∷ told) h = (listed_then (is_listed edits n) (is_listed edits' n) f (more n) h.0, listed_by edits edits' more (suc n) told h.1)

-- marks change no record
same_records : (wants : Unsettled → Bool) (edits : List Unsettled) (i : ℕ) → is_listed (map (marked wants) edits) i ≡ is_listed edits i
same_records wants [] i = refl
same_records wants (e ∷ edits) i = ap (λ (b : Bool). nat_eq e.record i || b) (same_records wants edits i)

pub listed_marked : (wants : Unsettled → Bool) (n : ℕ) (told : List Found) (edits : List Unsettled) → AreListed n told edits → AreListed n told (map (marked wants) edits)
listed_marked wants n told edits h = listed_by edits (map (marked wants) edits) (λ i is. same_records wants edits i ∙ is) n told h

any_if : (i : ℕ) (t : Bool) (e : Unsettled) (rest : List Unsettled) → is_listed (if t then e ∷ rest else rest) i ≡ (if t then (nat_eq e.record i || is_listed rest i) else is_listed rest i)
any_if i true e rest = refl
any_if i false e rest = refl

or_true : (b : Bool) → (b || true) ≡ true
or_true true = refl
or_true false = refl

by_mark : (wanted here all settled left : Bool) → (all ≡ true → (settled || left) ≡ true) → (here || all) ≡ true
    → (((wanted && here) || settled) || (if not wanted then (here || left) else left)) ≡ true
by_mark true true all settled left more is = refl
by_mark true false all settled left more is = more is
by_mark false true all settled left more is = or_true settled
by_mark false false all settled left more is = more is

-- each of the list is marked or stays in it
marked_or_left : (edits : List Unsettled) (i : ℕ) → is_listed edits i ≡ true → (is_marked_in edits i || is_listed (filter unwanted edits) i) ≡ true
marked_or_left [] i is = is
marked_or_left (e ∷ edits) i is =
    ap (λ (b : Bool). is_marked_in (e ∷ edits) i || b) (any_if i (not e.is_wanted) e (filter unwanted edits))
    ∙ by_mark e.is_wanted (nat_eq e.record i) (is_listed edits i) (is_marked_in edits i) (is_listed (filter unwanted edits) i) (marked_or_left edits i) is

one_left : (listed now left : Bool) (f : Found) → (listed ≡ true → (now || left) ≡ true) → IsListed listed f → IsListed left (settle_one now f)
one_left listed now left None more h = tt
one_left listed now left (Some (edit, true)) more h = refl
one_left listed now left (Some (edit, false)) more h = more h

left_of : (edits : List Unsettled) (n : ℕ) (told : List Found) → AreListed n told edits → AreListed n (settled_in (is_marked_in edits) n told) (filter unwanted edits)
left_of edits n [] h = tt
left_of edits n (f ∷ told) h =
    (one_left (is_listed edits n) (is_marked_in edits n) (is_listed (filter unwanted edits) n) f (marked_or_left edits n) h.0, left_of edits (suc n) told h.1)

pub listed_left : (edits : List Unsettled) (told : List Found) → AreListed 0 told edits → AreListed 0 (settled_in (is_marked_in edits) 0 told) (filter unwanted edits)
listed_left edits told h = left_of edits 0 told h

-- One more edit.

or_some : (a b : Bool) → a ≡ true → (a || b) ≡ true
or_some a b is = ap (λ (x : Bool). x || b) is

more_listed : (edits : List Unsettled) (e : Unsettled) (i : ℕ) → is_listed edits i ≡ true → is_listed (edits ++ e ∷ []) i ≡ true
more_listed edits e i is = any_append (λ x. nat_eq x.record i) edits (e ∷ []) ∙ or_some (is_listed edits i) (is_listed (e ∷ []) i) is

last_listed : (edits : List Unsettled) (e : Unsettled) (i : ℕ) → e.record ≡ i → is_listed (edits ++ e ∷ []) i ≡ true
last_listed edits e i at =
    let is : nat_eq e.record i ≡ true = grind (arith, nat_tests, at) in
    any_append (λ x. nat_eq x.record i) edits (e ∷ []) ∙ ap (λ (b : Bool). is_listed edits i || (b || false)) is ∙ or_true (is_listed edits i)

pub listed_added : (n : ℕ) (told : List Found) (found : Found) (edits : List Unsettled) (e : Unsettled) → e.record ≡ n + length told
    → AreListed n told edits → AreListed n (told ++ found ∷ []) (edits ++ e ∷ [])
listed_added n [] found edits e at h = (listed_now found (is_listed (edits ++ e ∷ []) n) (last_listed edits e n (omega (arith, at))), tt)
listed_added n (f ∷ told) found edits e at h =
    (listed_then (is_listed edits n) (is_listed (edits ++ e ∷ []) n) f (more_listed edits e n) h.0, listed_added (suc n) told found edits e (omega (arith, at)) h.1)

-- A journal with settled edits only.

pub listed_none : (n : ℕ) (told : List Found) (edits : List Unsettled) → AreSettled told → AreListed n told edits
listed_none n [] edits h = tt
listed_none n (None ∷ told) edits h = (tt, listed_none (suc n) told edits h)
listed_none n (Some (edit, true) ∷ told) edits h = (refl, listed_none (suc n) told edits h.1)
listed_none n (Some (edit, false) ∷ told) edits h = let none = h.0 in absurd (cc)

-- The edits before the first of the list are settled.

with_first : (f : Found) (rest : List Found) (listed : Bool) → listed ≡ false → IsListed listed f → AreSettled rest → AreSettled (f ∷ rest)
with_first None rest listed none h more = more
with_first (Some (edit, true)) rest listed none h more = (refl, more)
with_first (Some (edit, false)) rest listed none h more = (sym none ∙ h, more)

settled_below : (edits : List Unsettled) (low k n : ℕ) (told : List Found) → low ≡ n + k → ((i : ℕ) → i < low → is_listed edits i ≡ false) → AreListed n told edits → AreSettled (take k told)
settled_below edits low zero n told is none h = tt
settled_below edits low (suc k) n [] is none h = tt
settled_below edits low (suc k) n (f ∷ told) is none h =
    with_first f (take k told) (is_listed edits n) (none n (omega (arith, is))) h.0 (settled_below edits low k (suc n) told (omega (arith, is)) none h.1)

below : (k i : ℕ) → i < k → nat_eq k i ≡ false
below k i low = apart k i (λ e. omega (arith, e, low))

none_below : (from : ℕ) (records : List Record) (edits : List Unsettled) (i : ℕ) → i < from → InRecords from records edits → is_listed edits i ≡ false
none_below from records [] i low h = refl
none_below from records (e ∷ edits) i low h =
    let above = h.0 in
    ap₂ (λ (a b : Bool). a || b) (below e.record i (omega (arith, low, above))) (none_below (suc e.record) records edits i (omega (arith, low, above)) h.2)

first_below : (records : List Record) (e : Unsettled) (edits : List Unsettled) (i : ℕ) → i < e.record → InRecords 0 records (e ∷ edits) → is_listed (e ∷ edits) i ≡ false
first_below records e edits i low h = ap₂ (λ (a b : Bool). a || b) (below e.record i low) (none_below (suc e.record) records edits i (omega (arith, low)) h.2)

settled_first : (records : List Record) (e : Unsettled) (edits : List Unsettled) (told : List Found) → InRecords 0 records (e ∷ edits) → AreListed 0 told (e ∷ edits) → AreSettled (take e.record told)
settled_first records e edits told has h = settled_below (e ∷ edits) e.record e.record 0 told (omega arith) (λ i low. first_below records e edits i low has) h

settled_all : (k : ℕ) (told : List Found) → AreListed 0 told [] → AreSettled (take k told)
settled_all k told h = settled_below [] k k 0 told (omega arith) (λ i low. refl) h

pub settled_by_first : (records : List Record) (e : Unsettled) (edits : List Unsettled) (told : List Found) → Some e ≡ slice_get edits 0 → InRecords 0 records edits → AreListed 0 told edits → AreSettled (take e.record told)
settled_by_first records e [] told first has h = let other : Some e ≡ None = first in absurd (cc)
settled_by_first records e (x ∷ edits) told first has h =
    let same : Some e ≡ Some x = first in
    let is : e ≡ x = cc in
    subst (λ (y : Unsettled). AreSettled (take y.record told)) (sym is) (settled_first records x edits told has h)

pub settled_by_none : (k : ℕ) (edits : List Unsettled) (told : List Found) → None ≡ slice_get edits 0 → AreListed 0 told edits → AreSettled (take k told)
settled_by_none k [] told first h = settled_all k told h
settled_by_none k (x ∷ edits) told first h = let other : None ≡ Some x = first in absurd (cc)

pub settled_prop : (told : List Found) → IsProp (AreSettled told)
settled_prop [] = Unit-prop
settled_prop (None ∷ told) = settled_prop told
settled_prop (Some (edit, settled) ∷ told) =
    let flag : IsProp (settled ≡ true) = Coded-set coded_bool settled true in
    let rest : IsProp (AreSettled told) = settled_prop told in
    ×_prop flag rest
