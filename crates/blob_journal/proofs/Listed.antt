-- Edits with records of their own.
use Rattle.std.proofs.Common.{◌≡◌, ℕ, zero, suc, ◌+◌, ◌-◌, ◌<◌, ◌≤◌, Bool, false, List, [], ◌∷◌, ◌++◌, length, get_or, drop, take, map, None, Some, refl, sym, ◌∙◌, ap, ap₂, arith, append_assoc, length-append}
use Rattle.std.specs.Prelude.{filter, slice_get}
use Rattle.std.proofs.lemmas.Bool.{cond_both}
use Rattle.std.proofs.lemmas.List.{append-nil, drop_all, length-map, length_push, take_all}
use Rattle.blob_packed.specs.Records.{Record, packed}
use Rattle.blob_directory.specs.declared.unsettled.Unsettled.{Unsettled}
use Rattle.blob_directory.specs.Names.{edit_of}
use Rattle.blob_directory.specs.Records.{edit_bytes, record_of}
use Rattle.blob_directory.specs.Syncs.{marked}
use Rattle.blob_journal.specs.Records.{HasEdit, InRecords, settled_of}
use Rattle.blob_journal.proofs.Records.{moved}

-- the number of an edit's record is below that of the next
pub has_below : (records : List Record) (e : Unsettled) → HasEdit records e → e.record < length records
has_below records e h =
    let number = h.number in
    let all : length records ≡ length (h.before ++ record_of (edit_of e.edit) h.settled ∷ h.after) = ap length h.is in
    let parts = length-append h.before (record_of (edit_of e.edit) h.settled ∷ h.after) in
    omega (arith, number, all, parts)

pub in_marked : (wants : Unsettled → Bool) (from : ℕ) (records : List Record) (edits : List Unsettled) → InRecords from records edits → InRecords from records (map (marked wants) edits)
in_marked wants from records [] h = tt
in_marked wants from records (e ∷ edits) h =
    let has = h.1 in
    (h.0, record { before = has.before; after = has.after; settled = has.settled; is = has.is; number = has.number; offset = has.offset }, in_marked wants (suc e.record) records edits h.2)

from_lower : (from low : ℕ) (records : List Record) (edits : List Unsettled) → low ≤ from → InRecords from records edits → InRecords low records edits
from_lower from low records [] less h = tt
from_lower from low records (e ∷ edits) less h = let above = h.0 in (omega (arith, less, above), h.1, h.2)

pub in_filtered : (test : Unsettled → Bool) (from : ℕ) (records : List Record) (edits : List Unsettled) → InRecords from records edits → InRecords from records (filter test edits)
in_filtered test from records [] h = tt
in_filtered test from records (e ∷ edits) h =
    let above = h.0 in
    let rest = in_filtered test (suc e.record) records edits h.2 in
    cond_both (test e) (e ∷ filter test edits) (filter test edits) (λ l. InRecords from records l)
    (λ _. (h.0, h.1, rest))
    (λ _. from_lower (suc e.record) from records (filter test edits) (omega (arith, above)) rest)

-- one more edit at the end
has_more : (records : List Record) (r : Record) (e : Unsettled) → HasEdit records e → HasEdit (records ++ r ∷ []) e
has_more records r e h = record {
  before = h.before;
  after = h.after ++ r ∷ [];
  settled = h.settled;
  is = ap (λ (l : List Record). l ++ r ∷ []) h.is ∙ append_assoc h.before (record_of (edit_of e.edit) h.settled ∷ h.after) (r ∷ []);
  number = h.number;
  offset = h.offset;
}

pub in_added : (from : ℕ) (records : List Record) (edits : List Unsettled) (e : Unsettled) → from ≤ length records → e.record ≡ length records → e.offset ≡ length (packed records)
    → InRecords from records edits → InRecords from (records ++ record_of (edit_of e.edit) false ∷ []) (edits ++ e ∷ [])
in_added from records [] e low at there h =
    (omega (arith, low, at), record { before = records; after = []; settled = false; is = refl; number = at; offset = there }, tt)
in_added from records (x ∷ edits) e low at there h =
    let below = has_below records x h.1 in
    (h.0, has_more records (record_of (edit_of e.edit) false) x h.1, in_added (suc x.record) records edits e (omega (arith, below)) at there h.2)

-- the record of one of them is settled
has_settled : (records : List Record) (item : Unsettled) (e : HasEdit records item) (x : Unsettled) → HasEdit records x → HasEdit (settled_of records item e) x
has_settled records item e x h =
    let m = moved 0 e.before e.after h.before h.after (edit_bytes (edit_of item.edit)) (edit_bytes (edit_of x.edit)) e.settled h.settled (sym e.is ∙ h.is) in
    record { before = m.first; after = m.rest; settled = m.settled; is = m.is; number = h.number ∙ sym m.count; offset = h.offset ∙ sym m.size }

pub in_settled : (from : ℕ) (records : List Record) (item : Unsettled) (e : HasEdit records item) (edits : List Unsettled) → InRecords from records edits → InRecords from (settled_of records item e) edits
in_settled from records item e [] h = tt
in_settled from records item e (x ∷ edits) h = (h.0, has_settled records item e x h.1, in_settled (suc x.record) records item e edits h.2)

-- the record of an edit of the list
pub in_has : (from : ℕ) (records : List Record) (edits : List Unsettled) (k : ℕ) (d : Unsettled) → k < length edits → InRecords from records edits → HasEdit records (get_or edits k d)
in_has from records [] k d low h = absurd (omega (arith, low))
in_has from records (e ∷ edits) zero d low h = h.1
in_has from records (e ∷ edits) (suc k) d low h = in_has (suc e.record) records edits k d (omega (arith, low)) h.2

-- The last of some edits.

at_end : (xs : List Unsettled) (x : Unsettled) → slice_get (xs ++ x ∷ []) (length xs) ≡ Some x
at_end [] x = refl
at_end (y ∷ xs) x = at_end xs x

last_here : (l xs : List Unsettled) (x : Unsettled) → l ≡ xs ++ x ∷ [] → slice_get l (length l - 1) ≡ Some x
last_here l xs x is =
    let long : length l ≡ length xs + 1 = ap length is ∙ length_push xs x in
    let at : length l - 1 ≡ length xs = omega (arith, long) in
    ap₂ (λ (k : List Unsettled) (n : ℕ). slice_get k n) is at ∙ at_end xs x

pub last_is : (l xs : List Unsettled) (x y : Unsettled) → l ≡ xs ++ x ∷ [] → Some y ≡ slice_get l (length l - 1) → y ≡ x
last_is l xs x y is at = let same : Some y ≡ Some x = at ∙ last_here l xs x is in cc

pub has_last : (l xs : List Unsettled) (x : Unsettled) → l ≡ xs ++ x ∷ [] → None ≡ slice_get l (length l - 1) → ⊥
has_last l xs x is at = let none : None ≡ Some x = at ∙ last_here l xs x is in cc
