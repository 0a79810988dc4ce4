-- What syncs make of the edits that a journal was told.
use Rattle.std.proofs.Common.{◌≡◌, ◌||◌, ◌&&◌, ℕ, ◌+◌, ◌<◌, Bool, true, false, List, [], ◌∷◌, suc, Some, length, get_or, take, ap, ap₂, refl, sym, ◌∙◌}
use Rattle.std.specs.Prelude.{nat_eq}
use Rattle.std.specs.Coded.{Coded-set, coded_list, coded_ℕ}
use Rattle.std.proofs.Math.Logic.{∥∥₁_elim}
use Rattle.blob_memory.specs.Store.{durable, place}
use Rattle.blob_faulty.specs.Keeps.{OverMemory}
use Rattle.blob_faulty.specs.Wrapper.{inner_of, inside}
use Rattle.blob_model.proofs.FileSteps.{durable_is}
use Rattle.blob_packed.specs.Losses.{LeftAreFound, PackedAreFound, may_be_left}
use Rattle.blob_directory.specs.declared.unsettled.Unsettled.{Unsettled}
use Rattle.blob_directory.specs.Profiles.{Rule, edits_of}
use Rattle.blob_directory.specs.Records.{Found, found_in}
use Rattle.blob_journal.specs.declared.journal.Journal.{Journal}
use Rattle.blob_journal.specs.Found.{IsKept}
use Rattle.blob_journal.specs.Keeping.{bytes_in, told_by}
use Rattle.blob_journal.specs.Told.{edits_kept, is_marked_in, settle_one, settled_in}
use Rattle.blob_journal.proofs.Growing.{edit_code, marked_more, settled_twice}
use Rattle.blob_journal.proofs.Records.{told_is, told_long}
use Rattle.blob_journal.proofs.Told.{chosen_of, found_edits}

and_true : (a b : Bool) → a ≡ true → (a && b) ≡ b
and_true a b is = ap (λ (x : Bool). x && b) is

-- an edit of the list is settled
pub told_next : (old new : Journal) (edits : List Unsettled) (k : ℕ) (item : Unsettled) → k < length edits → item ≡ get_or edits k item → item.is_wanted ≡ true
    → told_by new ≡ settled_in (λ i. nat_eq item.record i) 0 (told_by old)
    → (told : List Found) → told_by old ≡ settled_in (is_marked_in (take k edits)) 0 told → told_by new ≡ settled_in (is_marked_in (take (k + 1) edits)) 0 told
told_next old new edits k item low is wanted one told was =
    one
    ∙ ap (settled_in (λ i. nat_eq item.record i) 0) was
    ∙ settled_twice (is_marked_in (take k edits)) (λ i. nat_eq item.record i) (is_marked_in (take (k + 1) edits)) 0 told
    (λ i. sym (marked_more edits k item i low is ∙ ap (λ (b : Bool). is_marked_in (take k edits) i || b) (and_true item.is_wanted (nat_eq item.record i) wanted)))

-- an edit that isn't marked
settled_alike : (a b : ℕ → Bool) (n : ℕ) (told : List Found) → ((i : ℕ) → a i ≡ b i) → settled_in a n told ≡ settled_in b n told
settled_alike a b n [] same = refl
settled_alike a b n (f ∷ told) same = ap₂ (λ (x : Found) (l : List Found). x ∷ l) (ap (λ (t : Bool). settle_one t f) (same n)) (settled_alike a b (suc n) told same)

or_false : (a b : Bool) → b ≡ false → (a || b) ≡ a
or_false true b is = refl
or_false false b is = is

pub told_same : (edits : List Unsettled) (k : ℕ) (item : Unsettled) → k < length edits → item ≡ get_or edits k item → item.is_wanted ≡ false
    → (told : List Found) → settled_in (is_marked_in (take k edits)) 0 told ≡ settled_in (is_marked_in (take (k + 1) edits)) 0 told
told_same edits k item low is unwanted told = settled_alike (is_marked_in (take k edits)) (is_marked_in (take (k + 1) edits)) 0 told
    (λ i. sym (marked_more edits k item i low is ∙ or_false (is_marked_in (take k edits) i) (item.is_wanted && nat_eq item.record i) (ap (λ (b : Bool). b && nat_eq item.record i) unwanted)))

-- as many edits were told as the journal has records
pub told_count : {R : Type 0} → PackedAreFound → (store : OverMemory R) (journal : Journal) (edits : List Unsettled) → ∥ IsKept store journal edits ∥₁ → length (told_by journal) ≡ journal.records
told_count law store journal edits h = ∥∥₁_elim h (Coded-set coded_ℕ (length (told_by journal)) journal.records)
    (λ k. ap (λ (l : List Found). length l) (told_is law k.records (bytes_in journal) k.has.fit k.has.seen) ∙ told_long k.records ∙ k.has.count)

pub same_length : {R : Type 0} → PackedAreFound → (before after : OverMemory R) (old new : Journal) (edits edits' : List Unsettled) → new.records ≡ old.records → ∥ IsKept before old edits ∥₁ → ∥ IsKept after new edits' ∥₁
    → length (told_by new) ≡ length (told_by old)
same_length law before after old new edits edits' same h k = told_count law after new edits' k ∙ same ∙ sym (told_count law before old edits h)

-- the edits that count of the durable bytes
pub found_now : {R : Type 0} → LeftAreFound → PackedAreFound → (rule : Rule) (store : OverMemory R) (journal : Journal) (edits : List Unsettled) (bytes : List ℕ) → ∥ IsKept store journal edits ∥₁
    → durable (inner_of store) (place (inside journal.blob)) ≡ Some bytes → edits_of rule bytes ≡ edits_kept rule (chosen_of (found_in bytes)) (told_by journal)
found_now left law rule store journal edits bytes h is = ∥∥₁_elim h (Coded-set (coded_list edit_code) _ _) (λ k.
    let f = k.has.found in
    let may : may_be_left 0 k.records bytes ≡ true =
    ap (may_be_left 0 k.records) (durable_is _ _ _ _ _ f.files (place (inside journal.blob)) bytes is f.stands) ∙ f.durable in
    found_edits rule k.records bytes (left k.records bytes k.has.fit may)
    ∙ ap (edits_kept rule (chosen_of (found_in bytes))) (sym (told_is law k.records (bytes_in journal) k.has.fit k.has.seen)))
