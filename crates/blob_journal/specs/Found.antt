-- What may be found of a journal: its records, each whole or lost, the settled ones always.
use Rattle.std.specs.Prelude.{◌≡◌, ℕ, false, List, [], ◌∷◌, ◌++◌, length}
use Rattle.std.proofs.Math.Logic.{∥∥₁_map}
use Rattle.blob_memory.specs.Store.{live, place}
use Rattle.blob_faulty.specs.Keeps.{OverMemory}
use Rattle.blob_faulty.specs.Lends.{with_rng}
use Rattle.blob_faulty.specs.Wrapper.{inside}
use Rattle.blob_packed.specs.Losses.{may_be_left}
use Rattle.blob_packed.specs.Records.{FitFrom, Record, packed}
use Rattle.blob_directory.specs.declared.unsettled.Unsettled.{Unsettled}
use Rattle.blob_directory.specs.Names.{Edit}
use Rattle.blob_directory.specs.Records.{Found, found_in, record_of}
use Rattle.blob_journal.specs.declared.journal.Journal.{Journal}
use Rattle.blob_journal.specs.Currents.{FindsNoMoreBut, FindsOnly, SameDirectory}
use Rattle.blob_journal.specs.Records.{AreListed, HasEdit, InRecords, settled_of}

-- the bytes of a journal, as calls see them
abbrev pub bytes_in : Journal → List ℕ
bytes_in journal = live (inside journal.blob)

-- the journal's handle sees these records, packed, and no more may be found than these
pub record HasRecords {R : Type 0} (store : OverMemory R) (journal : Journal) (records : List Record) : Type 0 where
  pub seen : bytes_in journal ≡ packed records
  pub count : length records ≡ journal.records
  pub end : length (bytes_in journal) ≡ journal.end
  pub fit : FitFrom 0 records
  pub found : FindsOnly store (place (inside journal.blob)) (may_be_left 0 records)

-- it has the same records
abbrev pub KeepsRecords : {R : Type 0} → OverMemory R → Journal → OverMemory R → Journal → Type 0
KeepsRecords store journal store' journal' = (records : List Record) → HasRecords store journal records → HasRecords store' journal' records

-- a call on the journal's blob: the blob, the generation and the store's directory are the same, and of no other blob more may be found
pub record WritesJournal {R : Type 0} (store : OverMemory R) (journal : Journal) (store' : OverMemory R) (journal' : Journal) : Type 0 where
  pub beside : FindsNoMoreBut (place (inside journal.blob)) store store'
  pub directory : SameDirectory store store'
  pub generation : journal'.generation ≡ journal.generation
  pub place : place (inside journal'.blob) ≡ place (inside journal.blob)

-- it has one more, of an edit that nothing settled
abbrev pub AddsEdit : {R : Type 0} → Edit → OverMemory R → Journal → OverMemory R → Journal → Type 0
AddsEdit edit store journal store' journal' = (records : List Record) → HasRecords store journal records
    → HasRecords store' journal' (records ++ record_of edit false ∷ [])

-- that of an edit is settled
abbrev pub SettlesEdit : {R : Type 0} → Unsettled → OverMemory R → Journal → OverMemory R → Journal → Type 0
SettlesEdit e store journal store' journal' = (records : List Record) (has : HasEdit records e) → HasRecords store journal records
    → HasRecords store' journal' (settled_of records e has)

-- the edits that the journal was told, in its records, each settled or not
abbrev pub told_by : Journal → List Found
told_by journal = found_in (bytes_in journal)

-- no more may be found of the journal than its records; these have the listed edits, and each edit that nothing settled is listed
pub record IsKept {R : Type 0} (store : OverMemory R) (journal : Journal) (edits : List Unsettled) : Type 0 where
  pub records : List Record
  pub has : HasRecords store journal records
  pub listed : InRecords 0 records edits
  pub unsettled : AreListed 0 (told_by journal) edits

-- the same with another generator
pub with_kept : {R : Type 0} (store : OverMemory R) (rng : R) (journal : Journal) (edits : List Unsettled) → ∥ IsKept store journal edits ∥₁ → ∥ IsKept (with_rng store rng) journal edits ∥₁
with_kept store rng journal edits h = ∥∥₁_map h (λ k. record {
  records = k.records;
  has = record {
    seen = k.has.seen;
    count = k.has.count;
    end = k.has.end;
    fit = k.has.fit;
    found = record {
      files = k.has.found.files;
      stands = k.has.found.stands;
      here = k.has.found.here;
      given = k.has.found.given;
      durable = k.has.found.durable;
      crash = k.has.found.crash;
    };
  };
  listed = k.listed;
  unsettled = k.unsettled;
})
