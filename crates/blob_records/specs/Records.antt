-- Records of one length in the slots of a blob: what is read at an index, and what may be found there.
use Rattle.std.specs.Prelude.{◌≡◌, ℕ, ◌*◌, ◌%◌, ◌<◌, true, List, length, drop, Option, Some, None}
use Rattle.blob_model.specs.declared.mode.PartialWriteMode.{PartialWriteMode}
use Rattle.blob_model.specs.declared.mode.PartialWriteMode.TheVariants.{Prefix, Subset, Sectors}
use Rattle.blob_model.specs.Bytes.{resize}
use Rattle.blob_model.specs.Files.{Files}
use Rattle.blob_model.specs.Opened.{IsNamed}
use Rattle.blob_model.specs.Places.{Place}
use Rattle.blob_model.specs.Rates.{Rate}
use Rattle.blob_draws.specs.declared.config.Config.{Config}
use Rattle.blob_draws.specs.Faults.{retention}
use Rattle.blob_faulty.specs.Keeps.{OverMemory, IsFor}
use Rattle.blob_faulty.specs.Leaves.{LeavesOnly, Test}
use Rattle.blob_faulty.specs.Wrapper.{inner_of, inside, size_of}
use Rattle.blob_memory.specs.Store.{directory, durable, live, place}
use Rattle.blob_records.specs.declared.records.Records.{Records}

-- the record at an index: the bytes of its slot, with zeros after the end of the blob
abbrev pub record_in : ℕ → List ℕ → ℕ → List ℕ
record_in len bytes i = resize (drop (i * len) bytes) len

abbrev pub len_of : Records → ℕ
len_of r = r.len

-- the incarnation of the records' blob
abbrev pub place_of : Records → Place
place_of r = place (inside r.blob)

-- the record that is read at an index
abbrev pub record_at : Records → ℕ → List ℕ
record_at r i = record_in r.len (live (inside r.blob)) i

-- each record that may be found at this index of a blob, now or after any crash, passes the test
abbrev pub FindsOnly : {R : Type 0} → OverMemory R → Place → ℕ → ℕ → Test → Type 0
FindsOnly w o len i test = LeavesOnly (λ o. o) directory durable w o (λ bytes. test (record_in len bytes i))

-- so does the record that is read there
pub record Passes {R : Type 0} (r : Records) (w : OverMemory R) (i : ℕ) (test : Test) : Type 0 where
  pub found : FindsOnly w (place_of r) r.len i test
  pub read : test (record_at r i) ≡ true
  pub size : size_of r.blob ≡ length (live (inside r.blob))

-- the records are those of their name's current blob
abbrev pub AreOpen : {R : Type 0} → Records → OverMemory R → Type 0
AreOpen r w = Passes r w 0 (λ _. true)

-- a sector is one slot or several
abbrev pub AreSlots : PartialWriteMode → ℕ → Type 0
AreSlots Prefix len = ⊥
AreSlots Subset len = ⊥
AreSlots (Sectors size) len = (0 < size) × (0 < len) × (size % len ≡ 0)

-- some bytes of unsynced writes may survive, and only in such sectors, so a slot survives whole or not at all
abbrev pub KeepsSlotsWhole : Option (PartialWriteMode × Rate) → ℕ → Type 0
KeepsSlotsWhole None len = ⊥
KeepsSlotsWhole (Some kept) len = AreSlots kept.0 len

abbrev pub WritesSlotsWhole : Config → ℕ → Type 0
WritesSlotsWhole config len = KeepsSlotsWhole (retention config.write_rate) len

-- what passed a test at an index still does, at this index if the put bytes pass it too
abbrev pub PutsRecord : {R : Type 0} → Records → OverMemory R → Records → OverMemory R → ℕ → List ℕ → Type 0
PutsRecord r w r' w' index bytes = (i : ℕ) (test : Test) → Passes r w i test → (i ≡ index → test bytes ≡ true) → Passes r' w' i test

-- what passed a test still does
abbrev pub StillPasses : {R : Type 0} → Records → OverMemory R → Records → OverMemory R → Type 0
StillPasses r w r' w' = (i : ℕ) (test : Test) → Passes r w i test → Passes r' w' i test

-- at each index only the record that is read may be found
abbrev pub FindsRead : {R : Type 0} → Records → OverMemory R → Type 0
FindsRead r w = (i : ℕ) (test : Test) → test (record_at r i) ≡ true → Passes r w i test

-- of each blob only what might have been found before may be found
abbrev pub FindsNoMore : {R : Type 0} → OverMemory R → OverMemory R → Type 0
FindsNoMore before after = (o : Place) (test : Test) → LeavesOnly (λ o. o) directory durable before o test → LeavesOnly (λ o. o) directory durable after o test

-- if a blob of this name had records of this length, these are they, and each is one that might have been found
abbrev pub FindsRecords : {R : Type 0} → OverMemory R → List ℕ → List ℕ → Records → OverMemory R → Type 0
FindsRecords before p n r after = (o : Place) (i : ℕ) (test : Test) → IsNamed o p n → FindsOnly before o r.len i test → (place_of r ≡ o) × Passes r after i test

-- only what is read is found, if the wrapper represented some files before
abbrev pub FindsReadFrom : {R : Type 0} → OverMemory R → Records → OverMemory R → Type 0
FindsReadFrom before r after = (files : Files) → IsFor before files → FindsRead r after

-- the same records are read and durable
abbrev pub SameRecords : {R : Type 0} → Records → OverMemory R → Records → OverMemory R → Type 0
SameRecords r w r' w' = (live (inside r'.blob) ≡ live (inside r.blob)) × (durable (inner_of w') ≡ durable (inner_of w))
