-- What it is for a log to hold records, and for sessions of a log to survive.
use Rattle.std.specs.Prelude.{◌≡◌, ℕ, List, [], ◌∷◌, ◌++◌, Bool, if◌then◌else◌, map, zip, All, Vec, length}
use Rattle.std.specs.Global.{Global}
use Rattle.blob_header.specs.Fronts.{BeginsWith}
use Rattle.blob_model.specs.Opened.{IsNamed}
use Rattle.blob_model.specs.Places.{Place}
use Rattle.blob_model.specs.Files.{Files}
use Rattle.blob_faulty.specs.Keeps.{OverMemory, IsFor, Keeps}
use Rattle.blob_faulty.specs.Wrapper.{inside}
use Rattle.blob_faulty.specs.declared.blob.Blob.{Blob}
use Rattle.blob_memory.specs.Store.{place}
use Rattle.blob_memory.specs.declared.blob.Blob as memory_blob
use Rattle.blob_log.specs.declared.log.Log.{Log}
use Rattle.blob_log.specs.declared.sessions.Session.{Session}
use Rattle.blob_log.specs.Frames.{frames, AreShort}

-- the incarnation of a log's blob
abbrev pub log_place : Log → Place
log_place log = place (inside log.blob)

-- the handle of a log's blob, and the offset of its next frame
abbrev pub log_blob : Log → Blob memory_blob.Blob
log_blob log = log.blob

abbrev pub log_end : Log → ℕ
log_end log = log.end

-- the wrapper keeps the frames of these records as a prefix of the log's blob, and the next frame goes directly after
-- them
pub record HoldsRecords {R : Type 0} (log : Log) (store : OverMemory R) (records : List (List ℕ)) : Type 0 where
  pub kept : Keeps store (log_place log) (frames records)
  pub short : AreShort records
  pub end : log.end ≡ length (frames records)

-- whatever records the log held, it holds them with these after them
abbrev pub AddsRecords : {R : Type 0} → Log → OverMemory R → Log → OverMemory R → List (List ℕ) → Type 0
AddsRecords log store log' store' added = (records : List (List ℕ)) → HoldsRecords log store records → HoldsRecords log' store' (records ++ added)

-- whatever records the log held, it still holds
abbrev pub StillHolds : {R : Type 0} → Log → OverMemory R → Log → OverMemory R → Type 0
StillHolds log store log' store' = (records : List (List ℕ)) → HoldsRecords log store records → HoldsRecords log' store' records

-- the log holds these records if the wrapper represented some files before
abbrev pub HoldsFrom : {R : Type 0} → OverMemory R → Log → OverMemory R → List (List ℕ) → Type 0
HoldsFrom before log store records = (files : Files) → IsFor before files → HoldsRecords log store records

-- if the frames of some records were kept in a blob of this name, the log has that blob, and what it finds begins with
-- these records
abbrev pub FindsRecords : {R : Type 0} → OverMemory R → List ℕ → List ℕ → Log → List (List ℕ) → Type 0
FindsRecords store p n log found = (o : Place) (records : List (List ℕ)) → IsNamed o p n → AreShort records → Keeps store o (frames records)
    → (log_place log ≡ o) × BeginsWith records found

-- the bytes of a list of records
abbrev pub record_bytes : List (Vec ℕ Global) → List (List ℕ)
record_bytes records = map (λ r. r.items) records

-- the records for which an append returned Ok, in order; the flags say of each append whether it did
abbrev pub acknowledged_records : List Bool → List (List ℕ) → List (List ℕ)
acknowledged_records [] records = []
acknowledged_records (b ∷ answers) [] = []
acknowledged_records (b ∷ answers) (r ∷ records) = if b then r ∷ acknowledged_records answers records else acknowledged_records answers records

abbrev pub acknowledged_in : Vec Bool Global → List (Vec ℕ Global) → List (List ℕ)
acknowledged_in answers records = acknowledged_records answers.items (record_bytes records)

-- the records that a session found, then those that were acknowledged to it
abbrev pub trusted_records : Session × Vec (Vec ℕ Global) Global → List (List ℕ)
trusted_records (session, records) = record_bytes session.before.items ++ acknowledged_records session.answers.items (record_bytes records.items)

-- for each of these sessions, which were asked to append these records, the trusted records are a prefix of what is
-- found in the end
abbrev pub Survive : List Session → List (Vec (Vec ℕ Global) Global) → List (List ℕ) → Type 0
Survive sessions asked after = All (λ s. BeginsWith (trusted_records s) after) (zip sessions asked)

-- the sessions survive if the wrapper represented some files before the first one
abbrev pub SurviveFrom : {R : Type 0} → OverMemory R → List Session → List (Vec (Vec ℕ Global) Global) → List (List ℕ) → Type 0
SurviveFrom before sessions asked after = (files : Files) → IsFor before files → Survive sessions asked after

-- one session for each list of records, with an answer for each of these
abbrev pub AreAnswered : List Session → List (Vec (Vec ℕ Global) Global) → Type 0
AreAnswered sessions asked = (length sessions ≡ length asked) × All (λ t. length t.0.answers.items ≡ length t.1.items) (zip sessions asked)
