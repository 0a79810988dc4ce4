-- The names that calls see, and what calls leave of them.
use Rattle.std.specs.Prelude.{◌≡◌, ℕ, ◌+◌, ◌++◌, List, [], ◌∷◌, Bool, false, Some}
use Rattle.blob_faulty.specs.Lends.{with_rng}
use Rattle.blob_faulty.specs.Wrapper.{rng_of}
use Rattle.blob_model.specs.Bytes.{write_live}
use Rattle.blob_packed.specs.Records.{record_bytes}
use Rattle.blob_directory.specs.declared.table.Table.{Table}
use Rattle.blob_directory.specs.Names.{Edit, Names, Same, edited}
use Rattle.blob_directory.specs.Profiles.{Rule}
use Rattle.blob_directory.specs.Records.{Found, record_of}
use Rattle.blob_directory.specs.Settled.{AreSettled}
use Rattle.blob_directory.specs.Tables.{bound}
use Rattle.blob_directory.specs.Trees.{Finds}
use Rattle.blob_directory.specs.declared.profile.Keeps.{Keeps}
use Rattle.blob_directory.specs.Rules.{rule_of}
use Rattle.blob_journal.specs.declared.journal.Journal.{Journal}
use Rattle.blob_journal.specs.declared.journaled.Journaled.{Journaled}
pub use Rattle.blob_journal.specs.Found.{bytes_in, told_by}
use Rattle.blob_journal.specs.Found.{with_kept}
use Rattle.blob_journal.specs.Told.{Grows, OnlySettles, names_kept}

-- the table of the names that calls see
abbrev pub table_in : {R : Type 0} → Journaled R → Table
table_in j = j.names

-- what each entry is bound to
abbrev pub names_in : {R : Type 0} → Journaled R → Names
names_in j = bound j.names

-- the generator that the draws come from
abbrev pub generator_in : {R : Type 0} → Journaled R → R
generator_in j = rng_of j.store

-- with another generator; all else stays
abbrev pub with_generator : {R : Type 0} → Journaled R → R → Journaled R
with_generator j rng = record j { store = with_rng j.store rng; current = j.current; given = j.given; accepted = j.accepted; kept = with_kept j.store rng j.journal j.unsettled.edits.items j.kept }

-- nothing has happened to the names
abbrev pub KeepsTable : {R : Type 0} → Journaled R → Journaled R → Type 0
KeepsTable j j' = table_in j' ≡ table_in j

-- each entry is bound to what it was bound to
abbrev pub SameBindings : {R : Type 0} → Journaled R → Journaled R → Type 0
SameBindings j j' = Same (names_in j) (names_in j')

-- the names are those of before with this edit
abbrev pub Edits : {R : Type 0} → Edit → Journaled R → Journaled R → Type 0
Edits edit j j' = Same (names_in j') (edited (names_in j) edit)

-- the bytes of a journal after one write at their end, of one more record, which has this edit
abbrev pub with_record : Journal → Edit → List ℕ
with_record journal edit = write_live (bytes_in journal) journal.end (record_bytes journal.records (record_of edit false))

-- the journal has one more record, of this edit
abbrev pub AddsRecord : {R : Type 0} → Edit → Journaled R → Journaled R → Type 0
AddsRecord edit j j' = (bytes_in j'.journal ≡ with_record j.journal edit) × (j'.journal.records ≡ j.journal.records + 1)

-- only the number up to which blobs of files were opened has changed
abbrev pub NotesOpened : {R : Type 0} → Journaled R → Journaled R → Type 0
NotesOpened j j' = (j'.store ≡ j.store) × (j'.journal ≡ j.journal) × (j'.names ≡ j.names) × (j'.unsettled ≡ j.unsettled) × (j'.log ≡ j.log)

-- the edits that the journal was told, in its records, each settled or not
abbrev pub told_in : {R : Type 0} → Journaled R → List Found
told_in j = told_by j.journal

-- the same edits were told, and the same are settled
abbrev pub KeepsTold : {R : Type 0} → Journaled R → Journaled R → Type 0
KeepsTold j j' = told_in j' ≡ told_in j

-- one more edit was told, which nothing has settled
abbrev pub AddsTold : {R : Type 0} → Edit → Journaled R → Journaled R → Type 0
AddsTold edit j j' = told_in j' ≡ told_in j ++ Some (edit, false) ∷ []

-- edits may have been told, and some settled; no edit has changed, and none is unsettled again
abbrev pub GrowsTold : {R : Type 0} → Journaled R → Journaled R → Type 0
GrowsTold j j' = Grows (told_in j) (told_in j')

-- edits may have been settled, and no other change was made
abbrev pub SettlesSome : {R : Type 0} → Journaled R → Journaled R → Type 0
SettlesSome j j' = OnlySettles (told_in j) (told_in j')

-- The names are those that a recovery finds by the edits that were told: by all that were settled, and by some of the others, as the profile keeps them.
pub record FindsTold {R : Type 0} (j : Journaled R) (keeps : Keeps) (names : Names) : Type 0 where
  pub chosen : ℕ → Bool
  pub finds : Finds names (names_kept (rule_of keeps j.unsettled.edits.items) chosen (told_in j))

-- all edits that were told are settled, and they give the names that calls see, by every rule, whatever a crash loses
pub record GivesTold {R : Type 0} (j : Journaled R) : Type 0 where
  pub settled : AreSettled (told_in j)
  pub names : (rule : Rule) (chosen : ℕ → Bool) → Same (names_kept rule chosen (told_in j)) (names_in j)
