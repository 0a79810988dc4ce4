-- The records that a sync settles.
use Rattle.std.specs.Prelude.{◌≡◌, ℕ, ◌++◌, Bool, true, false, List, [], ◌∷◌, get_or, if◌then◌else◌, map, option_map}
use Rattle.std.specs.List.{fold}
use Rattle.blob_model.specs.Bytes.{overlay}
use Rattle.blob_model.specs.Directory.{is_current}
use Rattle.blob_model.specs.Places.{Place}
use Rattle.blob_model.specs.Rates.{Rate}
use Rattle.blob_draws.specs.declared.selections.Selections.{Selections}
use Rattle.blob_memory.specs.Store.{directory, durable, place}
use Rattle.blob_faulty.specs.Keeps.{OverMemory}
use Rattle.blob_faulty.specs.Wrapper.{inner_of, inside}
use Rattle.blob_packed.specs.Records.{record_bytes}
use Rattle.blob_directory.specs.declared.profile.Keeps.{Keeps}
use Rattle.blob_directory.specs.Rules.{rule_of}
use Rattle.blob_directory.specs.declared.profile.Settles.{Settles}
use Rattle.blob_directory.specs.declared.unsettled.About.{About}
use Rattle.blob_directory.specs.declared.unsettled.Synced.{Synced}
use Rattle.blob_directory.specs.declared.unsettled.Unsettled.{Unsettled}
use Rattle.blob_directory.specs.Names.{Edit, edit_of}
use Rattle.blob_directory.specs.Profiles.{counts_in}
use Rattle.blob_directory.specs.Records.{record_of}
use Rattle.blob_directory.specs.Syncs.{Wants, marked}
use Rattle.blob_directory.specs.UnsettledEdits.{edits_listed}
use Rattle.blob_journal.specs.declared.journaled.Journaled.{Journaled}
use Rattle.blob_journal.specs.Currents.{KeepsFiles, LeftAs, Represents, pending_at}
use Rattle.blob_journal.specs.Draws.{EndsWithEdit}
use Rattle.blob_journal.specs.Journals.{IsJournal, IsJournalAfter, generation_of, store_of}
use Rattle.blob_journal.specs.Keeping.{KeepsTold, told_in}
use Rattle.blob_journal.specs.Told.{is_marked_in, settled_in}

-- the edits that nothing settled
abbrev pub unsettled_of : {R : Type 0} → Journaled R → List Unsettled
unsettled_of j = edits_listed j.unsettled

-- the same edits are unsettled
abbrev pub KeepsUnsettled : {R : Type 0} → Journaled R → Journaled R → Type 0
KeepsUnsettled j j' = unsettled_of j' ≡ unsettled_of j

-- One more edit is unsettled, the last one: it is this edit, is about this, and has this number.
pub record AddsUnsettled {R : Type 0} (e : Edit) (a : About) (n : ℕ) (j j' : Journaled R) : Type 0 where
  pub last : Unsettled
  pub is : unsettled_of j' ≡ unsettled_of j ++ last ∷ []
  pub edit : edit_of last.edit ≡ e
  pub about : last.about ≡ a
  pub number : last.number ≡ n

-- by the records that count, of each of these edits whether its record does
abbrev pub counted : List Bool → List Unsettled → List Bool
counted counts edits = map (λ e. get_or counts e.record false) edits

-- The same with some number. Its record is the last entry of the journal's log: a crash keeps it whole, by this rate, or loses it.
pub record NotesEdit {R : Type 0} (e : Edit) (a : About) (rate : Rate) (j j' : Journaled R) : Type 0 where
  pub number : ℕ
  pub adds : AddsUnsettled e a number j j'
  pub ends : ∥ EndsWithEdit e rate j' ∥₁

-- the journal is found with these bytes, and this is of each edit that nothing settled whether its record counts
pub record FindsEdits {R : Type 0} (j : Journaled R) (keeps : Keeps) (edits : List Bool) : Type 0 where
  pub journal : List ℕ
  pub is : IsJournal (store_of j) (generation_of j) journal
  pub found : edits ≡ counted (counts_in (rule_of keeps (unsettled_of j)) journal) (unsettled_of j)

-- the same after a crash that kept these rows: the journal has those of its pending records that the crash kept
pub record FindsKeptEdits {R : Type 0} (j : Journaled R) (kept : Selections) (keeps : Keeps) (edits : List Bool) : Type 0 where
  pub journal : List ℕ
  pub is : IsJournalAfter (store_of j) (generation_of j) kept journal
  pub found : edits ≡ counted (counts_in (rule_of keeps (unsettled_of j)) journal) (unsettled_of j)

-- whatever edits are found after a crash that kept these rows, the journal before it has them
abbrev pub CrashKeepsEdits : {R : Type 0} → Journaled R → Selections → Journaled R → Type 0
CrashKeepsEdits j kept j' = (keeps : Keeps) (edits : List Bool) → FindsEdits j' keeps edits → FindsKeptEdits j kept keeps edits

-- the incarnation of the journal's blob
abbrev pub place_of : {R : Type 0} → Journaled R → Place
place_of j = place (inside j.journal.blob)

-- the record of an edit again, settled
abbrev pub with_settled : Unsettled → List ℕ → List ℕ
with_settled e bytes = overlay bytes e.offset (record_bytes e.record (record_of (edit_of e.edit) true))

-- so is that of each marked edit, in their order
abbrev pub with_marked : List ℕ → Unsettled → List ℕ
with_marked bytes e = if e.is_wanted then with_settled e bytes else bytes

abbrev pub all_settled : List Unsettled → List ℕ → List ℕ
all_settled edits bytes = fold with_marked bytes edits

-- the durable bytes of an incarnation are changed so, and so is whatever a crash leaves of it
pub record Changes {R : Type 0} (before after : OverMemory R) (o : Place) (change : List ℕ → List ℕ) : Type 0 where
  pub durable : durable (inner_of after) o ≡ option_map change (durable (inner_of before) o)
  pub files : Represents before → is_current (directory (inner_of before)) o ≡ true → Represents after
  pub left : Represents before → is_current (directory (inner_of before)) o ≡ true → LeftAs before after o change

-- a sync settles exactly those edits that the profile says: their records are durable, marked as settled
pub record SettlesEdits {R : Type 0} (settles : Settles) (synced : Synced) (j j' : Journaled R) : Type 0 where
  pub place : place_of j' ≡ place_of j
  pub wants : Unsettled → Bool
  pub exactly : Wants settles synced (unsettled_of j) wants
  pub journal : Changes (store_of j) (store_of j') (place_of j) (all_settled (map (marked wants) (unsettled_of j)))
  pub told : told_in j' ≡ settled_in (is_marked_in (map (marked wants) (unsettled_of j))) 0 (told_in j)

-- no edit is made or settled: the journal has the same bytes, and the same is pending of it
pub record KeepsJournal {R : Type 0} (j j' : Journaled R) : Type 0 where
  pub place : place_of j' ≡ place_of j
  pub durable : durable (inner_of (store_of j')) (place_of j) ≡ durable (inner_of (store_of j)) (place_of j)
  pub pending : pending_at (store_of j') (place_of j) ≡ pending_at (store_of j) (place_of j)
  pub files : KeepsFiles (store_of j) (store_of j')
  pub unsettled : unsettled_of j' ≡ unsettled_of j
  pub told : KeepsTold j j'

-- Calls that keep the journal, before and after a sync.

abbrev pub KeptTwice : Type 0 → Type 0
KeptTwice R = (a b c : Journaled R) → KeepsJournal a b → KeepsJournal b c → KeepsJournal a c

abbrev pub SettledAfter : Type 0 → Type 0
SettledAfter R = (settles : Settles) (synced : Synced) (a b c : Journaled R) → KeepsJournal a b → SettlesEdits settles synced b c → SettlesEdits settles synced a c

abbrev pub SettledBefore : Type 0 → Type 0
SettledBefore R = (settles : Settles) (synced : Synced) (a b c : Journaled R) → SettlesEdits settles synced a b → KeepsJournal b c → SettlesEdits settles synced a c
