-- The log of the syncs: which names it has, and which edits it follows.
use Rattle.std.specs.Prelude.{◌≡◌, Bool, [], ◌∷◌, ◌++◌, map}
use Rattle.blob_directory.specs.declared.profile.Settles.{Settles}
use Rattle.blob_directory.specs.declared.unsettled.Synced.{Synced}
use Rattle.blob_directory.specs.declared.unsettled.Unsettled.{Unsettled}
use Rattle.blob_directory.specs.Logs.{followed, frees_any, logged, logged_after}
use Rattle.blob_directory.specs.Names.{Edit, Names, Same}
use Rattle.blob_directory.specs.Syncs.{Wants, marked}
use Rattle.blob_journal.specs.declared.journaled.Journaled.{Journaled}
use Rattle.blob_journal.specs.Settling.{unsettled_of}

-- the names that the log has
abbrev pub logged_in : {R : Type 0} → Journaled R → Names
logged_in j = logged j.log

-- it has the same
abbrev pub KeepsLog : {R : Type 0} → Journaled R → Journaled R → Type 0
KeepsLog j j' = j'.log ≡ j.log

-- one more edit is unsettled, and it says whether the log follows it
pub record MarksLast {R : Type 0} (follows : Bool) (j j' : Journaled R) : Type 0 where
  pub last : Unsettled
  pub is : unsettled_of j' ≡ unsettled_of j ++ last ∷ []
  pub followed : last.is_followed ≡ follows

-- The log follows the edit if it has a name that the edit frees: the last unsettled edit says so, and the log has what the edit leaves.
pub record Follows {R : Type 0} (edit : Edit) (j j' : Journaled R) : Type 0 where
  pub marks : MarksLast (frees_any (logged_in j) edit) j j'
  pub log : Same (logged_in j') (followed (logged_in j) edit)

-- the log has the names of the edits that a sync settles
pub record NotesSync {R : Type 0} (settles : Settles) (synced : Synced) (j j' : Journaled R) : Type 0 where
  pub wants : Unsettled → Bool
  pub exactly : Wants settles synced (unsettled_of j) wants
  pub log : Same (logged_in j') (logged_after settles (map (marked wants) (unsettled_of j)) (logged_in j))
