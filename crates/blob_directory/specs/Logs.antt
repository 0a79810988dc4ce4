-- The names that the log of the syncs has.
use Rattle.std.specs.Prelude.{Bool, false, ◌&&◌, ◌||◌, List, [], ◌∷◌, None, is_none, is_some, if◌then◌else◌}
use Rattle.std.specs.List.{fold}
use Rattle.blob_directory.specs.declared.log.Log.{Log}
use Rattle.blob_directory.specs.declared.profile.Settles.{Settles}
use Rattle.blob_directory.specs.declared.profile.Settles.TheVariants as settles
use Rattle.blob_directory.specs.declared.unsettled.Unsettled.{Unsettled}
use Rattle.blob_directory.specs.Names.{Edit, Names, edit_of, edited}
use Rattle.blob_directory.specs.Tables.{bound}

abbrev pub logged : Log → Names
logged log = bound log.names

-- the edit frees a name that is bound
abbrev pub frees_any : Names → Edit → Bool
frees_any names [] = false
frees_any names ((e, to) ∷ edit) = (is_none to && is_some (names e)) || frees_any names edit

-- the log after an edit: it follows one that frees a name which it has
abbrev pub followed : Names → Edit → Names
followed names edit = if frees_any names edit then edited names edit else names

-- with the names of an edit that a sync settles
abbrev pub with_logged : Names → Unsettled → Names
with_logged names e = if e.is_wanted then edited names (edit_of e.edit) else names

-- the log after a sync of these edits: one of all is a commit, which empties it
abbrev pub logged_after : Settles → List Unsettled → Names → Names
logged_after settles.Own edits names = λ e. None
logged_after settles.Names edits names = fold with_logged names edits
logged_after settles.UpToLast edits names = λ e. None
logged_after settles.UpToLastOrSize edits names = λ e. None
logged_after settles.All edits names = λ e. None
