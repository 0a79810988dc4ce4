-- The line of a call on files, without its line feed.
use Rattle.std.specs.Prelude.{◌≡◌, ◌⊎◌, ◌≤◌, ◌^◌, ◌++◌, ◌∷◌, [], ℕ, List, Option, None, Some, option_map, codes, if◌then◌else◌, nat_lt}
use Rattle.blob_sessions.specs.CallLines.{bytes_field, number_field}
use Rattle.blob_sessions.specs.Typed.{by_kind}
use Rattle.blob_file_sessions.specs.Names.{kind_word}
use Rattle.blob_file_sessions.specs.PathTokens.{path_token}
use Rattle.blob_file_sessions.specs.declared.call.FileCall.{FileCall}
use Rattle.blob_file_sessions.specs.declared.kinds.TheConstants.{CREATE, OPEN, OPEN_TRUNCATED, LINK, UNLINK, RENAME, MAKE_DIRECTORY, REMOVE_DIRECTORY, LIST, SYNC_DIRECTORY, FIND, CREATE_AT, LINK_AT, UNLINK_AT, RENAME_AT, MAKE_DIRECTORY_AT, REMOVE_DIRECTORY_AT, LIST_AT, SYNC_DIRECTORY_AT, FIND_AT, OPEN_INODE, OPEN_INODE_TRUNCATED, CLOSE, TRUNCATE, SIZE, SYNC, SYNC_DATA, INODE_OF, READ, WRITE, SYNC_ALL, SETTLE, CRASH, TREE, COMMIT}
use Rattle.blob_file_sessions.specs.declared.line_text.Form.{Form}
use Rattle.blob_file_sessions.specs.declared.line_text.Form.TheVariants.{Path, Two, Rename, Entry, LinkEntry, RenameEntry, Number, First, Last, Bytes, Whole}

-- a space and a path or a name
abbrev pub path_field : List ℕ → List ℕ
path_field p = codes " " ++ path_token p

-- a directory's number and a name in it
abbrev pub entry_field : ℕ → List ℕ → List ℕ
entry_field directory name = number_field directory ++ path_field name

-- what a rename does if the new name is taken: nothing if it replaces it
abbrev pub how_fields : List (ℕ × Option (List ℕ))
how_fields = (0, Some []) ∷ (1, Some (codes " noreplace")) ∷ (2, Some (codes " exchange")) ∷ []

abbrev pub how_field : ℕ → Option (List ℕ)
how_field how = by_kind how how_fields

-- what the line of a kind has after its word
abbrev pub path_forms : List (ℕ × Option Form)
path_forms =
    (CREATE, Some Path)
    ∷ (OPEN, Some Path)
    ∷ (OPEN_TRUNCATED, Some Path)
    ∷ (LINK, Some Two)
    ∷ (UNLINK, Some Path)
    ∷ (RENAME, Some Rename)
    ∷ (MAKE_DIRECTORY, Some Path)
    ∷ (REMOVE_DIRECTORY, Some Path)
    ∷ (LIST, Some Path)
    ∷ (SYNC_DIRECTORY, Some Path)
    ∷ (FIND, Some Path)
    ∷ []

abbrev pub directory_forms : List (ℕ × Option Form)
directory_forms =
    (CREATE_AT, Some Entry)
    ∷ (LINK_AT, Some LinkEntry)
    ∷ (UNLINK_AT, Some Entry)
    ∷ (RENAME_AT, Some RenameEntry)
    ∷ (MAKE_DIRECTORY_AT, Some Entry)
    ∷ (REMOVE_DIRECTORY_AT, Some Entry)
    ∷ (LIST_AT, Some Number)
    ∷ (SYNC_DIRECTORY_AT, Some Number)
    ∷ (FIND_AT, Some Entry)
    ∷ (OPEN_INODE, Some Number)
    ∷ (OPEN_INODE_TRUNCATED, Some Number)
    ∷ []

abbrev pub other_forms : List (ℕ × Option Form)
other_forms =
    (CLOSE, Some Number)
    ∷ (TRUNCATE, Some First)
    ∷ (SIZE, Some Number)
    ∷ (SYNC, Some Number)
    ∷ (SYNC_DATA, Some Number)
    ∷ (INODE_OF, Some Number)
    ∷ (READ, Some Last)
    ∷ (WRITE, Some Bytes)
    ∷ (SYNC_ALL, Some Whole)
    ∷ (SETTLE, Some Whole)
    ∷ (CRASH, Some Whole)
    ∷ (TREE, Some Whole)
    ∷ (COMMIT, Some Whole)
    ∷ []

abbrev pub form_of : ℕ → Option Form
form_of kind =
    if nat_lt kind 16 then by_kind kind path_forms
    else if nat_lt kind 32 then by_kind kind directory_forms
    else by_kind kind other_forms

-- the fields after the word, without what a rename does
abbrev pub fields : Form → FileCall → List ℕ → List ℕ → List ℕ
fields Path asked p to = path_field p
fields Two asked p to = path_field p ++ path_field to
fields Rename asked p to = path_field p ++ path_field to
fields Entry asked p to = entry_field asked.number p
fields LinkEntry asked p to = number_field asked.first ++ entry_field asked.number p
fields RenameEntry asked p to = entry_field asked.number p ++ entry_field asked.first to
fields Number asked p to = number_field asked.number
fields First asked p to = number_field asked.number ++ number_field asked.first
fields Last asked p to = (number_field asked.number ++ number_field asked.first) ++ number_field asked.last
fields Bytes asked p to = (number_field asked.number ++ number_field asked.first) ++ bytes_field p
fields Whole asked p to = []

-- what a rename does; other calls have no such field
abbrev pub how_of : Form → FileCall → Option (List ℕ)
how_of Rename asked = how_field asked.first
how_of RenameEntry asked = how_field asked.last
how_of Path asked = Some []
how_of Two asked = Some []
how_of Entry asked = Some []
how_of LinkEntry asked = Some []
how_of Number asked = Some []
how_of First asked = Some []
how_of Last asked = Some []
how_of Bytes asked = Some []
how_of Whole asked = Some []

abbrev pub with_form : Option (List ℕ) → Option Form → FileCall → List ℕ → List ℕ → Option (List ℕ)
with_form (Some word) (Some form) asked p to = option_map (λ how. (word ++ fields form asked p to) ++ how) (how_of form asked)
with_form word form asked p to = None

-- The line of a call. None if the kind is unknown, or the number of a rename above 2.
abbrev pub call_line : FileCall → List ℕ → List ℕ → Option (List ℕ)
call_line asked p to = with_form (kind_word asked.kind) (form_of asked.kind) asked p to
