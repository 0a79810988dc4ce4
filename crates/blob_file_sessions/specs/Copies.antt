-- Copies of replies.
use Rattle.std.specs.Prelude.{◌≡◌, ℕ, List, map, Option, Some, None, Vec}
use Rattle.std.specs.Global.{Global}
use Rattle.blob_directory.specs.declared.edit.Binding.{Binding}
use Rattle.blob_draws.specs.Rows.{table_of}
use Rattle.blob_fs.specs.declared.crash.Crash.{Crash}
use Rattle.blob_fs.specs.declared.error.FsError.{FsError}
use Rattle.blob_fs.specs.declared.error.FsError.TheVariants.{Store}
use Rattle.blob_fs.specs.declared.reply.Reply.{Reply}
use Rattle.blob_fs.specs.declared.reply.Reply.TheVariants as replies
use Rattle.blob_fs.specs.declared.whole.TreeEntry.{TreeEntry}
use Rattle.blob_header.specs.Refusals.{refusal_of}

-- the names of a list, each with its binding
abbrev pub bindings_of : List (Vec ℕ Global × Binding) → List (List ℕ × Binding)
bindings_of names = map (λ entry. (entry.0.items, entry.1)) names

-- the paths of a tree, each with its binding and its bytes
abbrev pub paths_of : List TreeEntry → List (List ℕ × Binding × List ℕ)
paths_of entries = map (λ entry. (entry.path.items, entry.binding, entry.bytes.items)) entries

-- the same rows, places and edits
pub record IsSameCrash (crash copy : Crash) : Type 0 where
  pub rows : table_of copy.rows ≡ table_of crash.rows
  pub places : copy.places.items ≡ crash.places.items
  pub edits : copy.edits.items ≡ crash.edits.items

-- the same error; one of the layer has the same texts
abbrev pub IsSameError : FsError → FsError → Type 0
IsSameError (Store error) (Store copy) = refusal_of copy ≡ refusal_of error
IsSameError error copy = copy ≡ error

-- a reply with the same contents
abbrev pub IsCopy : Reply → Reply → Type 0
IsCopy (replies.Names names) (replies.Names copy) = bindings_of copy.items ≡ bindings_of names.items
IsCopy (replies.Tree entries) (replies.Tree copy) = paths_of copy.items ≡ paths_of entries.items
IsCopy (replies.Crashed crash) (replies.Crashed copy) = IsSameCrash crash copy
IsCopy (replies.Refused error) (replies.Refused copy) = IsSameError error copy
IsCopy reply copy = copy ≡ reply

-- a copy of the last reply, if there was a call
abbrev pub IsLastCopy : Option Reply → Option Reply → Type 0
IsLastCopy None None = Unit {0}
IsLastCopy (Some reply) (Some copy) = IsCopy reply copy
IsLastCopy last copy = ⊥
