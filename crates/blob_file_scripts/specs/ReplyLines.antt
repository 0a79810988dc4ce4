-- A reply as a line, without its line feed.
use Rattle.std.specs.Prelude.{◌≡◌, ℕ, Bool, List, [], ◌∷◌, ◌++◌, codes, if◌then◌else◌, Vec}
use Rattle.std.specs.Global.{Global}
use Rattle.std.specs.Fmt.{decimal}
use Rattle.std.specs.List.{flat_map}
use Rattle.blob_directory.specs.declared.edit.Binding.{Binding}
use Rattle.blob_directory.specs.declared.edit.Kind.{Kind}
use Rattle.blob_directory.specs.declared.edit.Kind.TheVariants.{File, Directory}
use Rattle.blob_header.specs.Refusals.{refusal_of}
use Rattle.blob_header.specs.ReplyLines.{refusal_line}
use Rattle.blob_script.specs.Replies.{choice_digits, hex_field}
use Rattle.blob_fs.specs.Files.{descriptor_number}
use Rattle.blob_fs.specs.declared.whole.TreeEntry.{TreeEntry}
use Rattle.blob_fs.specs.declared.error.FsError.{FsError}
use Rattle.blob_fs.specs.declared.error.FsError.TheVariants as errors
use Rattle.blob_fs.specs.declared.reply.Reply.{Reply}
use Rattle.blob_fs.specs.declared.reply.Reply.TheVariants.{Done, Opened, Inode, Found, Size, Names, Tree, Crashed, Refused}
use Rattle.blob_file_sessions.specs.PathTokens.{path_token}

-- a slash after a directory
abbrev pub slash_of : Kind → List ℕ
slash_of File = []
slash_of Directory = codes "/"

-- a name of a directory
abbrev pub name_field : List ℕ → Kind → List ℕ
name_field name kind = codes " " ++ path_token name ++ slash_of kind

abbrev pub name_fields : List (Vec ℕ Global × Binding) → List ℕ
name_fields names = flat_map (λ entry. name_field entry.0.items entry.1.kind) names

-- the bytes of a file after an equals sign
abbrev pub contents_of : Kind → List ℕ → List ℕ
contents_of File bytes = codes "=" ++ hex_field bytes
contents_of Directory bytes = codes "/"

-- a path of the tree
abbrev pub tree_field : TreeEntry → List ℕ
tree_field entry = codes " " ++ path_token entry.path.items ++ contents_of entry.binding.kind entry.bytes.items

abbrev pub found_line : Kind → ℕ → ℕ → List ℕ
found_line File inode size = codes "found file " ++ decimal inode ++ codes " " ++ decimal size
found_line Directory inode size = codes "found directory " ++ decimal inode

abbrev pub error_word : FsError → List ℕ
error_word errors.Exists = codes "Exists"
error_word errors.NotFound = codes "NotFound"
error_word errors.NotEmpty = codes "NotEmpty"
error_word errors.IsDirectory = codes "IsDirectory"
error_word errors.NotDirectory = codes "NotDirectory"
error_word errors.NameTooLong = codes "NameTooLong"
error_word errors.InvalidName = codes "InvalidName"
error_word errors.TooManyLinks = codes "TooManyLinks"
error_word errors.Stale = codes "Stale"
error_word errors.NoSpace = codes "NoSpace"
error_word errors.Loop = codes "Loop"
error_word errors.Crashed = codes "Crashed"
error_word (errors.Store error) = codes "Store"

abbrev pub error_line : FsError → List ℕ
error_line (errors.Store error) = refusal_line (refusal_of error)
error_line error = codes "error " ++ error_word error

-- A digit for each edit that nothing had settled: 1 if it was kept. If there was none, `-`.
abbrev pub edit_digits : List Bool → List ℕ
edit_digits [] = codes "-"
edit_digits (kept ∷ edits) = choice_digits (kept ∷ edits)

-- some text is appended
pub record Appends (old new : List ℕ) : Type 0 where
  pub added : List ℕ
  pub is : new ≡ old ++ added

-- a reply is appended; of a crash, what follows the digits of the edits isn't said
abbrev pub Prints : Reply → List ℕ → List ℕ → Type 0
Prints Done old new = new ≡ old ++ codes "ok"
Prints (Opened f) old new = new ≡ old ++ codes "opened " ++ decimal (descriptor_number f)
Prints (Inode inode) old new = new ≡ old ++ codes "inode " ++ decimal inode
Prints (Found to size) old new = new ≡ old ++ found_line to.kind to.inode size
Prints (Size size) old new = new ≡ old ++ codes "size " ++ decimal size
Prints (Names names) old new = new ≡ old ++ codes "names" ++ name_fields names.items
Prints (Tree entries) old new = new ≡ old ++ codes "tree" ++ flat_map tree_field entries.items
Prints (Crashed crash) old new = Appends (old ++ codes "crashed " ++ edit_digits crash.edits.items) new
Prints (Refused error) old new = new ≡ old ++ error_line error
