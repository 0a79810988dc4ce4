-- The lines of calls on files.
use Rattle.std.specs.Prelude.{ℕ, List, [], ◌∷◌, Option, Some, None, option_map, codes}
use Rattle.blob_fs.specs.Acts.{Act, Create, Open, OpenTruncated, Unlink, MakeDirectory, RemoveDirectory, ListNames, SyncDirectory, Find, Link, Move, CreateAt, UnlinkAt, MakeDirectoryAt, RemoveDirectoryAt, FindAt, LinkAt, MoveAt, ListAt, SyncDirectoryAt, OpenInode, OpenInodeTruncated, Close, Size, Sync, SyncData, InodeOf, Truncate, Read, Write, SyncAll, Settle, Commit, Crash, Tree, act_of}
use Rattle.blob_fs.specs.declared.file_system.Descriptor.{Descriptor}
use Rattle.blob_fs.specs.declared.renames.Rename.{Rename}
use Rattle.blob_fs.specs.declared.renames.Rename.TheVariants.{Replace, NoReplace, Exchange}
use Rattle.blob_tokens.specs.Forms.{Form, ◌>>=◌, gives, no_form, form_in_table, token, hex, digits}
use Rattle.blob_tokens.specs.Tokens.{number_of}
use Rattle.blob_file_sessions.specs.Kinds.{descriptor}
use Rattle.blob_file_scripts.specs.PathTokens.{path_of}
use Rattle.blob_file_scripts.specs.declared.call.Named.{Named}
use Rattle.blob_file_scripts.specs.declared.call.Named.TheVariants as names
use Rattle.blob_file_scripts.specs.declared.call.Line.{Line}
use Rattle.blob_file_scripts.specs.declared.call.Line.TheVariants as lines
use Rattle.blob_file_scripts.specs.declared.call.OnFile.{OnFile}
use Rattle.blob_file_scripts.specs.declared.call.OnFile.TheVariants as on_file

-- a file: an open one, or by a path
pub data File : Type 0 where
  Numbered : Descriptor → File
  At : List ℕ → File

-- What a line says: a call, or a call on a file. A file by its path is opened before the call, and closed after it.
pub data Said : Type 0 where
  Makes : Act → Said
  On : File → (Descriptor → Act) → Said

abbrev pub path : Form (List ℕ)
path = token path_of

-- a number is that of a descriptor, any other token a path
abbrev pub named : List ℕ → Option ℕ → Option File
named word (Some n) = Some (Numbered (descriptor n))
named word None = option_map At (path_of word)

abbrev pub file : Form File
file = token (λ word. named word (number_of word))

-- what a rename does if the new name is taken, by a last token
abbrev pub how : Form Rename
how [] = Some (Replace, [])
how (word ∷ tokens) = form_in_table ((codes "noreplace", gives NoReplace) ∷ (codes "exchange", gives Exchange) ∷ []) no_form word tokens

-- a directory's number and a name in it
abbrev pub entry : Form (ℕ × List ℕ)
entry = do d ← digits; name ← path; gives (d, name)

abbrev pub moves : Form Act
moves = do from ← entry; to ← entry; taken ← how; gives (MoveAt from.0 from.1 to.0 to.1 taken)

abbrev pub says : Said → Form (Option Said)
says said = gives (Some said)

abbrev pub makes : Act → Form (Option Said)
makes act = says (Makes act)

-- The tokens after the word of a call. If no call has the word, the line says none.

abbrev pub of_all : List ℕ → Form (Option Said)
of_all word = form_in_table (
    (codes "sync", makes SyncAll)
    ∷ (codes "settle", makes Settle)
    ∷ (codes "commit", makes Commit)
    ∷ (codes "crash", makes Crash)
    ∷ (codes "tree", makes Tree) ∷ [])
    (gives None) word

abbrev pub by_number : List ℕ → Form (Option Said)
by_number word = form_in_table (
    (codes "open_inode", do inode ← digits; makes (OpenInode inode))
    ∷ (codes "open_inode_truncated", do inode ← digits; makes (OpenInodeTruncated inode))
    ∷ (codes "listdir_at", do d ← digits; makes (ListAt d))
    ∷ (codes "fsyncdir_at", do d ← digits; makes (SyncDirectoryAt d))
    ∷ (codes "close", do n ← digits; makes (Close (descriptor n)))
    ∷ (codes "inode_of", do n ← digits; makes (InodeOf (descriptor n))) ∷ [])
    (of_all word) word

abbrev pub on_files : List ℕ → Form (Option Said)
on_files word = form_in_table (
    (codes "size", do f ← file; says (On f Size))
    ∷ (codes "fsync", do f ← file; says (On f Sync))
    ∷ (codes "fdatasync", do f ← file; says (On f SyncData))
    ∷ (codes "truncate", do f ← file; length ← digits; says (On f (λ d. Truncate d length)))
    ∷ (codes "read", do f ← file; offset ← digits; len ← digits; says (On f (λ d. Read d offset len)))
    ∷ (codes "write", do f ← file; offset ← digits; bytes ← hex; says (On f (λ d. Write d offset bytes))) ∷ [])
    (by_number word) word

abbrev pub in_directory : List ℕ → Form (Option Said)
in_directory word = form_in_table (
    (codes "create_at", do e ← entry; makes (CreateAt e.0 e.1))
    ∷ (codes "link_at", do inode ← digits; e ← entry; makes (LinkAt inode e.0 e.1))
    ∷ (codes "unlink_at", do e ← entry; makes (UnlinkAt e.0 e.1))
    ∷ (codes "rename_at", do move ← moves; makes move)
    ∷ (codes "mkdir_at", do e ← entry; makes (MakeDirectoryAt e.0 e.1))
    ∷ (codes "rmdir_at", do e ← entry; makes (RemoveDirectoryAt e.0 e.1))
    ∷ (codes "find_at", do e ← entry; makes (FindAt e.0 e.1)) ∷ [])
    (on_files word) word

abbrev pub call : List ℕ → Form (Option Said)
call word = form_in_table (
    (codes "create", do p ← path; makes (Create p))
    ∷ (codes "open", do p ← path; makes (Open p))
    ∷ (codes "open_truncated", do p ← path; makes (OpenTruncated p))
    ∷ (codes "link", do p ← path; to ← path; makes (Link p to))
    ∷ (codes "unlink", do p ← path; makes (Unlink p))
    ∷ (codes "rename", do p ← path; to ← path; taken ← how; makes (Move p to taken))
    ∷ (codes "mkdir", do p ← path; makes (MakeDirectory p))
    ∷ (codes "rmdir", do p ← path; makes (RemoveDirectory p))
    ∷ (codes "listdir", do p ← path; makes (ListNames p))
    ∷ (codes "fsyncdir", do p ← path; makes (SyncDirectory p))
    ∷ (codes "find", do p ← path; makes (Find p)) ∷ [])
    (in_directory word) word

-- What the code's values are.

abbrev pub file_of : Named → File
file_of (names.Descriptor f) = Numbered f
file_of (names.Path p) = At p.now

abbrev pub file_act : OnFile → Descriptor → Act
file_act on_file.Size f = Size f
file_act on_file.Sync f = Sync f
file_act on_file.SyncData f = SyncData f
file_act (on_file.Truncate length) f = Truncate f length
file_act (on_file.Read offset len) f = Read f offset len
file_act (on_file.Write offset bytes) f = Write f offset bytes.now

abbrev pub said_by : Line → Said
said_by (lines.Call c) = Makes (act_of c)
said_by (lines.On f c) = On (file_of f) (file_act c)

-- the tokens of a line
abbrev pub ended : Option (Option Said × List (List ℕ)) → Option (Option Said)
ended (Some (None, tokens)) = Some None
ended (Some (Some said, [])) = Some (Some said)
ended (Some (Some said, token ∷ tokens)) = None
ended None = None

abbrev pub said_of : List (List ℕ) → Option (Option Said)
said_of [] = Some None
said_of (word ∷ tokens) = ended (call word tokens)
