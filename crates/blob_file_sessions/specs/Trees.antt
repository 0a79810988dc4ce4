-- The paths of the last reply, a tree, and the durable bytes of a file.
use Rattle.std.specs.Prelude.{◌≡◌, ◌⊎◌, ℕ, List, [], Option, Some, MatchOption, length, slice_get}
use Rattle.blob_fs.specs.Files.{durable_of}
use Rattle.blob_fs.specs.declared.error.FsError.{FsError}
use Rattle.blob_fs.specs.declared.whole.TreeEntry.{TreeEntry}
use Rattle.blob_sessions.specs.Parts.{CopiesBytes}
use Rattle.blob_sessions.specs.Sessions.{stopped}
use Rattle.blob_statuses.specs.declared.ran.Ran.{Ran}
use Rattle.blob_statuses.specs.declared.ran.TheConstants.{DONE, OTHER_REPLY}
use Rattle.blob_file_sessions.specs.Held.{fs_of}
use Rattle.blob_file_sessions.specs.LastParts.{of_last}
use Rattle.blob_file_sessions.specs.Replies.{bound_reply, file_status, no_reply}
use Rattle.blob_file_sessions.specs.declared.call.FileReply.{FileReply}
use Rattle.blob_file_sessions.specs.declared.kept.KeptFiles.{KeptFiles}
use Rattle.blob_fs.specs.declared.reply.Reply.{Reply}
use Rattle.blob_fs.specs.declared.reply.Reply.TheVariants as replies

-- the paths of a reply with their bindings and bytes; of another reply none
abbrev pub paths_in : Reply → List TreeEntry
paths_in (replies.Tree entries) = entries.items
paths_in reply = []

-- a path is copied, if the last reply has one with this index and it fits. The numbers are those of its binding
abbrev pub CopiesPath : Option Reply → ℕ → FileReply → List ℕ → List ℕ → Type 0
CopiesPath last index reply old new =
    MatchOption (slice_get (of_last paths_in last) index) ((reply ≡ no_reply OTHER_REPLY) × (new ≡ old))
    (λ entry. CopiesBytes entry.path.items (record { status = reply.status; len = reply.size }) old new × (reply ≡ bound_reply entry.binding reply.status reply.size))

-- what it is bound to, with the size of its bytes
abbrev pub TellsPath : Option Reply → ℕ → FileReply → Type 0
TellsPath last index reply =
    MatchOption (slice_get (of_last paths_in last) index) (reply ≡ no_reply OTHER_REPLY) (λ entry. reply ≡ bound_reply entry.binding DONE (length entry.bytes.items))

-- these are durable bytes of a file's number
pub record IsDurable (k : KeptFiles) (inode : ℕ) (ran : Ran) (old new : List ℕ) : Type 0 where
  pub bytes : List ℕ
  pub durable : durable_of (fs_of k) inode ≡ Some bytes
  pub copied : CopiesBytes bytes ran old new

-- a refusal, which copies nothing
pub record IsRefused (ran : Ran) (old new : List ℕ) : Type 0 where
  pub error : FsError
  pub status : ran ≡ stopped (file_status error)
  pub same : new ≡ old

-- they are copied, if there are some and they fit
abbrev pub CopiesDurable : KeptFiles → ℕ → Ran → List ℕ → List ℕ → Type 0
CopiesDurable k inode ran old new = IsDurable k inode ran old new ⊎ IsRefused ran old new
