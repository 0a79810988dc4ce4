-- What an exported call does with files: open ones stay open, and closed ones closed.
use Rattle.std.specs.Prelude.{◌≡◌, ℕ, List, Option, Some, None, length}
use Rattle.blob_sessions.specs.Sessions.{stopped}
use Rattle.blob_statuses.specs.declared.ran.Ran.{Ran}
use Rattle.blob_statuses.specs.declared.ran.TheConstants.{CLOSED}
use Rattle.blob_file_sessions.specs.Calls.{Configures, TakesWords}
use Rattle.blob_file_sessions.specs.Held.{files_of}
use Rattle.blob_file_sessions.specs.LastParts.{CopiesEntry}
use Rattle.blob_file_sessions.specs.Replies.{no_reply}
use Rattle.blob_file_sessions.specs.Supplies.{AnswersSupplied, ReadsSupplied, WritesSupplied}
use Rattle.blob_file_sessions.specs.Trees.{CopiesDurable, CopiesPath}
use Rattle.blob_file_sessions.specs.declared.call.FileCall.{FileCall}
use Rattle.blob_file_sessions.specs.declared.call.FileReply.{FileReply}
use Rattle.blob_file_sessions.specs.declared.files.Files.{Files}
use Rattle.blob_file_sessions.specs.declared.kept.KeptFiles.{KeptFiles}

-- what was held and is: open files stay open, and closed ones closed
abbrev pub OnHeld : Option KeptFiles → Option KeptFiles → (KeptFiles → KeptFiles → Type 0) → Type 0 → Type 0
OnHeld None None Open Closed = Closed
OnHeld (Some k) (Some k') Open Closed = Open k k'
OnHeld old new Open Closed = ⊥

-- what holds of open files, and of closed ones
abbrev pub OnFiles : Files → Files → (KeptFiles → KeptFiles → Type 0) → Type 0 → Type 0
OnFiles before after Open Closed = OnHeld (files_of before) (files_of after) Open Closed

-- open files are only read
abbrev pub ReadsFiles : Files → Files → (KeptFiles → Type 0) → Type 0 → Type 0
ReadsFiles before after Open Closed = OnFiles before after (λ k k'. (k' ≡ k) × Open k) Closed

-- a call by its kind, numbers and paths
abbrev pub AnswersCall : Files → FileCall → List ℕ → List ℕ → Files → FileReply → Type 0
AnswersCall before asked path to after reply = OnFiles before after (λ k k'. AnswersSupplied k asked path to k' reply) (reply ≡ no_reply CLOSED)

abbrev pub MakesSetting : Files → Files → ℕ → Type 0
MakesSetting before after status = OnFiles before after (λ k k'. Configures k k' status) (status ≡ CLOSED)

-- a write of these bytes
abbrev pub WritesBytes : Files → ℕ → ℕ → List ℕ → Files → ℕ → Type 0
WritesBytes before n offset bytes after status = OnFiles before after (λ k k'. WritesSupplied k n offset bytes k' status) (status ≡ CLOSED)

-- a read into a buffer
abbrev pub ReadsInto : Files → ℕ → ℕ → List ℕ → List ℕ → Files → Ran → Type 0
ReadsInto before n offset old new after ran =
    OnFiles before after (λ k k'. ReadsSupplied k n offset old new k' ran) ((ran ≡ stopped CLOSED) × (new ≡ old))

-- the name of an entry of the last reply
abbrev pub CopiesEntryFrom : Files → Files → ℕ → FileReply → List ℕ → List ℕ → Type 0
CopiesEntryFrom before after index reply old new =
    ReadsFiles before after (λ k. CopiesEntry k.last index reply old new) ((reply ≡ no_reply CLOSED) × (new ≡ old))

-- a path of the last reply
abbrev pub CopiesPathFrom : Files → Files → ℕ → FileReply → List ℕ → List ℕ → Type 0
CopiesPathFrom before after index reply old new =
    ReadsFiles before after (λ k. CopiesPath k.last index reply old new) ((reply ≡ no_reply CLOSED) × (new ≡ old))

-- the durable bytes of a file
abbrev pub CopiesDurableFrom : Files → Files → ℕ → Ran → List ℕ → List ℕ → Type 0
CopiesDurableFrom before after inode ran old new =
    ReadsFiles before after (λ k. CopiesDurable k inode ran old new) ((ran ≡ stopped CLOSED) × (new ≡ old))

abbrev pub InsertsFileWords : Files → Files → List ℕ → ℕ → Type 0
InsertsFileWords before after words status = OnFiles before after (λ k k'. TakesWords k k' words status) (status ≡ CLOSED)
