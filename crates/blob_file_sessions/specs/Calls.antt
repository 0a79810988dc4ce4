-- Calls on files, by the status that they return. If no call was made, nothing has changed.
use Rattle.std.specs.Prelude.{◌≡◌, ◌⊎◌, ◌++◌, ℕ, List, true, Some, MatchOption, is_some, slice_get}
use Rattle.blob_lab_model.specs.Scripted.{scripted_stream}
use Rattle.blob_tree.specs.WordsLeft.{EndsAfter}
use Rattle.blob_fs.specs.Files.{KeepsNames, generator_of, journaled_of}
use Rattle.blob_journal.specs.Settling.{unsettled_of}
use Rattle.blob_sessions.specs.Sessions.{stopped}
use Rattle.blob_statuses.specs.declared.ran.TheConstants.{BAD_CALL, BAD_LINE, DONE, ENDLESS, NO_MEMORY, OTHER_REPLY}
use Rattle.blob_statuses.specs.declared.ran.Ran.{Ran}
use Rattle.blob_fs.specs.Acts.{Act, Read, Write}
use Rattle.blob_fs.specs.Performs.{Performs}
use Rattle.blob_file_sessions.specs.Held.{fs_of}
use Rattle.blob_file_sessions.specs.Kinds.{call_of, descriptor}
use Rattle.blob_file_sessions.specs.LastParts.{one_if}
use Rattle.blob_file_sessions.specs.Replies.{file_reply, no_reply}
use Rattle.blob_file_sessions.specs.declared.call.FileCall.{FileCall}
use Rattle.blob_file_sessions.specs.declared.call.FileReply.{FileReply}
use Rattle.blob_file_sessions.specs.declared.kept.KeptFiles.{KeptFiles}
use Rattle.blob_fs.specs.declared.reply.Reply.{Reply}

-- a call was made, its reply is kept, and these are the numbers of that
pub record Makes (k : KeptFiles) (act : Act) (k' : KeptFiles) (numbers : FileReply) : Type 0 where
  pub reply : Reply
  pub does : Performs act reply (fs_of k) (fs_of k')
  pub last : k'.last ≡ Some reply
  pub is : numbers ≡ file_reply reply

-- a call by its kind, numbers and paths; if there is no such call, none was made
abbrev pub Answers : KeptFiles → FileCall → List ℕ → List ℕ → KeptFiles → FileReply → Type 0
Answers k asked path to k' numbers =
    MatchOption (call_of asked path to) ((numbers ≡ no_reply BAD_CALL) × (k' ≡ k)) (λ act. Makes k act k' numbers)

-- a write through a descriptor's number
pub record Writes (k : KeptFiles) (n offset : ℕ) (bytes : List ℕ) (k' : KeptFiles) (status : ℕ) : Type 0 where
  pub numbers : FileReply
  pub makes : Makes k (Write (descriptor n) offset bytes) k' numbers
  pub is : status ≡ numbers.status

-- A read of at most `most` bytes through a descriptor's number. It returns how many were read; none if it was refused.
pub record Reads (k : KeptFiles) (n offset most : ℕ) (k' : KeptFiles) (ran : Ran) : Type 0 where
  pub numbers : FileReply
  pub makes : Makes k (Read (descriptor n) offset most) k' numbers
  pub status : ran.status ≡ numbers.status
  pub len : ran.len ≡ numbers.size

-- a setting
pub record Configures (k k' : KeptFiles) (status : ℕ) : Type 0 where
  pub names : KeepsNames (fs_of k) (fs_of k')
  pub bad_line : status ≡ BAD_LINE → k' ≡ k
  pub no_memory : status ≡ NO_MEMORY → k' ≡ k
  pub last : k'.last ≡ k.last
  pub known : (status ≡ DONE) ⊎ (status ≡ BAD_LINE) ⊎ (status ≡ NO_MEMORY)

-- whether the log of the syncs follows an unsettled edit
abbrev pub TellsFollowed : KeptFiles → ℕ → Ran → Type 0
TellsFollowed k index ran =
    MatchOption (slice_get (unsettled_of (journaled_of (fs_of k))) index) (ran ≡ stopped OTHER_REPLY)
    (λ edit. ran ≡ record { status = DONE; len = one_if edit.is_followed })

-- `len` words are left, after which all words are zero; or a seed gives the words after them
pub record TellsFileWords (k : KeptFiles) (ran : Ran) : Type 0 where
  pub done : ran.status ≡ DONE → EndsAfter (scripted_stream (generator_of (fs_of k))) ran.len
  pub endless : ran.status ≡ ENDLESS → (ran.len ≡ 0) × (is_some (generator_of (fs_of k)).1 ≡ true)
  pub status : (ran.status ≡ DONE) ⊎ (ran.status ≡ ENDLESS)

-- these words come next; the rest stays as it is
pub record TakesWords (k k' : KeptFiles) (words : List ℕ) (status : ℕ) : Type 0 where
  pub done : status ≡ DONE → (generator_of (fs_of k')).0 ≡ words ++ (generator_of (fs_of k)).0
  pub seed : (generator_of (fs_of k')).1 ≡ (generator_of (fs_of k)).1
  pub names : KeepsNames (fs_of k) (fs_of k')
  pub no_memory : status ≡ NO_MEMORY → k' ≡ k
  pub known : (status ≡ DONE) ⊎ (status ≡ NO_MEMORY)
