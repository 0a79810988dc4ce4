-- What is done for a line, and what is printed for it.
use Rattle.std.specs.Prelude.{◌≡◌, ◌-◌, ℕ, List, length, min, codes, Option, Some, None, ◌++◌}
use Rattle.blob_script.specs.Replies.{hex_field}
use Rattle.blob_fs.specs.Acts.{Act, Close, Open, Read, Size}
use Rattle.blob_fs.specs.declared.file_system.Descriptor.{Descriptor}
use Rattle.blob_fs.specs.declared.reply.Reply.{Reply}
use Rattle.blob_fs.specs.declared.reply.Reply.TheVariants as replies
use Rattle.blob_file_sessions.specs.Calls.{Makes}
use Rattle.blob_file_sessions.specs.Replies.{last_reply}
use Rattle.blob_file_sessions.specs.declared.kept.KeptFiles.{KeptFiles}
use Rattle.blob_file_scripts.specs.CallLines.{At, File, Numbered, On, Said}
use Rattle.blob_file_scripts.specs.CallLines as said
use Rattle.blob_file_scripts.specs.ReplyLines.{Prints}

-- a call was made, and its reply is the last one
abbrev pub Does : Act → KeptFiles → KeptFiles → Type 0
Does act k k' = Makes k act k' (last_reply k')

-- the last reply is printed
abbrev pub PrintsLast : Option Reply → List ℕ → List ℕ → Type 0
PrintsLast None old new = new ≡ old
PrintsLast (Some reply) old new = Prints reply old new

-- a call whose reply is printed
pub record Shows (act : Act) (k k' : KeptFiles) (old new : List ℕ) : Type 0 where
  pub does : Does act k k'
  pub prints : PrintsLast k'.last old new

-- the bytes of a read of at most `most` bytes are printed, as many as it returned
pub record PrintsBytes (last : Option Reply) (most : ℕ) (old new : List ℕ) : Type 0 where
  pub bytes : List ℕ
  pub count : ℕ
  pub read : last ≡ Some (replies.Size count)
  pub len : length bytes ≡ min count most
  pub is : new ≡ old ++ codes "bytes " ++ hex_field bytes

-- At most this many bytes are read, and those that there are from the offset on. The size is asked first.
pub data Reads (f : Descriptor) (offset len : ℕ) (k k' : KeptFiles) (old new : List ℕ) : Type 0 where
  NoSize : Shows (Size f) k k' old new → Reads f offset len k k' old new
  Refused : (asked : KeptFiles) (size : ℕ) → Does (Size f) k asked → asked.last ≡ Some (replies.Size size)
      → Shows (Read f offset (min len (size - offset))) asked k' old new → Reads f offset len k k' old new
  Done : (asked : KeptFiles) (size : ℕ) → Does (Size f) k asked → asked.last ≡ Some (replies.Size size)
      → Does (Read f offset (min len (size - offset))) asked k' → PrintsBytes k'.last (min len (size - offset)) old new → Reads f offset len k k' old new

-- a call on an open file
abbrev pub OnOpen : Act → KeptFiles → KeptFiles → List ℕ → List ℕ → Type 0
OnOpen (Read f offset len) k k' old new = Reads f offset len k k' old new
OnOpen act k k' old new = Shows act k k' old new

-- A call on the file of a path: it is opened, the call is made, and it is closed. If it can't be opened, that is printed.
pub data OnPath (path : List ℕ) (call : Descriptor → Act) (k k' : KeptFiles) (old new : List ℕ) : Type 0 where
  NotOpened : Shows (Open path) k k' old new → OnPath path call k k' old new
  Opened : (f : Descriptor) (opened made : KeptFiles) → Does (Open path) k opened → opened.last ≡ Some (replies.Opened f)
      → OnOpen (call f) opened made old new → Does (Close f) made k' → OnPath path call k k' old new

abbrev pub Answers : Said → KeptFiles → KeptFiles → List ℕ → List ℕ → Type 0
Answers (said.Makes act) k k' old new = Shows act k k' old new
Answers (On (Numbered f) call) k k' old new = OnOpen (call f) k k' old new
Answers (On (At path) call) k k' old new = OnPath path call k k' old new
