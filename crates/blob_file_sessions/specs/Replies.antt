-- Replies of calls on files in numbers.
use Rattle.std.specs.Prelude.{ℕ, Option, Some, None, length}
use Rattle.blob_header.specs.Refusals.{refusal_of}
use Rattle.blob_draws.specs.Rows.{rows_of}
use Rattle.blob_fs.specs.Files.{descriptor_number}
use Rattle.blob_directory.specs.declared.edit.Binding.{Binding}
use Rattle.blob_directory.specs.declared.edit.Kind.{Kind}
use Rattle.blob_directory.specs.declared.edit.Kind.TheVariants.{File, Directory}
use Rattle.blob_fs.specs.declared.crash.Place.{Place}
use Rattle.blob_fs.specs.declared.error.FsError.{FsError}
use Rattle.blob_fs.specs.declared.error.FsError.TheVariants.{Exists, NotFound, NotEmpty, IsDirectory, NotDirectory, NameTooLong, InvalidName, TooManyLinks, Stale, NoSpace, Loop, Crashed, Store}
use Rattle.blob_statuses.specs.Statuses.{refusal_status}
use Rattle.blob_statuses.specs.declared.ran.TheConstants.{DONE}
use Rattle.blob_file_sessions.specs.declared.call.FileReply.{FileReply}
use Rattle.blob_file_sessions.specs.declared.kept.KeptFiles.{KeptFiles}
use Rattle.blob_file_sessions.specs.declared.refusals.TheConstants.{EXISTS, NOT_FOUND, NOT_EMPTY, IS_DIRECTORY, NOT_DIRECTORY, NAME_TOO_LONG, INVALID_NAME, TOO_MANY_LINKS, STALE, NO_SPACE, LOOP, CRASHED}
use Rattle.blob_fs.specs.declared.reply.Reply.{Reply}
use Rattle.blob_fs.specs.declared.reply.Reply.TheVariants as replies

-- the status of a refusal; those of the layer keep their numbers
abbrev pub file_status : FsError → ℕ
file_status Exists = EXISTS
file_status NotFound = NOT_FOUND
file_status NotEmpty = NOT_EMPTY
file_status IsDirectory = IS_DIRECTORY
file_status NotDirectory = NOT_DIRECTORY
file_status NameTooLong = NAME_TOO_LONG
file_status InvalidName = INVALID_NAME
file_status TooManyLinks = TOO_MANY_LINKS
file_status Stale = STALE
file_status NoSpace = NO_SPACE
file_status Loop = LOOP
file_status Crashed = CRASHED
file_status (Store error) = refusal_status (refusal_of error)

abbrev pub kind_number : Kind → ℕ
kind_number File = 0
kind_number Directory = 1

abbrev pub no_reply : ℕ → FileReply
no_reply status = record { status = status; kind = 0; number = 0; size = 0 }

abbrev pub numbered : ℕ → ℕ → FileReply
numbered number size = record { status = DONE; kind = 0; number = number; size = size }

-- what a name is bound to, with a status and a size
abbrev pub bound_reply : Binding → ℕ → ℕ → FileReply
bound_reply binding status size = record { status = status; kind = kind_number binding.kind; number = binding.inode; size = size }

-- where a pending write was; an edit has the inode 0
abbrev pub inode_or_zero : Option ℕ → ℕ
inode_or_zero None = 0
inode_or_zero (Some inode) = inode

abbrev pub place_reply : Place → FileReply
place_reply place = numbered (inode_or_zero place.inode) place.offset

abbrev pub file_reply : Reply → FileReply
file_reply replies.Done = no_reply DONE
file_reply (replies.Opened descriptor) = numbered (descriptor_number descriptor) 0
file_reply (replies.Inode inode) = numbered inode 0
file_reply (replies.Found binding size) = bound_reply binding DONE size
file_reply (replies.Size size) = numbered 0 size
file_reply (replies.Names names) = numbered 0 (length names.items)
file_reply (replies.Tree entries) = numbered 0 (length entries.items)
file_reply (replies.Crashed crash) = numbered (length crash.edits.items) (length (rows_of crash.rows))
file_reply (replies.Refused error) = no_reply (file_status error)

-- the reply to the last call; before the first call nothing
abbrev pub last_numbers : Option Reply → FileReply
last_numbers None = no_reply DONE
last_numbers (Some reply) = file_reply reply

abbrev pub last_reply : KeptFiles → FileReply
last_reply k = last_numbers k.last
