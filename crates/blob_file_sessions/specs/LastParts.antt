-- The parts of the last reply: the names of a list, and what a crash kept.
use Rattle.std.specs.Prelude.{◌≡◌, ℕ, List, [], Bool, true, false, Option, None, Some, option_map, MatchOption, slice_get, Vec}
use Rattle.std.specs.Global.{Global}
use Rattle.blob_draws.specs.Rows.{row_in, rows_of}
use Rattle.blob_model.specs.Draws.{Row}
use Rattle.blob_directory.specs.declared.edit.Binding.{Binding}
use Rattle.blob_fs.specs.declared.crash.Place.{Place}
use Rattle.blob_sessions.specs.Parts.{CopiesBytes, no_run, run_from}
use Rattle.blob_sessions.specs.Sessions.{stopped}
use Rattle.blob_sessions.specs.declared.parts.KeptRun.{KeptRun}
use Rattle.blob_statuses.specs.declared.ran.Ran.{Ran}
use Rattle.blob_statuses.specs.declared.ran.TheConstants.{DONE, OTHER_REPLY}
use Rattle.blob_file_sessions.specs.Replies.{bound_reply, no_reply, place_reply}
use Rattle.blob_file_sessions.specs.declared.call.FileReply.{FileReply}
use Rattle.blob_fs.specs.declared.reply.Reply.{Reply}
use Rattle.blob_fs.specs.declared.reply.Reply.TheVariants as replies

-- the names, the rows, the edits and the places of a reply; of another reply none
abbrev pub names_in : Reply → List (Vec ℕ Global × Binding)
names_in (replies.Names names) = names.items
names_in reply = []

abbrev pub rows_in : Reply → List (ℕ × Vec Bool Global)
rows_in (replies.Crashed crash) = rows_of crash.rows
rows_in reply = []

abbrev pub edits_in : Reply → List Bool
edits_in (replies.Crashed crash) = crash.edits.items
edits_in reply = []

abbrev pub places_in : Reply → List Place
places_in (replies.Crashed crash) = crash.places.items
places_in reply = []

-- those of the last reply; before the first call none
abbrev pub of_last : {T : Type 0} → (Reply → List T) → Option Reply → List T
of_last parts None = []
of_last parts (Some reply) = parts reply

-- a name of the last reply is copied, if it has one with this index and it fits. The numbers are those of its binding
abbrev pub CopiesEntry : Option Reply → ℕ → FileReply → List ℕ → List ℕ → Type 0
CopiesEntry last index reply old new =
    MatchOption (slice_get (of_last names_in last) index) ((reply ≡ no_reply OTHER_REPLY) × (new ≡ old))
    (λ entry. CopiesBytes entry.0.items (record { status = reply.status; len = reply.size }) old new × (reply ≡ bound_reply entry.1 reply.status reply.size))

-- the first run of kept bytes of a row at or after an index
abbrev pub FindsRow : Option Reply → ℕ → ℕ → KeptRun → Type 0
FindsRow last index from run =
    MatchOption (option_map row_in (slice_get (of_last rows_in last) index)) (run ≡ no_run OTHER_REPLY) (λ row. run ≡ run_from from row)

-- where the write of a row was
abbrev pub TellsPlace : Option Reply → ℕ → FileReply → Type 0
TellsPlace last index reply =
    MatchOption (slice_get (of_last places_in last) index) (reply ≡ no_reply OTHER_REPLY) (λ place. reply ≡ place_reply place)

abbrev pub one_if : Bool → ℕ
one_if true = 1
one_if false = 0

-- whether an edit was kept
abbrev pub TellsEdit : Option Reply → ℕ → Ran → Type 0
TellsEdit last index ran =
    MatchOption (slice_get (of_last edits_in last) index) (ran ≡ stopped OTHER_REPLY) (λ is_kept. ran ≡ record { status = DONE; len = one_if is_kept })
