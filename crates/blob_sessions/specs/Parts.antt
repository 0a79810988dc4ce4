-- The parts of the last reply: the names of a scan, and the bytes that a crash kept.
use Rattle.std.specs.Prelude.{◌≡◌, ◌⊎◌, ◌<◌, ◌+◌, ℕ, List, [], Bool, not, min, length, take, drop, position, unwrap_or, slice_get, Option, Some, None, option_map, MatchOption, Vec}
use Rattle.std.specs.Global.{Global}
use Rattle.std.specs.Str.{bytes_eq}
use Rattle.blob_script.specs.declared.reply.Reply.{Reply}
use Rattle.blob_script.specs.declared.reply.Reply.TheVariants.{Crashed, Names}
use Rattle.blob_draws.specs.Rows.{row_in, rows_of}
use Rattle.blob_model.specs.Draws.{Row}
use Rattle.blob_sessions.specs.Sessions.{Inspects, IsClosed, stopped}
use Rattle.blob_sessions.specs.declared.parts.KeptRun.{KeptRun}
use Rattle.blob_statuses.specs.declared.ran.Ran.{Ran}
use Rattle.blob_sessions.specs.declared.session.Session.{Session}
use Rattle.blob_statuses.specs.declared.ran.TheConstants.{DONE, NO_ROOM, OTHER_REPLY}

-- the names and the rows of the last reply; of another reply, and before the first call, none
abbrev pub names_in : Reply → List (Vec ℕ Global)
names_in (Names names) = names.items
names_in reply = []

abbrev pub rows_in : Reply → List (ℕ × Vec Bool Global)
rows_in (Crashed selections) = rows_of selections
rows_in reply = []

abbrev pub last_names : Option Reply → List (Vec ℕ Global)
last_names None = []
last_names (Some reply) = names_in reply

abbrev pub last_rows : Option Reply → List (ℕ × Vec Bool Global)
last_rows None = []
last_rows (Some reply) = rows_in reply

abbrev pub name_at : Option Reply → ℕ → Option (List ℕ)
name_at last index = option_map (λ name. name.items) (slice_get (last_names last) index)

abbrev pub row_at : Option Reply → ℕ → Option Row
row_at last index = option_map row_in (slice_get (last_rows last) index)

abbrev pub index_of : List ℕ → List (Vec ℕ Global) → Option ℕ
index_of name names = position (λ other. bytes_eq other.items name) names

-- bytes are copied to the start of the caller's, if they fit
pub record CopiesBytes (bytes : List ℕ) (ran : Ran) (old new : List ℕ) : Type 0 where
  pub done : ran.status ≡ DONE → take ran.len new ≡ bytes
  pub no_room : ran.status ≡ NO_ROOM → (length old < ran.len) × (new ≡ old)
  pub status : (ran.status ≡ DONE) ⊎ (ran.status ≡ NO_ROOM)
  pub len : ran.len ≡ length bytes
  pub after : drop ran.len new ≡ drop ran.len old

-- a name of the last reply, if it has one with this index
abbrev pub CopiesName : Option Reply → ℕ → Ran → List ℕ → List ℕ → Type 0
CopiesName last index ran old new =
    MatchOption (name_at last index) ((ran ≡ stopped OTHER_REPLY) × (new ≡ old)) (λ name. CopiesBytes name ran old new)

-- the same of a session, which stays as it is
abbrev pub CopiesNameFrom : Session → Session → ℕ → Ran → List ℕ → List ℕ → Type 0
CopiesNameFrom before after index ran old new = Inspects before after (λ k. CopiesName k.last index ran old new) (IsClosed ran old new)

-- the index of a name in the last reply, if it has this name
abbrev pub FindsName : Option Reply → List ℕ → Ran → Type 0
FindsName last name ran =
    MatchOption (index_of name (last_names last)) (ran ≡ stopped OTHER_REPLY) (λ index. ran ≡ record { status = DONE; len = index })

abbrev pub first_kept : List Bool → Option ℕ
first_kept choices = position (λ kept. kept) choices

abbrev pub first_lost : List Bool → Option ℕ
first_lost choices = position (λ kept. not kept) choices

-- how many bytes come before the first kept one, and before the first lost one
abbrev pub lost_prefix : List Bool → ℕ
lost_prefix choices = unwrap_or (first_kept choices) (length choices)

abbrev pub kept_prefix : List Bool → ℕ
kept_prefix choices = unwrap_or (first_lost choices) (length choices)

-- the first run of kept bytes at or after an index
abbrev pub run_from : ℕ → Row → KeptRun
run_from from row =
    let first = min from (length row.1) in let start = first + lost_prefix (drop first row.1) in
    record { status = DONE; write = row.0; bytes = length row.1; start = start; len = kept_prefix (drop start row.1) }

abbrev pub no_run : ℕ → KeptRun
no_run status = record { status = status; write = 0; bytes = 0; start = 0; len = 0 }

-- of a row of the last reply, if it has this row
abbrev pub FindsRun : Option Reply → ℕ → ℕ → KeptRun → Type 0
FindsRun last index from run = MatchOption (row_at last index) (run ≡ no_run OTHER_REPLY) (λ row. run ≡ run_from from row)
