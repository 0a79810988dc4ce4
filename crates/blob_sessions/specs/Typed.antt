-- Calls and replies in numbers.
use Rattle.std.specs.Prelude.{◌≡◌, ◌⊎◌, ◌==◌, ◌&&◌, ◌∷◌, ◌++◌, [], ℕ, List, false, nat_lt, if◌then◌else◌, Option, Some, None, option_map, IsUtf8, length}
use Rattle.blob_script.specs.Acts as acts
use Rattle.blob_script.specs.Acts.{AcceptedVersions, Act, Through, accepted_versions}
use Rattle.blob_script.specs.declared.reply.Reply.{Reply}
use Rattle.blob_script.specs.declared.reply.Reply.TheVariants.{Done, Opened, Bytes, Size, Names, Started, Crashed, Failed, NoHandle, EmptyRange}
use Rattle.blob_draws.specs.Rows.{rows_of}
use Rattle.blob_header.specs.Refusals.{refusal_of}
use Rattle.blob_statuses.specs.Statuses.{refusal_status}
use Rattle.blob_sessions.specs.declared.kinds.TheConstants.{OPEN, OPEN_LOOSE, ADMIT, CLOSE, RESIZE, SIZE, SYNC, START_SYNC, FINISH, REMOVE_BLOB, REMOVE_PARTITION, SCAN, CRASH, REOPEN}
use Rattle.blob_statuses.specs.declared.ran.TheConstants.{DONE}
use Rattle.blob_statuses.specs.declared.refusals.TheConstants.{EMPTY_RANGE, NO_HANDLE}
use Rattle.blob_sessions.specs.declared.typed.TypedCall.{TypedCall}
use Rattle.blob_sessions.specs.declared.typed.TypedReply.{TypedReply}

-- the versions that an open accepts, if both fit in 16 bits
abbrev pub typed_versions : TypedCall → Option (Option AcceptedVersions)
typed_versions asked = if nat_lt asked.first 65536 && nat_lt asked.last 65536 then Some (accepted_versions false asked.first asked.last) else None

-- the call in the row of this kind
abbrev pub by_kind : {T : Type 0} → ℕ → List (ℕ × Option T) → Option T
by_kind kind [] = None
by_kind kind (row ∷ rows) = if kind == row.0 then row.1 else by_kind kind rows

-- calls by partition and name
abbrev pub named_acts : TypedCall → List ℕ → List ℕ → List (ℕ × Option Act)
named_acts asked partition name =
    (OPEN, option_map (acts.Open partition name) (typed_versions asked))
    ∷ (OPEN_LOOSE, option_map (acts.OpenLoose partition name) (typed_versions asked))
    ∷ (ADMIT, Some (acts.Admit partition name))
    ∷ (REMOVE_BLOB, Some (acts.Remove partition (Some name)))
    ∷ (REMOVE_PARTITION, Some (acts.Remove partition None))
    ∷ (SCAN, Some (acts.Scan partition))
    ∷ []

-- calls that have numbers alone
abbrev pub numbered_acts : TypedCall → List (ℕ × Option Act)
numbered_acts asked =
    (CLOSE, Some (acts.Close asked.number))
    ∷ (RESIZE, Some (Through asked.number (acts.Resize asked.first)))
    ∷ (SIZE, Some (Through asked.number acts.Size))
    ∷ (SYNC, Some (Through asked.number acts.Sync))
    ∷ (START_SYNC, Some (Through asked.number acts.StartSync))
    ∷ (FINISH, Some (acts.Finish asked.number))
    ∷ (CRASH, Some acts.Crash)
    ∷ (REOPEN, Some acts.Reopen)
    ∷ []

abbrev pub typed_act : TypedCall → List ℕ → List ℕ → Option Act
typed_act asked partition name = by_kind asked.kind (named_acts asked partition name ++ numbered_acts asked)

-- a call by partition and name, and not through a handle
abbrev pub IsNamed : ℕ → Type 0
IsNamed kind = (kind ≡ OPEN) ⊎ (kind ≡ OPEN_LOOSE) ⊎ (kind ≡ ADMIT) ⊎ (kind ≡ REMOVE_BLOB) ⊎ (kind ≡ REMOVE_PARTITION) ⊎ (kind ≡ SCAN)

-- one that opens a blob
abbrev pub IsOpen : ℕ → Type 0
IsOpen kind = (kind ≡ OPEN) ⊎ (kind ≡ OPEN_LOOSE)

abbrev pub IsNoTypedCall : TypedCall → List ℕ → List ℕ → Type 0
IsNoTypedCall asked partition name = (typed_act asked partition name ≡ None) ⊎ ¬ (IsUtf8 partition)

abbrev pub without_reply : ℕ → TypedReply
without_reply status = record { status = status; version = 0; number = 0; size = 0 }

abbrev pub sized : ℕ → TypedReply
sized size = record { status = DONE; version = 0; number = 0; size = size }

abbrev pub typed_reply : Reply → TypedReply
typed_reply Done = without_reply DONE
typed_reply (Opened handle size version) = record { status = DONE; version = version.0; number = handle; size = size }
typed_reply (Bytes bytes) = sized (length bytes.items)
typed_reply (Size size) = sized size
typed_reply (Names names) = sized (length names.items)
typed_reply (Started number) = record { status = DONE; version = 0; number = number; size = 0 }
typed_reply (Crashed selections) = sized (length (rows_of selections))
typed_reply (Failed error) = without_reply (refusal_status (refusal_of error))
typed_reply NoHandle = without_reply NO_HANDLE
typed_reply EmptyRange = without_reply EMPTY_RANGE

-- the reply to the last call; before the first call nothing
abbrev pub last_reply : Option Reply → TypedReply
last_reply None = without_reply DONE
last_reply (Some reply) = typed_reply reply
