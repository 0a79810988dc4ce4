-- The reply to a call of a laboratory, and the rest of the generator's stream.
use Rattle.std.specs.Prelude.{◌≡◌, ◌⊎◌, ℕ, ◌-◌, ◌^◌, ◌==◌, Bool, true, false, ◌&&◌, if◌then◌else◌, List, length, take, drop, Option, Some, None, is_some, is_none, slice_get, option_and_then, IsTrue}
use Rattle.std.specs.Option.{option_or}
use Rattle.rand_core.specs.Stream.{Stream}
use Rattle.blob_model.specs.Draws.{draw_rows}
use Rattle.blob_model.specs.Files.{Files, all_needs, durable_at}
use Rattle.blob_model.specs.Rates.{Rate}
use Rattle.blob_model.specs.Opening.{Opening, Continues, Begins, Declines, opening, place_of}
use Rattle.blob_header.specs.Refusals.{Refusal, Memory, Injected, GenerationsExhausted, BlobAlreadyOpen}
use Rattle.hex.specs.Hex.{encode_lower}
use Rattle.blob_draws.specs.Changes.{lacks_number}
use Rattle.blob_draws.specs.Faults.{draw, retention, write_fate, resize_fate}
use Rattle.blob_script.specs.declared.reply.Reply.{Reply}
use Rattle.blob_script.specs.Acts.{Ask, Read, Write, Resize, Size, Sync, StartSync, AcceptedVersions, Act, Open, OpenLoose, Close, Through, Finish, Remove, Scan, Crash}
use Rattle.blob_lab_model.specs.Denials.{refused_if, fate_denial, reaching_denial}
use Rattle.blob_lab_model.specs.States.{State, Held}
use Rattle.blob_memory.specs.Answers.{read_refusal, sync_refusal, open_refusal, partition_refusal, remove_refusal}
use Rattle.blob_script.specs.Told as told
use Rattle.blob_script.specs.Told.{Told, Tells, refused_by}

-- the error if there is one, otherwise this reply
abbrev pub unless_denied : Option Refusal → Told → Told
unless_denied None otherwise = otherwise
unless_denied (Some refusal) otherwise = told.Failed refusal

-- a call that draws one rate: `Injected` if the draw is true, otherwise the error if there is one, otherwise this
-- reply; and the rest of the stream
abbrev pub unless_drawn : State → Option Rate → Option Refusal → Told → Told × Stream
unless_drawn v rate refusal otherwise = let d = draw rate v.stream in (unless_denied (option_or (refused_if Injected d.0) refusal) otherwise, d.1)

-- the slot with this number, if it exists and isn't empty
abbrev pub kept_at : {X : Type 0} → List (Option X) → ℕ → Option X
kept_at slots number = option_and_then (λ slot. slot) (slice_get slots number)

-- Through a handle.

-- the reply and the rest of the stream; the outcome of a started sync is returned when it is finished
abbrev pub through : State → Option Held → Ask → Told × Stream
through v None ask = (told.NoHandle, v.stream)
through v (Some h) (Read offset len) = unless_drawn v v.config.read_rate (read_refusal h.place h.live offset len) (told.Bytes (take len (drop offset h.live)))
through v (Some h) (Write offset bytes sync) =
    let d = write_fate v.config sync offset bytes v.stream in
    let unnumbered = refused_if GenerationsExhausted (lacks_number (is_some (retention v.config.write_rate)) v.files.next_write bytes) in
    (unless_denied (fate_denial d.0 v.files.directory h.place unnumbered sync offset bytes) told.Done, d.1)
through v (Some h) (Resize len) =
    let d = resize_fate v.config.resize_rate h.size len v.stream in (unless_denied (reaching_denial d.0 h.place len) told.Done, d.1)
through v (Some h) Size = (told.Size h.size, v.stream)
through v (Some h) Sync = unless_drawn v v.config.sync_rate (sync_refusal v.files.directory h.place) told.Done
through v (Some h) StartSync = (told.Started (length v.syncs), (draw v.config.sync_rate v.stream).1)

-- An open.

-- the version that an open returns
abbrev pub opened_version : Opening → ℕ
opened_version (Continues number layout version) = version
opened_version (Begins layout version live) = version
opened_version (Declines refusal) = 0

-- the number of bytes of the opened handle
abbrev pub opened_size : Files → List ℕ → List ℕ → Opening → ℕ
opened_size f p n (Continues number layout version) = length (durable_at f (place_of p n number layout))
opened_size f p n (Begins layout version live) = length live
opened_size f p n (Declines refusal) = 0

abbrev pub told_opened : State → List ℕ → List ℕ → AcceptedVersions → Told
told_opened v p n (first, last) =
    let found = opening p n (v.files.directory.file p n) first last in told.Opened (length v.handles) (opened_size v.files p n found) (opened_version found)

-- Any call.

-- without a number for an exclusive open, the store isn't called; `BlobAlreadyOpen` comes after the store's open
abbrev pub answer : State → Act → Told × Stream
answer v (Open p n None) = (told.EmptyRange, v.stream)
answer v (Open p n (Some (first, last))) =
    if is_none (v.names.registered p n) && (v.names.next == 2 ^ 64 - 1) then (told.Failed GenerationsExhausted, v.stream)
    else (let already = refused_if (BlobAlreadyOpen p (encode_lower n)) (is_some (v.names.registered p n)) in
    unless_drawn v v.config.open_rate (option_or (open_refusal v.files.directory p n first last) already) (told_opened v p n (first, last)))
answer v (OpenLoose p n None) = (told.EmptyRange, v.stream)
answer v (OpenLoose p n (Some (first, last))) =
    unless_drawn v v.config.open_rate (open_refusal v.files.directory p n first last) (told_opened v p n (first, last))
answer v (Close number) = (elim (kept_at v.handles number) [ None ↦ told.NoHandle | Some h ↦ told.Done ], v.stream)
answer v (Through number ask) = through v (kept_at v.handles number) ask
answer v (Finish number) = (elim (kept_at v.syncs number) [ None ↦ told.NoHandle | Some s ↦ unless_denied s.outcome told.Done ], v.stream)
answer v (Remove p n) = unless_drawn v v.config.remove_rate (remove_refusal v.files.directory p n) told.Done
answer v (Scan p) = unless_drawn v v.config.scan_rate (partition_refusal v.files.directory p) (told.Names (λ n. is_some (v.files.directory.file p n)))
answer v Crash = let d = draw_rows v.stream (all_needs v.files.log) in (told.Crashed d.0, d.1)
answer v act = (told.Done, v.stream)

-- whether a call may return `Memory`; through a number without a handle it never does
abbrev pub may_grow : State → Act → Bool
may_grow v (Open p n versions) = is_some versions
may_grow v (OpenLoose p n versions) = is_some versions
may_grow v (Through number Size) = false
may_grow v (Through number ask) = is_some (kept_at v.handles number)
may_grow v (Remove p n) = true
may_grow v (Scan p) = true
may_grow v Crash = true
may_grow v act = false

-- A possible reply, with the rest of the stream: the expected one, or, if the call may allocate, `Memory`. After
-- `Memory`, any draws may have been made.
abbrev pub IsAnswer : Bool → Told × Stream → Reply → Stream → Type 0
IsAnswer grows answer reply left = (IsTrue grows × (refused_by reply ≡ Some Memory)) ⊎ (Tells reply answer.0 × (left ≡ answer.1))

abbrev pub Answers : State → Act → Reply → Stream → Type 0
Answers v act reply left = IsAnswer (may_grow v act) (answer v act) reply left
