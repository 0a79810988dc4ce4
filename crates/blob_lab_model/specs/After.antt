-- The state of a laboratory after a call, by its error if any.
use Rattle.std.specs.Prelude.{ℕ, List, [], ◌∷◌, ◌++◌, map, set, Option, Some, None, option_map, option_and_then}
use Rattle.std.specs.Option.{option_map_or}
use Rattle.rand_core.specs.Stream.{Stream}
use Rattle.blob_model.specs.Directory.{current}
use Rattle.blob_model.specs.Draws.{chosen_by, draw_rows}
use Rattle.blob_model.specs.Files.{Files, all_logged, start_sync, admit, after_open, after_remove, after_crash, reopen, all_needs, publish}
use Rattle.blob_header.specs.Refusals.{Refusal, BlobAlreadyOpen}
use Rattle.blob_draws.specs.Changes.{Changes, laying, write_changes, resize_changes}
use Rattle.blob_draws.specs.Faults.{retention, write_fate, resize_fate}
use Rattle.blob_script.specs.Acts.{Ask, Write, Resize, Sync, StartSync, AcceptedVersions, Act, Configure, Open, OpenLoose, Admit, Close, Through, Finish, Remove, Crash, Reopen}
use Rattle.blob_lab_model.specs.Answers.{kept_at}
use Rattle.blob_lab_model.specs.Denials.{start_denial}
use Rattle.blob_opens.specs.OpenNames as names
use Rattle.blob_opens.specs.OpenNames.{OpenNames, Registration, none_open}
use Rattle.blob_lab_model.specs.States.{State, Held, Started, held_on}

-- Through a handle.

-- the change to the log of the handle's incarnation, and to the handle
abbrev pub ask_changes : State → Held → Ask → Option Refusal → Changes
ask_changes v h (Write offset bytes sync) refusal =
    write_changes (write_fate v.config sync offset bytes v.stream).0 (retention v.config.write_rate) sync offset bytes refusal
ask_changes v h (Resize len) refusal = resize_changes (resize_fate v.config.resize_rate h.size len v.stream).0 len refusal
ask_changes v h ask refusal = laying [] (λ number. [])

abbrev pub files_after : State → Held → Ask → Option Refusal → Files
files_after v h Sync None = publish v.files h.place h.live
files_after v h StartSync None = elim (start_denial v h) [ None ↦ start_sync v.files h.place h.live | Some refusal ↦ v.files ]
files_after v h ask refusal = all_logged v.files h.place ((ask_changes v h ask refusal).entries v.files.next_write)

abbrev pub held_after : State → Held → Ask → Option Refusal → Held
held_after v h ask refusal = let changes = ask_changes v h ask refusal in record h { live = changes.live h.live; size = changes.size h.size }

abbrev pub syncs_after : State → Held → Ask → Option Refusal → List (Option Started)
syncs_after v h StartSync None = v.syncs ++ Some (record { outcome = start_denial v h }) ∷ []
syncs_after v h ask refusal = v.syncs

abbrev pub after_ask : State → ℕ → Option Held → Ask → Option Refusal → State
after_ask v number None ask refusal = v
after_ask v number (Some h) ask refusal =
    let handles = set v.handles number (Some (held_after v h ask refusal)) in
    record v { files = files_after v h ask refusal; handles = handles; syncs = syncs_after v h ask refusal }

-- Opens.

-- these files, and a new handle on the name's current incarnation
abbrev pub with_held : State → List ℕ → List ℕ → Files → Option Registration → State
with_held v p n f registration = record v { files = f; handles = v.handles ++ option_map (held_on f registration) (current f.directory p n) ∷ [] }

-- an exclusive open admits the name; if the name was open already, what the store's open created stays
abbrev pub exclusively_opened : State → List ℕ → List ℕ → AcceptedVersions → Option Refusal → State
exclusively_opened v p n versions None = with_held (record v { names = names.open_name v.names p n }) p n
    (admit (after_open v.files p n versions.0 versions.1) p n) (Some (record { partition = p; name = n; number = v.names.next }))
exclusively_opened v p n versions (Some (BlobAlreadyOpen q m)) = record v { files = after_open v.files p n versions.0 versions.1 }
exclusively_opened v p n versions (Some refusal) = v

-- Any call.

-- the state except the generator; a crash keeps the drawn bytes; a rebuild closes all names and drops all started
-- syncs, but numbers aren't reused, and handles stay
abbrev pub apply_act : State → Act → Option Refusal → State
apply_act v (Configure config) refusal = record v { config = config }
apply_act v (Open p n (Some versions)) refusal = exclusively_opened v p n versions refusal
apply_act v (OpenLoose p n (Some versions)) None = with_held v p n (after_open v.files p n versions.0 versions.1) None
apply_act v (Admit p n) refusal = record v { files = admit v.files p n }
apply_act v (Close number) refusal =
    let registration = option_and_then (λ h. h.registration) (kept_at v.handles number) in
    record v { names = option_map_or (names.release v.names) registration v.names; handles = set v.handles number None }
apply_act v (Through number ask) refusal = after_ask v number (kept_at v.handles number) ask refusal
apply_act v (Finish number) refusal = record v { syncs = set v.syncs number None }
apply_act v (Remove p n) None = record v { files = after_remove v.files p n; names = names.end_names v.names p n }
apply_act v Crash None = record v { files = after_crash v.files (chosen_by (draw_rows v.stream (all_needs v.files.log)).0) }
apply_act v Reopen refusal = record v { files = reopen v.files; names = none_open v.names.next; syncs = map (λ slot. None) v.syncs }
apply_act v act refusal = v

abbrev pub after_act : State → Act → Option Refusal → Stream → State
after_act v act refusal left = record (apply_act v act refusal) { stream = left }
