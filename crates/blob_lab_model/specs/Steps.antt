-- The replies and effects of single calls, as proofs use them.
use Rattle.std.specs.Prelude.{List, ℕ, ◌-◌, ◌^◌, ◌==◌, Bool, false, ◌&&◌, Option, Some, None, is_some, is_none, option_and_then, fold, set}
use Rattle.std.specs.Option.{option_or, option_map_or}
use Rattle.hex.specs.Hex.{encode_lower}
use Rattle.blob_header.specs.Refusals.{Refusal, Injected, GenerationsExhausted, BlobAlreadyOpen}
use Rattle.blob_memory.specs.Answers.{sync_refusal, open_refusal, partition_refusal, remove_refusal}
use Rattle.blob_model.specs.Directory.{Directory}
use Rattle.blob_model.specs.Files.{Files, start_sync}
use Rattle.blob_model.specs.Opening.{Opening, opening}
use Rattle.blob_model.specs.Places.{Place}
use Rattle.blob_draws.specs.Changes.{lacks_number}
use Rattle.blob_draws.specs.Faults.{WriteFate, draw, retention, write_fate}
use Rattle.blob_script.specs.Acts.{Ask, Size, AcceptedVersions, OpenLoose, Remove, Crash, Reopen}
use Rattle.blob_opens.specs.OpenNames as names
use Rattle.blob_opens.specs.OpenNames.{OpenNames, Registration}
use Rattle.blob_lab_model.specs.After.{apply_act}
use Rattle.blob_lab_model.specs.Denials.{refused_if, fate_denial}
use Rattle.blob_lab_model.specs.Fixed.{Byte, is_on, asks_for}
use Rattle.blob_lab_model.specs.States.{State, Held, Image, with_image}

-- Errors.

-- the store's error if there is one, otherwise `Injected`
abbrev pub or_injected : Option Refusal → Option Refusal
or_injected refusal = option_or refusal (Some Injected)

-- a write by its outcome, by whether writes are retained, and by the next number
abbrev pub write_denial_by : WriteFate → Directory → Place → Bool → ℕ → Bool → ℕ → List ℕ → Option Refusal
write_denial_by fate d o retained next sync offset bytes = fate_denial fate d o (refused_if GenerationsExhausted (lacks_number retained next bytes)) sync offset bytes

abbrev pub write_denial : State → Held → ℕ → List ℕ → Bool → Option Refusal
write_denial v h offset bytes sync =
    let fate = (write_fate v.config sync offset bytes v.stream).0 in
    write_denial_by fate v.files.directory h.place (is_some (retention v.config.write_rate)) v.files.next_write sync offset bytes

abbrev pub sync_denial : State → Held → Option Refusal
sync_denial v h = option_or (refused_if Injected (draw v.config.sync_rate v.stream).0) (sync_refusal v.files.directory h.place)

abbrev pub remove_denial : State → List ℕ → Option (List ℕ) → Option Refusal
remove_denial v p n = option_or (refused_if Injected (draw v.config.remove_rate v.stream).0) (remove_refusal v.files.directory p n)

abbrev pub scan_denial : State → List ℕ → Option Refusal
scan_denial v p = option_or (refused_if Injected (draw v.config.scan_rate v.stream).0) (partition_refusal v.files.directory p)

abbrev pub loose_denial : State → List ℕ → List ℕ → ℕ → ℕ → Option Refusal
loose_denial v p n first last = option_or (refused_if Injected (draw v.config.open_rate v.stream).0) (open_refusal v.files.directory p n first last)

-- whether no number is left to open a name that isn't open
abbrev pub is_unnumbered : OpenNames → List ℕ → List ℕ → Bool
is_unnumbered names p n = is_none (names.registered p n) && (names.next == 2 ^ 64 - 1)

-- the error if a name is already open, which comes after the store's open
abbrev pub open_already : OpenNames → List ℕ → List ℕ → Option Refusal
open_already names p n = refused_if (BlobAlreadyOpen p (encode_lower n)) (is_some (names.registered p n))

abbrev pub open_denial : State → List ℕ → List ℕ → ℕ → ℕ → Option Refusal
open_denial v p n first last =
    option_or (refused_if GenerationsExhausted (is_unnumbered v.names p n)) (option_or (loose_denial v p n first last) (open_already v.names p n))

-- whether a call through a handle may return `Memory`
abbrev pub asks_memory : Ask → Option Held → Bool
asks_memory Size slot = false
asks_memory ask slot = is_some slot

-- what an open finds
abbrev pub found_at : State → List ℕ → List ℕ → ℕ → ℕ → Opening
found_at v p n first last = opening p n (v.files.directory.file p n) first last

-- whether a call through a handle touches a byte of its blob
abbrev pub reaches_through : State → Option Held → Ask → Byte → Bool
reaches_through v slot ask b = elim slot [ None ↦ false | Some h ↦ is_on v.files.directory h b && asks_for ask b ]

-- Effects.

-- files after a started sync with this outcome
abbrev pub files_after_start : Files → Held → Option Refusal → Files
files_after_start f h None = start_sync f h.place h.live
files_after_start f h (Some refusal) = f

-- open names after an exclusive open ends; an open that isn't exclusive has no registration
abbrev pub close_registration : OpenNames → Option Registration → OpenNames
close_registration s registration = option_map_or (names.release s) registration s

-- a state with one handle closed
abbrev pub with_closed : State → ℕ → Option Held → State
with_closed v number slot = record v { names = close_registration v.names (option_and_then (λ h. h.registration) slot); handles = set v.handles number None }

abbrev pub with_images : Directory → List Image → Directory
with_images d images = fold with_image d images

abbrev pub loosely_opened : State → List ℕ → List ℕ → AcceptedVersions → Option Refusal → State
loosely_opened v p n versions refusal = apply_act v (OpenLoose p n (Some versions)) refusal

abbrev pub removal_step : State → List ℕ → Option (List ℕ) → Option Refusal → State
removal_step v p n refusal = apply_act v (Remove p n) refusal

abbrev pub crash_step : State → Option Refusal → State
crash_step v refusal = apply_act v Crash refusal

abbrev pub rebuilt : State → State
rebuilt v = apply_act v Reopen None
