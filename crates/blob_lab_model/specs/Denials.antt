-- The error of a call, by its state: the first one with a condition that holds, or none.
use Rattle.std.specs.Prelude.{ℕ, ◌-◌, ◌^◌, ◌==◌, Bool, true, false, if◌then◌else◌, List, [], Option, Some, None}
use Rattle.std.specs.Option.{option_or}
use Rattle.blob_model.specs.Directory.{Directory}
use Rattle.blob_model.specs.Places.{Place}
use Rattle.blob_header.specs.Refusals.{Refusal, OffsetOverflow, Injected, GenerationsExhausted}
pub use Rattle.blob_header.specs.Refusals.{refused_if}
use Rattle.blob_model.specs.Runs.{Run, runs}
use Rattle.blob_draws.specs.Changes.{size_of_runs}
use Rattle.blob_draws.specs.Faults.{WriteFate, Idle, Uncounted, Done, Unsynced, Failed, ResizeFate, Resizes, Stays, Reaches, draw}
use Rattle.blob_memory.specs.Answers.{write_refusal, end_refusal, sync_refusal}
use Rattle.blob_lab_model.specs.States.{State, Held}

-- Writes.

-- the kept runs of a failed write: the end of each must not overflow, and only a current handle applies them
abbrev pub runs_denial : Directory → Place → List Run → Option Refusal
runs_denial d o [] = Some Injected
runs_denial d o rs = option_or (option_or (end_refusal o (size_of_runs 0 rs)) (sync_refusal d o)) (Some Injected)

-- a write by its outcome; `unnumbered` is the error if no number is left for it
abbrev pub fate_denial : WriteFate → Directory → Place → Option Refusal → Bool → ℕ → List ℕ → Option Refusal
fate_denial Idle d o unnumbered sync offset bytes = None
fate_denial Uncounted d o unnumbered sync offset bytes = Some OffsetOverflow
fate_denial Done d o unnumbered true offset bytes = write_refusal d o offset bytes true
fate_denial Done d o unnumbered false offset bytes = option_or unnumbered (write_refusal d o offset bytes false)
fate_denial Unsynced d o unnumbered sync offset bytes = option_or unnumbered (option_or (write_refusal d o offset bytes false) (Some Injected))
fate_denial (Failed chosen) d o unnumbered sync offset bytes = runs_denial d o (runs offset bytes chosen)

-- The other calls through a handle.

abbrev pub reaching_denial : ResizeFate → Place → ℕ → Option Refusal
reaching_denial (Resizes survives) o len = end_refusal o len
reaching_denial Stays o len = Some Injected
reaching_denial (Reaches size) o len = option_or (end_refusal o size) (Some Injected)

-- a started sync needs a number for its marker
abbrev pub start_denial : State → Held → Option Refusal
start_denial v h =
    let unnumbered = refused_if GenerationsExhausted (v.files.next_marker == 2 ^ 64 - 1) in
    option_or (refused_if Injected (draw v.config.sync_rate v.stream).0) (option_or unnumbered (sync_refusal v.files.directory h.place))
