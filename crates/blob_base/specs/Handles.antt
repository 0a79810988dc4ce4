-- The parts of a started sync's handle.
use Rattle.std.specs.Prelude.{◌≡◌, ℕ, Option, None, Result}
use Rattle.blob_header.specs.declared.error.Error.{Error}
use Rattle.blob_header.specs.Refusals.{Refusal, error_of}
use Rattle.blob_base.specs.declared.handle.Handle.{Handle}

-- the outcome of the sync
abbrev pub outcome_of : Handle → Result (Unit {0}) Error
outcome_of handle = handle.outcome

-- the error of the sync, or None if it is Ok
abbrev pub outcome_error : Handle → Option Refusal
outcome_error handle = error_of (outcome_of handle)

-- the outcome is Ok
abbrev pub HasSynced : Handle → Type 0
HasSynced handle = error_of (outcome_of handle) ≡ None

-- the number of a wrapper's marker, if it has one
abbrev pub marker_of : Handle → Option ℕ
marker_of handle = handle.marker
