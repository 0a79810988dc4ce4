-- How a disk reports what the wrapper returned.
use Rattle.std.specs.Prelude.{◌≡◌, ◌≢◌, ℕ, List, Option, Some, None, Result, Ok, Err}
use Rattle.std.specs.IoError.{error_kind}
use Rattle.std.specs.declared.io.Error.{Error}
use Rattle.std.specs.declared.io.ErrorKind.{ErrorKind}
use Rattle.std.specs.declared.io.ErrorKind.TheVariants.{InvalidData, OutOfMemory, Other}
use Rattle.blob_header.specs.Refusals.{Refusal, Memory}
use Rattle.sqlite_disk.specs.Digest.{digest}
use Rattle.sqlite_disk.specs.Disk.{MoreFaults}

-- the kind of the error that a refusal becomes
abbrev pub kind_of : Refusal → ErrorKind
kind_of Memory = OutOfMemory
kind_of refusal = Other

abbrev pub IsOfKind : {T : Type 0} → ErrorKind → Result T Error → Type 0
IsOfKind kind (Ok x) = ⊥
IsOfKind kind (Err e) = error_kind e ≡ kind

-- a result that reports this refusal, or Ok if there is none
abbrev pub Tells : {T : Type 0} → Option Refusal → Result T Error → Type 0
Tells None (Ok x) = Unit {0}
Tells (Some refusal) result = IsOfKind (kind_of refusal) result
Tells None (Err e) = ⊥

-- a result that reports what the wrapper may return
abbrev pub TellsBy : {T : Type 0} → (Option Refusal → Type 0) → Result T Error → Type 0
TellsBy allowed result = (answer : Option Refusal) × allowed answer × Tells answer result

-- a read that was done, but returned bytes with another digest; it is counted
pub record IsCaught {T : Type 0} (allowed : Option Refusal → Type 0) (key want : ℕ) (bytes : List ℕ) (result : Result T Error) (old new : ℕ) : Type 0 where
  pub done : allowed None
  pub kind : IsOfKind InvalidData result
  pub digest : digest key bytes ≢ want
  pub counted : MoreFaults old new
