-- A write that is refused for memory changes nothing.
use Rattle.std.proofs.Common.{◌≡◌, ℕ, Bool, true, false, List, [], Option, Some, refl}
use Rattle.blob_model.specs.declared.mode.PartialWriteMode.{PartialWriteMode}
use Rattle.blob_model.specs.Rates.{Rate}
use Rattle.blob_header.specs.Refusals.{Memory}
use Rattle.blob_draws.specs.Changes.{laying, write_changes}
use Rattle.blob_draws.specs.Faults.{WriteFate, Done}

pub memory_changes : (fate : WriteFate) (retained : Option (PartialWriteMode × Rate)) (sync : Bool) (offset : ℕ) (bytes : List ℕ) → write_changes fate retained sync offset bytes (Some Memory) ≡ laying [] (λ number. [])
memory_changes Done retained true offset bytes = refl
memory_changes Done retained false offset bytes = refl
memory_changes fate retained sync offset bytes = refl
