-- What a write or a resize adds to the log and how it changes its handle, over a store that injects nothing. Any other store may
-- fail a call in part, and its `Injected` can't be distinguished from the wrapper's.
use Rattle.std.specs.Prelude.{ℕ, ◌+◌, ◌-◌, ◌^◌, ◌==◌, max, Bool, true, false, ◌&&◌, List, [], ◌∷◌, length, take, fold, Option, Some, None, if◌then◌else◌}
use Rattle.blob_model.specs.Bytes.{resize}
use Rattle.blob_model.specs.Live.{all_written}
use Rattle.blob_model.specs.Log.{Entry, Kept, Loose, Resized}
use Rattle.blob_model.specs.declared.mode.PartialWriteMode.{PartialWriteMode}
use Rattle.blob_model.specs.Rates.{Rate}
use Rattle.blob_header.specs.Refusals.{Refusal, Injected, BlobMissing}
use Rattle.blob_model.specs.Runs.{Run, runs, kept_runs}
use Rattle.blob_draws.specs.Faults.{WriteFate, Done, Unsynced, Failed, ResizeFate, Resizes, Reaches}

-- a write that a crash may lose, with the mode and the rate of its issue
abbrev pub loose : Option (PartialWriteMode × Rate) → ℕ → ℕ → List ℕ → List Entry
loose kept number offset [] = []
loose None number offset (b ∷ bytes) = []
loose (Some kept) number offset (b ∷ bytes) = Loose (record { number = number; offset = offset; bytes = b ∷ bytes; mode = kept.0; rate = kept.1 }) ∷ []

-- no number is left for a write that is recorded
abbrev pub lacks_number : Bool → ℕ → List ℕ → Bool
lacks_number retained next [] = false
lacks_number retained next (b ∷ bytes) = retained && (next == 2 ^ 64 - 1)

-- a size that some runs raise to the greatest of their ends
abbrev pub size_of_runs : ℕ → List Run → ℕ
size_of_runs size rs = fold (λ most r. max most (r.0 + length r.1)) size rs

pub record Changes : Type 0 where
  pub entries : ℕ → List Entry  -- what is added to the log, by the next write's number
  pub live : List ℕ → List ℕ  -- what becomes of the live bytes
  pub size : ℕ → ℕ  -- what becomes of the tracked size

-- runs written over the live bytes, which raise the size, and these entries
abbrev pub laying : List Run → (ℕ → List Entry) → Changes
laying rs entries = record { entries = entries; live = λ live. all_written live rs; size = λ size. size_of_runs size rs }

-- if the incarnation has ended, they are written over the live bytes only
abbrev pub changes_when_stale : List Run → Changes
changes_when_stale rs = record (laying rs (λ number. [])) { size = λ size. size }

-- a resize to this length, which survives a crash or not
abbrev pub changes_of_length : ℕ → Bool → Changes
changes_of_length len survives = record { entries = λ number. if survives then Resized len ∷ [] else []; live = λ live. resize live len; size = λ size. len }

-- by outcome and result: a SYNC write that doesn't fail is durable as a whole. A plain write may be lost, and so may a SYNC
-- write if its sync fails. A failed write keeps its runs. If the incarnation has ended, the live bytes have the SYNC write,
-- or the first run of a failed write
abbrev pub write_changes : WriteFate → Option (PartialWriteMode × Rate) → Bool → ℕ → List ℕ → Option Refusal → Changes
write_changes Done retained true offset bytes None = laying ((offset, bytes) ∷ []) (λ number. Kept offset bytes ∷ [])
write_changes Done retained false offset bytes None = laying ((offset, bytes) ∷ []) (λ number. loose retained number offset bytes)
write_changes Done retained true offset bytes (Some (BlobMissing p n)) = changes_when_stale ((offset, bytes) ∷ [])
write_changes Unsynced retained sync offset bytes (Some Injected) = laying ((offset, bytes) ∷ []) (λ number. loose retained number offset bytes)
write_changes (Failed chosen) retained sync offset bytes (Some Injected) = let rs = runs offset bytes chosen in laying rs (λ number. kept_runs rs)
write_changes (Failed chosen) retained sync offset bytes (Some (BlobMissing p n)) = changes_when_stale (take 1 (runs offset bytes chosen))
write_changes fate retained sync offset bytes answer = laying [] (λ number. [])

abbrev pub resize_changes : ResizeFate → ℕ → Option Refusal → Changes
resize_changes (Resizes survives) len None = changes_of_length len survives
resize_changes (Reaches size) len (Some Injected) = changes_of_length size true
resize_changes fate len answer = laying [] (λ number. [])
