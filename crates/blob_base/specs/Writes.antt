-- A write by its options and its result.
use Rattle.std.specs.Prelude.{◌≡◌, ℕ, List, Result}
use Rattle.blob_header.specs.declared.error.Error.{Error}
use Rattle.blob_header.specs.Refusals.{error_of}
use Rattle.blob_model.specs.Live.{live_after}
use Rattle.blob_base.specs.declared.options.WriteOptions.{WriteOptions}
use Rattle.blob_base.specs.HandleCalls.{HandleCall, Write}
use Rattle.blob_base.specs.Options.{is_sync}

-- the live bytes after a write with this result, in a store that injects nothing
abbrev pub live_after_write : {T : Type 0} → WriteOptions → ℕ → List ℕ → Result T Error → List ℕ → List ℕ
live_after_write options offset bytes result live = live_after (is_sync options) live offset bytes (error_of result)

-- the live bytes are those after a write with this result, in a store that injects nothing
abbrev pub WritesLive : {T : Type 0} → WriteOptions → ℕ → List ℕ → Result T Error → List ℕ → List ℕ → Type 0
WritesLive options offset bytes result old new = new ≡ live_after_write options offset bytes result old

-- a write as data
abbrev pub write_call : ℕ → List ℕ → WriteOptions → HandleCall
write_call offset bytes options = Write offset bytes (is_sync options)
