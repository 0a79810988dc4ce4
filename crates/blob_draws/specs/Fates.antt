-- The code's drawn outcomes as the definitions have them.
use Rattle.std.specs.Prelude.{◌≡◌, ◌≢◌, ℕ, ◌+◌, ◌-◌, ◌^◌, Bool, List, [], length, Option, option_map, nat_lt}
use Rattle.rand_core.specs.Stream.{Stream}
use Rattle.blob_draws.specs.declared.config.Config.{Config}
use Rattle.blob_draws.specs.declared.faults.WriteFate as code
use Rattle.blob_draws.specs.declared.faults.WriteFate.TheVariants as write
use Rattle.blob_draws.specs.declared.faults.ResizeFate as resized
use Rattle.blob_draws.specs.declared.faults.ResizeFate.TheVariants as resize
use Rattle.blob_draws.specs.declared.config.WriteConfig.{WriteConfig}
use Rattle.blob_model.specs.Rates.{Rate}
use Rattle.blob_model.specs.declared.mode.PartialWriteMode.{PartialWriteMode}
use Rattle.blob_draws.specs.Faults.{WriteFate, Done, Unsynced, Failed, write_fate, ResizeFate, Resizes, Stays, Reaches}

abbrev pub write_failure : Option WriteConfig → Option Rate
write_failure config = option_map (λ c. c.failure_rate) config

abbrev pub retention_of : Option WriteConfig → Option (PartialWriteMode × Rate)
retention_of config = option_map (λ c. (c.mode, c.retention_rate)) config

abbrev pub has_uncounted_end : ℕ → List ℕ → Bool
has_uncounted_end offset bytes = nat_lt (2 ^ 64 - 1) (offset + length bytes)

-- what a write leaves of the stream
abbrev pub after_write : Config → Bool → ℕ → List ℕ → Stream → Stream
after_write config sync offset bytes stream = (write_fate config sync offset bytes stream).1

abbrev pub write_fate_of : code.WriteFate → WriteFate
write_fate_of write.Done = Done
write_fate_of write.Unsynced = Unsynced
write_fate_of (write.Failed kept) = Failed kept.items

abbrev pub resize_fate_of : resized.ResizeFate → ResizeFate
resize_fate_of (resize.Resizes survives) = Resizes survives
resize_fate_of resize.Stays = Stays
resize_fate_of (resize.Reaches size) = Reaches size

-- the choices of a failed write are one for each byte, or none are listed
abbrev pub IsSized : ℕ → WriteFate → Type 0
IsSized len (Failed kept) = kept ≢ [] → length kept ≡ len
IsSized len fate = Unit {0}

-- the outcome of a write and the rest of the stream are what this draw gives, from the stream before to the one after
abbrev pub DrawsOutcome : (Stream → WriteFate × Stream) → Stream → Stream → code.WriteFate → Type 0
DrawsOutcome draw before after fate = (write_fate_of fate, after) ≡ draw before
