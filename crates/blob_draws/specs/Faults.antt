-- What the draws of a wrapper decide about a call.
use Rattle.std.specs.Prelude.{ℕ, ◌+◌, ◌-◌, ◌^◌, min, max, Bool, false, ◌&&◌, List, [], length, Option, Some, None, option_map, option_and_then, if◌then◌else◌, nat_lt, ◌==◌}
use Rattle.rand_core.specs.Stream.{Stream, next_u64}
use Rattle.rand.specs.Uniform.{canon}
use Rattle.blob_model.specs.Draws.{positions}
use Rattle.blob_model.specs.Live.{is_idle}
use Rattle.blob_model.specs.Log.{Write}
use Rattle.blob_model.specs.declared.mode.PartialWriteMode.{PartialWriteMode}
use Rattle.blob_model.specs.Rates.{Rate, sample}
use Rattle.blob_draws.specs.declared.config.Config.{Config}
use Rattle.blob_draws.specs.declared.config.ResizeConfig.{ResizeConfig}
use Rattle.blob_draws.specs.declared.config.WriteConfig.{WriteConfig}

-- one draw; a rate that isn't set takes no word and is never true
abbrev pub draw : Option Rate → Stream → Bool × Stream
draw None stream = (false, stream)
draw (Some rate) stream = sample rate stream

-- how the retained bytes of a write are selected, if the retention rate is set and isn't zero
abbrev pub retention : Option WriteConfig → Option (PartialWriteMode × Rate)
retention config = option_and_then (λ c. if c.retention_rate.numerator == 0 then None else Some (c.mode, c.retention_rate)) config

-- The drawn outcome of a write.

pub data WriteFate : Type 0 where
  Idle : WriteFate  -- it does nothing: an empty SYNC write
  Uncounted : WriteFate  -- its end overflows
  Done : WriteFate  -- it is done as the inner store does it
  Unsynced : WriteFate  -- it is a SYNC write and its sync fails
  Failed : List Bool → WriteFate  -- it fails and keeps the chosen bytes

abbrev pub failure : Option (PartialWriteMode × Rate) → ℕ → ℕ → Stream → WriteFate × Stream
failure None offset len stream = (Failed [], stream)
failure (Some kept) offset len stream = let d = positions kept.0 kept.1 offset len stream in (Failed d.0, d.1)

-- of a write that draws: whether it fails, and whether the sync of a SYNC write does that didn't
abbrev pub drawn_fate : Config → Bool → ℕ → ℕ → Stream → WriteFate × Stream
drawn_fate config sync offset len stream =
    let d = draw (option_map (λ c. c.failure_rate) config.write_rate) stream in
    if d.0 then failure (retention config.write_rate) offset len d.1
    else if sync then (let e = draw config.sync_rate d.1 in (if e.0 then Unsynced else Done, e.1))
    else (Done, d.1)

-- of any write, and the rest of the stream
abbrev pub write_fate : Config → Bool → ℕ → List ℕ → Stream → WriteFate × Stream
write_fate config sync offset bytes stream =
    if is_idle sync bytes then (Idle, stream)
    else if nat_lt (2 ^ 64 - 1) (offset + length bytes) then (Uncounted, stream)
    else drawn_fate config sync offset (length bytes) stream

-- The drawn outcome of a resize.

pub data ResizeFate : Type 0 where
  Resizes : Bool → ResizeFate  -- it is done, and survives a crash or not
  Stays : ResizeFate  -- it fails, and changes nothing
  Reaches : ℕ → ResizeFate  -- it fails, and reaches this size

-- a size strictly between two others, as `random_range` of `rand` draws it
abbrev pub size_between : ℕ → ℕ → Stream → ℕ × Stream
size_between low high stream = let d = canon (2 ^ 64) next_u64 (high - (low + 1)) stream in (low + 1 + d.0, d.1)

abbrev pub partly : ℕ → ℕ → Bool × Stream → ResizeFate × Stream
partly size len d =
    if d.0 && nat_lt 1 (max size len - min size len) then (let e = size_between (min size len) (max size len) d.1 in (Reaches e.0, e.1))
    else (Stays, d.1)

abbrev pub resize_fate : Option ResizeConfig → ℕ → ℕ → Stream → ResizeFate × Stream
resize_fate None size len stream = (Resizes false, stream)
resize_fate (Some c) size len stream =
    let d = sample c.failure_rate stream in
    if d.0 then partly size len (sample c.partial_rate d.1) else (let e = sample c.failure_rate d.1 in (Resizes e.0, e.1))

-- a write as it is recorded
abbrev pub new_write : ℕ → ℕ → List ℕ → WriteConfig → Write
new_write number offset bytes config = record { number = number; offset = offset; bytes = bytes; mode = config.mode; rate = config.retention_rate }
