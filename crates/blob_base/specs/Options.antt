-- The options of a write, a set of flags.
use Rattle.std.specs.Prelude.{◌≡◌, ℕ, Bool, true, ◌==◌}
use Rattle.std.specs.Int.RustNames.{bit_and, bit_or}
use Rattle.bitflags.specs.Sets.{without as bits_without}
use Rattle.blob_base.specs.declared.options.WriteOptions.{WriteOptions}

abbrev pub flags_of : WriteOptions → ℕ
flags_of options = options.bits

-- no option
abbrev pub no_options : WriteOptions
no_options = record { bits = 0 }

-- the written bytes are durable when the write returns
abbrev pub sync : WriteOptions
sync = record { bits = 1 }

-- whether options include all of some others
abbrev pub contains : WriteOptions → WriteOptions → Bool
contains options some = bit_and (flags_of options) (flags_of some) == flags_of some

-- the options of both
abbrev pub union : WriteOptions → WriteOptions → WriteOptions
union a b = record { bits = bit_or (flags_of a) (flags_of b) }

-- options without some others
abbrev pub without : WriteOptions → WriteOptions → WriteOptions
without options some = record { bits = bits_without 8 (flags_of options) (flags_of some) }

abbrev pub is_sync : WriteOptions → Bool
is_sync options = contains options sync

-- the write has SYNC
abbrev pub IsSync : WriteOptions → Type 0
IsSync options = is_sync options ≡ true
