-- Bytes that are fed to a checksum.
use Rattle.std.specs.Prelude.{ℕ, List, ◌++◌}
use Rattle.blob_header.specs.declared.checksum.Crc32.{Crc32}
use Rattle.blob_header.specs.Register.{HasTaken}

-- the state has taken these bytes after all earlier ones
abbrev pub Feeds : Crc32 → Crc32 → List ℕ → Type 0
Feeds old new bytes = (before : List ℕ) → HasTaken old before → HasTaken new (before ++ bytes)
