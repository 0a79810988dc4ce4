-- Calls by a descriptor's number.
use Rattle.std.proofs.Common.{◌≡◌, ℕ, ap}
use Rattle.blob_fs.specs.declared.file_system.Descriptor.{Descriptor}
use Rattle.blob_fs.specs.Files.{descriptor_number}
use Rattle.blob_file_sessions.specs.Kinds.{descriptor}

pub is_descriptor : (f : Descriptor) (n : ℕ) → descriptor_number f ≡ n → f ≡ descriptor n
is_descriptor f n is = ap descriptor is
