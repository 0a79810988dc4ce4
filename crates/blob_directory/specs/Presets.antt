-- The four profiles: which unsettled edits a crash keeps, which edits a sync settles, whether a crash cuts a file at its first lost
-- byte, whether a rename over a name keeps the new file's size, and whether growing writes and truncations leave zeros.
use Rattle.std.specs.Prelude.{true, false}
use Rattle.blob_directory.specs.declared.profile.Keeps.TheVariants.{Any, Logged, Prefix}
use Rattle.blob_directory.specs.declared.profile.Profile.{Profile}
use Rattle.blob_directory.specs.declared.profile.Settles.TheVariants.{Names, Own, UpToLast, UpToLastOrSize}

abbrev pub ext4_row : Profile
ext4_row = record { keeps = Prefix; settles = UpToLastOrSize; cuts = false; flushes = true; zeros = true; pages = true }

abbrev pub xfs_row : Profile
xfs_row = record { keeps = Prefix; settles = UpToLast; cuts = false; flushes = false; zeros = false; pages = true }

abbrev pub btrfs_row : Profile
btrfs_row = record { keeps = Logged; settles = Names; cuts = false; flushes = false; zeros = true; pages = false }

abbrev pub posix_row : Profile
posix_row = record { keeps = Any; settles = Own; cuts = false; flushes = false; zeros = true; pages = true }
