-- What a crash of the machine may leave of a disk, and the rates of its faults.
use Rattle.std.specs.Prelude.{ℕ, List}
use Rattle.rand_core.specs.declared.Rng.{Ghosts}
use Rattle.blob_draws.specs.declared.config.Config.{Config}
use Rattle.blob_faulty.specs.Wrapper.{config_of}
use Rattle.blob_disk.specs.declared.BlobDisk.{BlobDisk}
use Rattle.blob_disk.specs.Outcomes.{IsDrawn}

abbrev pub MayDraw : {R : Type 0} {g : Ghosts R} → BlobDisk R g → List ℕ → Type 0
MayDraw d = IsDrawn d.blob d.store

abbrev pub rates_of : {R : Type 0} {g : Ghosts R} → BlobDisk R g → Config
rates_of d = config_of d.store
