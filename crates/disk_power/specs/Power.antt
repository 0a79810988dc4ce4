-- A disk whose power fails.
use Rattle.std.specs.Prelude.{◌≡◌, ℕ, false}
use Rattle.disk_power.specs.declared.Power.{Power}

-- the disk that the calls go to
abbrev pub disk_of : {D : Type 0} → Power D → D
disk_of p = p.disk

-- it has refused no call
abbrev pub IsFresh : {D : Type 0} → Power D → Type 0
IsFresh p = (p.refused ≡ 0) × (p.sync_refused ≡ false)
