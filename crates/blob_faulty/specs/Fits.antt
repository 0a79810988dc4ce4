-- Choices that fit the modes in which writes were issued, as those that a crash draws do.
use Rattle.std.specs.Prelude.{◌≡◌, ℕ, ◌+◌, ◌/◌, ◌<◌, ◌≤◌, Bool, true, List, [], ◌∷◌, length, Option, Some, None}
use Rattle.blob_model.specs.declared.mode.PartialWriteMode.{PartialWriteMode}
use Rattle.blob_model.specs.declared.mode.PartialWriteMode.TheVariants.{Prefix, Subset, Sectors}
use Rattle.blob_model.specs.Bytes.{overlay_by}
use Rattle.blob_model.specs.Files.{Logged}
use Rattle.blob_model.specs.Log.{Choices, Entry, Kept, Loose, Resized}
use Rattle.blob_model.specs.Rates.{Rate}
use Rattle.blob_draws.specs.declared.config.Config.{Config}
use Rattle.blob_draws.specs.Faults.{retention}

-- which of n bytes at an offset a mode may keep: a prefix, any, or whole sectors
abbrev pub FitsMode : PartialWriteMode → ℕ → ℕ → (ℕ → Bool) → Type 0
FitsMode Prefix o n chosen = (i j : ℕ) → i ≤ j → j < n → chosen j ≡ true → chosen i ≡ true
FitsMode Subset o n chosen = Unit {0}
FitsMode (Sectors size) o n chosen = 0 < size → (i j : ℕ) → i < n → j < n → (o + i) / size ≡ (o + j) / size → chosen i ≡ chosen j

-- the choices of a pending write fit its mode
abbrev pub FitsEntry : Choices → Entry → Type 0
FitsEntry t (Kept o b) = Unit {0}
FitsEntry t (Loose w) = FitsMode w.mode w.offset (length w.bytes) (t w.number)
FitsEntry t (Resized n) = Unit {0}

-- so do those of each pending write among these entries
abbrev pub FitsAll : Choices → List Entry → Type 0
FitsAll t [] = Unit {0}
FitsAll t (e ∷ entries) = FitsEntry t e × FitsAll t entries

-- and in this log
abbrev pub FitsLog : Choices → List Logged → Type 0
FitsLog t [] = Unit {0}
FitsLog t (e ∷ log) = FitsEntry t e.entry × FitsLog t log

-- choices of a write's bytes fit the mode of its configuration, if that sets one
abbrev pub FitsRetained : Option (PartialWriteMode × Rate) → ℕ → ℕ → (ℕ → Bool) → Type 0
FitsRetained None o n chosen = Unit {0}
FitsRetained (Some kept) o n chosen = FitsMode kept.0 o n chosen

-- the bytes y are x with those bytes of a write over them that fitting choices choose
abbrev pub LaysFitting : Config → ℕ → List ℕ → List ℕ → List ℕ → Type 0
LaysFitting config o bytes x y = (chosen : ℕ → Bool) × FitsRetained (retention config.write_rate) o (length bytes) chosen × (y ≡ overlay_by x o bytes chosen)
