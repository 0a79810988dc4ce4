-- Write configurations by a cell's number.
use Rattle.std.specs.Prelude.{ℕ, ◌<◌, ◌+◌, ◌*◌, ◌/◌, ◌%◌, if◌then◌else◌, nat_lt}
use Rattle.blob_model.specs.Rates.{Rate}
use Rattle.blob_model.specs.declared.mode.PartialWriteMode.{PartialWriteMode}
use Rattle.blob_model.specs.declared.mode.PartialWriteMode.TheVariants.{Prefix, Subset}

-- this number of hundredths
abbrev pub rate_in_cell : ℕ → Rate
rate_in_cell part = record { numerator = part; denominator = 100 }

abbrev pub mode_in_cell : ℕ → PartialWriteMode
mode_in_cell cell = if nat_lt cell 10201 then Prefix else Subset

-- a cell's rates, in hundredths, and mode
pub record Grid : Type 0 where
  pub failure : ℕ
  pub retention : ℕ
  pub mode : PartialWriteMode

-- the rates and the mode of a cell
abbrev pub config_in_cell : ℕ → Grid
config_in_cell cell = record { failure = cell % 10201 % 101; retention = cell % 10201 / 101; mode = mode_in_cell cell }

-- the cells of a pair of rates, by mode
abbrev pub first_cell_of : ℕ → ℕ → ℕ
first_cell_of failure retention = retention * 101 + failure

abbrev pub second_cell_of : ℕ → ℕ → ℕ
second_cell_of failure retention = 10201 + (retention * 101 + failure)

abbrev pub first_of : ℕ → ℕ → Grid
first_of f r = record { failure = f; retention = r; mode = Prefix }

abbrev pub second_of : ℕ → ℕ → Grid
second_of f r = record { failure = f; retention = r; mode = Subset }

-- for each pair of rates in hundredths: the failure rate, then the retention rate
abbrev pub ForRates : (ℕ → ℕ → Type 0) → Type 0
ForRates P = (failure retention : ℕ) → failure < 101 → retention < 101 → P failure retention
