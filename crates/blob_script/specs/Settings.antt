-- The configuration after a setting.
use Rattle.std.specs.Prelude.{Some, None}
use Rattle.blob_draws.specs.declared.config.Config.{Config}
use Rattle.blob_script.specs.declared.script.setting.Setting.{Setting}
use Rattle.blob_script.specs.declared.script.setting.Setting.TheVariants.{Open, Read, Write, Sync, Resize, Remove, Scan, Clear}

-- no rates
abbrev pub no_rates : Config
no_rates = record { open_rate = None; read_rate = None; write_rate = None; sync_rate = None; resize_rate = None; remove_rate = None; scan_rate = None }

abbrev pub with_setting : Config → Setting → Config
with_setting c (Open rate) = record c { open_rate = Some rate }
with_setting c (Read rate) = record c { read_rate = Some rate }
with_setting c (Write writes) = record c { write_rate = Some writes }
with_setting c (Sync rate) = record c { sync_rate = Some rate }
with_setting c (Resize resizes) = record c { resize_rate = Some resizes }
with_setting c (Remove rate) = record c { remove_rate = Some rate }
with_setting c (Scan rate) = record c { scan_rate = Some rate }
with_setting c Clear = no_rates
