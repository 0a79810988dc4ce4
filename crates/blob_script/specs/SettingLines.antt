-- The tokens after `config` in a line.
use Rattle.std.specs.Prelude.{[], ◌∷◌, ◌&&◌, Some, None, nat_lt, nat_le, if◌then◌else◌, codes}
use Rattle.blob_model.specs.Rates.{Rate}
use Rattle.blob_model.specs.declared.mode.PartialWriteMode.{PartialWriteMode}
use Rattle.blob_model.specs.declared.mode.PartialWriteMode.TheVariants.{Prefix, Subset, Sectors}
use Rattle.blob_script.specs.declared.script.setting.Setting.{Setting}
use Rattle.blob_script.specs.declared.script.setting.Setting.TheVariants.{Open, Read, Write, Sync, Resize, Remove, Scan, Clear}
use Rattle.blob_tokens.specs.Forms.{Form, ◌>>=◌, gives, gives_some, by_word, digits}

-- a fraction that is at most one
abbrev pub rate : Form Rate
rate = do n ← digits; d ← digits; gives_some (if nat_lt 0 d && nat_le n d then Some (record { numerator = n; denominator = d }) else None)

-- a sector has at least one byte
abbrev pub mode : Form PartialWriteMode
mode = by_word (
    (codes "prefix", gives Prefix)
    ∷ (codes "subset", gives Subset)
    ∷ (codes "sectors", do size ← digits; gives_some (if nat_lt 0 size then Some (Sectors size) else None)) ∷ [])

abbrev pub setting : Form Setting
setting = by_word (
    (codes "open", do r ← rate; gives (Open r))
    ∷ (codes "read", do r ← rate; gives (Read r))
    ∷ (codes "write", do failure ← rate; retention ← rate; kept ← mode; gives (Write (record { failure_rate = failure; retention_rate = retention; mode = kept })))
    ∷ (codes "sync", do r ← rate; gives (Sync r))
    ∷ (codes "resize", do failure ← rate; partial ← rate; gives (Resize (record { failure_rate = failure; partial_rate = partial })))
    ∷ (codes "remove", do r ← rate; gives (Remove r))
    ∷ (codes "scan", do r ← rate; gives (Scan r))
    ∷ (codes "clear", gives Clear) ∷ [])
