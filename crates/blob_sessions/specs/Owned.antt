-- What a `Loose` owns: the box at its pointer, if it has one.
use mir.Syntax.{Ty}
use base.Fml.{Fml, ftrue}
use denote.RattleType.{RattleType}
use denote.RawPtr.{Ptr}
use Rattle.std.specs.Prelude.{Option, Some, None}
use Rattle.std.specs.Coded.{Coded, coded_option}
use Rattle.std.specs.Box.Ownership.{box_owns}
use Rattle.blob_sessions.specs.declared.kept.Kept.{Kept}
use Rattle.blob_sessions.specs.contracts.kept.Kept as row

abbrev pub slot_owns : (Ty → Ptr → Fml) → (R : RattleType) → Ptr → Option R.Denot → Fml
slot_owns holds R p None = ftrue
slot_owns holds R p (Some x) = box_owns holds R p x

abbrev pub kept_code : Coded (Option Kept)
kept_code = coded_option (row.the_row).coded
