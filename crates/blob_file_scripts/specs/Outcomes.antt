-- What a crash did with an edit that nothing settled, and with a byte of an unsynced write.
use Rattle.std.specs.Prelude.{ℕ, Bool, true, false, List, slice_index_or}
use Rattle.blob_file_scripts.specs.declared.edit_text.EditOutcome.{EditOutcome}
use Rattle.blob_file_scripts.specs.declared.edit_text.EditOutcome.TheVariants as outcomes

-- by whether the recovery applied it, and whether its record was kept
abbrev pub edit_outcome : Bool → Bool → EditOutcome
edit_outcome true kept = outcomes.Kept
edit_outcome false true = outcomes.Discarded
edit_outcome false false = outcomes.Lost

-- the choice for the byte at this index; false if there was no draw
abbrev pub choice_at : List Bool → ℕ → Bool
choice_at choices i = slice_index_or choices i false
