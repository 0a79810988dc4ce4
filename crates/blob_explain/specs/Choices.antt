-- What a crash chose for the bytes of a write.
use Rattle.std.specs.Prelude.{◌≡◌, ℕ, List, All, Bool, false, slice_index_or, IfSome}
use Rattle.blob_model.specs.Draws.{Row, row_of}
use Rattle.blob_explain.specs.declared.files.File.{File}
use Rattle.blob_explain.specs.declared.files.Item.{Item}
use Rattle.blob_explain.specs.declared.files.Item.TheVariants.{Write}

-- the choice for the byte at this index; false if there was no draw
abbrev pub choice_at : List Bool → ℕ → Bool
choice_at choices i = slice_index_or choices i false

-- a write with a number has the choices of its row, none if the table has no row for it
abbrev pub HasChoices : List Row → Item → Type 0
HasChoices rows (Write write) = IfSome write.number (λ number. write.kept.items ≡ row_of rows number)
HasChoices rows item = Unit {0}

abbrev pub HaveChoices : List Row → File → Type 0
HaveChoices rows file = All (HasChoices rows) file.entries.items
