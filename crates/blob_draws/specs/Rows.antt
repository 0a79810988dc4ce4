-- The rows of a crash's table.
use Rattle.std.specs.Prelude.{◌≡◌, ℕ, Bool, List, map, Vec}
use Rattle.std.specs.Global.{Global}
use Rattle.rand_core.specs.Stream.{Stream}
use Rattle.blob_model.specs.Draws.{Row}
use Rattle.std.specs.List.Sorted.{IsNonDecreasingBy}
use Rattle.blob_draws.specs.declared.draw.Draw.{Draw}
use Rattle.blob_draws.specs.declared.selections.Selections.{Selections}
use Rattle.blob_draws.specs.Drawings.{drawings_in, rows_drawn}

-- a write's number and its choices
abbrev pub row_in : ℕ × Vec Bool Global → Row
row_in row = (row.0, row.1.items)

abbrev pub rows_in : List (ℕ × Vec Bool Global) → List Row
rows_in rows = map row_in rows

abbrev pub rows_of : Selections → List (ℕ × Vec Bool Global)
rows_of selections = selections.rows.items

-- the table that a crash returns
abbrev pub table_of : Selections → List Row
table_of selections = map (λ row. (row.0, row.1.items)) selections.rows.items

-- the numbers of the rows don't decrease
abbrev pub AreNumbered : List (ℕ × Vec Bool Global) → Type 0
AreNumbered rows = IsNonDecreasingBy (λ (row : ℕ × Vec Bool Global). row.0) rows

-- the rows and the rest of the stream are what the draws for these writes give
abbrev pub DrawsRows : List Draw → Stream → Stream → Vec (ℕ × Vec Bool Global) Global → Type 0
DrawsRows draws before after rows = (rows_in rows.items, after) ≡ rows_drawn before (drawings_in draws)
