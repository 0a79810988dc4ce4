-- What a crash needs to know of a write in order to draw for it.
use Rattle.std.specs.Prelude.{◌≡◌, ℕ, ◌≤◌, Bool, List, [], ◌∷◌, length, map, vec_capacity}
use Rattle.std.specs.declared.vec.Vec.{Vec}
use Rattle.std.specs.declared.alloc.Global.{Global}
use Rattle.rand_core.specs.Stream.{Stream}
use Rattle.blob_model.specs.Draws.{Row, with_first, positions}
use Rattle.blob_model.specs.Log.{Need}
use Rattle.blob_model.specs.declared.mode.PartialWriteMode.{PartialWriteMode}
use Rattle.blob_model.specs.Rates.{Rate}
use Rattle.blob_draws.specs.declared.draw.Draw.{Draw}

pub record Drawing : Type 0 where
  pub number : ℕ
  pub offset : ℕ
  pub len : ℕ
  pub mode : PartialWriteMode
  pub rate : Rate

abbrev pub drawing_of : Need → Drawing
drawing_of n = record { number = n.write.number; offset = n.write.offset; len = length n.write.bytes; mode = n.write.mode; rate = n.write.rate }

abbrev pub drawings_of : List Need → List Drawing
drawings_of ns = map drawing_of ns

-- of the code's
abbrev pub drawing_in : Draw → Drawing
drawing_in d = record { number = d.number; offset = d.offset; len = d.len; mode = d.mode; rate = d.rate }

abbrev pub drawings_in : List Draw → List Drawing
drawings_in ds = map drawing_in ds

-- their rows, drawn in order, and the rest of the stream
abbrev pub rows_drawn : Stream → List Drawing → List Row × Stream
rows_drawn s [] = ([], s)
rows_drawn s (d ∷ ds) =
    let p = positions d.mode d.rate d.offset d.len s in
    with_first (d.number, p.0) (rows_drawn p.1 ds)

-- an empty list of choices with this capacity
pub record IsBlank (len : ℕ) (chosen : Vec Bool Global) : Type 0 where
  pub none : chosen.items ≡ []
  pub room : len ≤ vec_capacity chosen
