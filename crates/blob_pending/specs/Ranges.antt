-- Holes as pairs of positions.
use Rattle.std.specs.Prelude.{ℕ, suc, List, [], ◌∷◌, map}
use Rattle.std.specs.Coded.{Unit-prop, le_prop}
use Rattle.blob_model.specs.Holes.{Holes, AreApart}
use Rattle.blob_pending.specs.declared.extent.Extent.{Extent}

abbrev pub range_of : Extent → ℕ × ℕ
range_of h = (h.start, h.end)

abbrev pub ranges : List Extent → Holes
ranges hs = map range_of hs

-- there is at most one way to be apart
pub AreApart-prop : (from : ℕ) (hs : Holes) (end : ℕ) → IsProp (AreApart from hs end)
AreApart-prop from [] end = Unit-prop
AreApart-prop from (h ∷ hs) end = hlevel (le_prop, AreApart-prop (suc h.1) hs end)
