-- The draws that a crash makes for pending writes.
use Rattle.std.specs.Prelude.{List}
use Rattle.std.specs.List.Sorted.{IsPermutation}
use Rattle.blob_model.specs.Order.{waiting_of_all}
use Rattle.blob_model.specs.Places.{Place}
use Rattle.blob_draws.specs.Drawings.{Drawing, drawings_of, drawings_in}
use Rattle.blob_draws.specs.declared.draw.Draw.{Draw}
use Rattle.blob_pending.specs.Lists.{lists_of}
use Rattle.blob_pending.specs.declared.incarnation.Incarnation.{Incarnation}

-- the draws that a crash makes for all lists, list by list
abbrev pub draws_for_all : {O : Type 0} → (O → Place) → List (Incarnation O) → List Drawing
draws_for_all place lists = drawings_of (waiting_of_all (lists_of place lists))

-- these are the draws that a crash makes for all lists, in some order
abbrev pub AreDrawsFor : {O : Type 0} → List (Incarnation O) → List Draw → Type 0
AreDrawsFor {O} lists draws = (place : O → Place) → IsPermutation (draws_for_all place lists) (drawings_in draws)
