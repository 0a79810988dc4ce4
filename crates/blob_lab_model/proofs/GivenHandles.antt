-- The incarnation of an open handle has a number below the next one.
use Rattle.std.proofs.Common.{◌≡◌, ℕ, ◌<◌, List, Option, Some, None, IfSome, ap, subst}
use Rattle.std.specs.Prelude.{slice_get, option_and_then}
use Rattle.std.proofs.lemmas.Option.{get_or_from_slice_get, slice_get_within}
use Rattle.blob_lab_model.specs.Answers.{kept_at}
use Rattle.blob_lab_model.specs.States.{Held, AreGiven}

-- a slot with a value
pub filled : {X : Type 0} (slot : Option (Option X)) (x : X) → option_and_then (λ s. s) slot ≡ Some x → slot ≡ Some (Some x)
filled None x e = cc
filled (Some s) x e = ap Some e

-- the incarnation of an open handle has a number below the next one
pub given_at : (next number : ℕ) (handles : List (Option Held)) (h : Held) → AreGiven next handles → kept_at handles number ≡ Some h → h.place.number < next
given_at next number handles h given here =
    let slot = filled (slice_get handles number) h here in
    subst (λ (s : Option Held). IfSome s (λ g. g.place.number < next)) (get_or_from_slice_get handles number (Some h) None slot) (given number None (slice_get_within handles number (Some h) slot))
