-- The lists of the layer as a pass goes over them, and the pending writes of each incarnation.
use Rattle.std.proofs.Common.{◌≡◌, ◌⊎◌, ◌<◌, ◌+◌, ◌∙◌, ℕ, zero, suc, List, [], ◌∷◌, ◌++◌, length, get_or, drop, sym, ap, subst, arith}
use Rattle.std.proofs.lemmas.Bool.{cond-false, cond-true}
use Rattle.std.proofs.lemmas.List.{at_drop_more}
use Rattle.blob_model.specs.Log.{Need}
use Rattle.blob_model.specs.Order.{ArePlacesApart, In, ListAt, held_at, waiting_of_all}
use Rattle.blob_model.specs.Pending.{waiting}
use Rattle.blob_model.specs.Places.{Place as Origin, same_place}
use Rattle.blob_model.specs.SamePlace.{same_back, same_self}
use Rattle.blob_pending.specs.Lists.{held_by, list_of, lists_of}
use Rattle.blob_pending.specs.Views.{left_in}
use Rattle.blob_pending.specs.declared.incarnation.Incarnation.{Incarnation}
use Rattle.blob_pending.proofs.ListSteps.{held_get, held_len, is_not_of}
use Rattle.blob_fs.proofs.CrashWrites.{in_split}

-- no two lists are of one incarnation: so each is the one that its incarnation has
held_here : (hs : List ListAt) (i : ℕ) (d : ListAt) → ArePlacesApart hs → i < length hs → held_at hs (get_or hs i d).0 ≡ (get_or hs i d).1
held_here [] i d apart inside = absurd (omega arith)
held_here (h ∷ hs) zero d apart inside = cond-true (same_place h.0 h.0) h.1 (held_at hs h.0) (same_self h.0)
held_here (h ∷ hs) (suc i) d apart inside =
    let within : i < length hs = omega arith in
    let x = get_or hs i d in
    cond-false (same_place h.0 x.0) h.1 (held_at hs x.0) (same_back h.0 x.0 ∙ is_not_of hs h.0 apart.0 i d within)
    ∙ held_here hs i d apart.1 within

pub list_here : (is : List (Incarnation Origin)) (i : ℕ) (x : Incarnation Origin) → ArePlacesApart (lists_of (λ o. o) is) → i < length is → x ≡ get_or is i x
    → list_of (λ o. o) is x.origin ≡ left_in x.entries.items
list_here is i x apart inside at =
    let same : get_or (lists_of (λ o. o) is) i (held_by (λ o. o) x) ≡ held_by (λ o. o) x =
    held_get (λ o. o) is i (held_by (λ o. o) x) x inside ∙ ap (λ (y : Incarnation Origin). held_by (λ o. o) y) (sym at) in
    subst (λ (h : ListAt). held_at (lists_of (λ o. o) is) h.0 ≡ h.1) same
    (held_here (lists_of (λ o. o) is) i (held_by (λ o. o) x) apart (omega (arith, inside, held_len (λ (o : Origin). o) is)))

-- a write of the lists that are left is one of the next list, or of those behind it
pub next_list : (is : List (Incarnation Origin)) (i : ℕ) (x : Incarnation Origin) (w : Need) → i < length is → x ≡ get_or is i x → In w (waiting_of_all (lists_of (λ o. o) (drop i is)))
    → In w (waiting (left_in x.entries.items)) ⊎ In w (waiting_of_all (lists_of (λ o. o) (drop (i + 1) is)))
next_list is i x w inside at there =
    let rest = waiting_of_all (lists_of (λ o. o) (drop (i + 1) is)) in
    let is_more : waiting_of_all (lists_of (λ o. o) (drop i is)) ≡ waiting (left_in x.entries.items) ++ rest =
    at_drop_more (λ (l : List (Incarnation Origin)). waiting_of_all (lists_of (λ o. o) l)) is i x inside
    ∙ ap (λ (y : Incarnation Origin). waiting_of_all (lists_of (λ o. o) (y ∷ drop (i + 1) is))) (sym at) in
    in_split w (waiting (left_in x.entries.items)) rest (subst (λ (ws : List Need). In w ws) is_more there)
