use Rattle.std.proofs.Common.{arith, ◌≡◌, ◌∙◌, ◌||◌, ℕ, Bool, true, false, List, Option, None, cond, nat_eq, get_or, take, ap, sym, refl}
use Rattle.std.specs.Cmp.{nat_eq_equiv}
use Rattle.std.specs.List.{list_any}
use Rattle.std.proofs.lemmas.List.{take_all}
use Rattle.std.proofs.lemmas.List.Folds.{list_any_more}
use Rattle.indexmap.specs.IndexMap.{get}
use Rattle.blob_pending.proofs.owners.forget.Goals as goal

one_more : (a b : Bool) (v : Option ℕ) → cond b None (cond a None v) ≡ cond (a || b) None v
one_more true true v = refl
one_more true false v = refl
one_more false true v = refl
one_more false false v = refl

pub loop-marker-preserved : goal.loop-marker-preserved
loop-marker-preserved c m =
    let k = c.loop-marker.marker-index in
    let items : List ℕ = c.args.markers.now in
    let n : ℕ = get_or items k 0 in
    let was = get nat_eq c.args.owners.now m in
    c.swap_remove.ensures.updates.0 m
    ∙ ap (λ (b : Bool). cond b None (get nat_eq c.loop-marker.owners m)) (nat_eq_equiv.symm n m)
    ∙ ap (cond (nat_eq m n) None) (c.loop-marker.invariant m)
    ∙ one_more (list_any (nat_eq m) (take k items)) (nat_eq m n) was
    ∙ ap (λ (b : Bool). cond b None was) (sym (list_any_more (nat_eq m) items k 0 (omega arith)))

pub returns : goal.returns
returns c m = c.loop-marker.invariant m ∙ ap (λ (ms : List ℕ). cond (list_any (nat_eq m) ms) None (get nat_eq c.args.owners.now m)) (take_all c.loop-marker.marker-index c.args.markers.now c.loop-marker-test.false)
