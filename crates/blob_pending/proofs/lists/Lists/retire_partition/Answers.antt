use Rattle.std.proofs.Common.{arith, ◌≡◌, ◌≢◌, ◌∙◌, [], cond, ap, sym, subst, not, get_or, take, refl, nat_eq, Bool, List, ℕ, Option, None, Vec}
use Rattle.std.specs.Global.{Global}
use Rattle.std.specs.List.{All, list_any}
use Rattle.std.proofs.lemmas.List.{take_all}
use Rattle.std.proofs.lemmas.List.Folds.{list_any_more}
use Rattle.std.proofs.lemmas.List.Kept.{AllPairs-filter}
use Rattle.blob_model.specs.Files.{is_removed_by}
use Rattle.blob_model.specs.Order.{ListAt, held_at}
use Rattle.blob_pending.specs.Lists.{list_of, lists_of, is_removed_in, AreDistinct}
use Rattle.blob_pending.specs.declared.incarnation.Incarnation.{Incarnation}
use Rattle.blob_pending.specs.Partition.{AreNoted, AreOfPartition}
use Rattle.blob_pending.proofs.Ending.{one_number_more, retires_numbers}
use Rattle.blob_pending.proofs.ListSteps.{filter_on, held_filter, held_at_filter}
use Rattle.blob_pending.proofs.lists.Lists.retire_partition.Goals as goal

pub invariant_of-self-inside : goal.invariant_of-self-inside
invariant_of-self-inside g c = record {
  distinct = subst (λ (is : List (Incarnation g.row.S-Origin.Denot)). AreDistinct is) (sym c.drop_noted.ensures) (AllPairs-filter (λ a b. a.origin ≢ b.origin) _ c.self.inside.all.lists.items c.self.inside.all.distinct);
}

pub returns-in_default : goal.returns-in_default
returns-in_default g c = rw (← c.self.view_is) (λ d p of a.
    let place = g.S.Durable.place in
    let is = c.self.inside.all.lists.items in
    let noted : AreNoted place d p is = subst (λ (r : Option (Vec ℕ Global)). AreOfPartition place d p is r) c.in_default.is of in
    ap (λ (js : List (Incarnation g.row.S-Origin.Denot)). held_at (lists_of place js) a) (c.drop_noted.ensures ∙ filter_on (λ i. not i.ends) (λ i. not (is_removed_in place d p None i)) is (λ k e h. ap not (noted k e h)))
    ∙ ap (λ (hs : List ListAt). held_at hs a) (held_filter place (λ o. not (is_removed_by d p None o)) is)
    ∙ held_at_filter (lists_of place is) (is_removed_by d p None) a)

pub loop-number-init : goal.loop-number-init
loop-number-init g c a = refl

pub loop-number-preserved : goal.loop-number-preserved
loop-number-preserved g c a =
    let k = c.loop-number.number-index in
    let items : List ℕ = c.deref-number-items.result.now in
    let v = list_of g.S.Durable.place c.args.self.now.all.lists.items a in
    let n : ℕ = get_or items k 0 in
    c.retire_number.ensures a ∙ ap (cond (nat_eq a.number n) []) (c.loop-number.invariant a)
    ∙ one_number_more (list_any (nat_eq a.number) (take k items)) (nat_eq a.number n) v
    ∙ ap (λ (b : Bool). cond b [] v) (sym (list_any_more (nat_eq a.number) items k 0 (omega arith)))

pub returns : goal.returns
returns g c d p of =
    let place = g.S.Durable.place in
    let is = c.args.self.now.all.lists.items in
    let ns : List ℕ = c.in-Some.ending.items in
    let of : All (λ i. is_removed_in place d p None i ≡ list_any (nat_eq (place i.origin).number) ns) is = subst (λ (r : Option (Vec ℕ Global)). AreOfPartition place d p is r) c.in-Some.is of in
    retires_numbers place is c.loop-number.self.all.lists.items ns d p (λ a. c.loop-number.invariant a
    ∙ ap (λ (ms : List ℕ). cond (list_any (nat_eq a.number) ms) [] (list_of place is a)) (take_all c.loop-number.number-index c.deref-number-items.result.now c.loop-number-test.false ∙ c.deref-number-items.ensures.value)) of
