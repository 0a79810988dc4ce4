use Rattle.std.proofs.Common.{rules, ◌≡◌, ◌∙◌, ◌++◌, ◌<◌, ℕ, Bool, Option, Some, None, false, cond, nat_eq, sym, ap, subst, List, map, get_or, length}
use Rattle.std.proofs.lemmas.List.{get_or_default}
use Rattle.indexmap.specs.IndexMap.{get}
use Rattle.blob_model.specs.Order.{ListAt, held_at, ArePlacesApart}
use Rattle.blob_model.specs.Pending.{finish}
use Rattle.blob_pending.specs.Lists.{lists_of}
use Rattle.blob_pending.specs.Marks.{marks_of, left_marks}
use Rattle.blob_pending.specs.Numbers.{AreIndexed}
use Rattle.blob_pending.specs.Owners.{AreOwned, IsStartedIn}
use Rattle.blob_pending.specs.Views.{left_in}
use Rattle.blob_pending.specs.declared.incarnation.Incarnation.{Incarnation}
use Rattle.blob_pending.proofs.Distinct.{distinct_of, apart_of, distinct_set, same_origin}
use Rattle.blob_pending.proofs.Numbering.{indexed_held, numbers_finished, indexed_set, used}
use Rattle.blob_pending.proofs.ListSteps.{held_at_finished, apart_finished}
use Rattle.blob_pending.proofs.Owning.{finished_at, found_unmapped, marks_are, not_finished, owned_finish}
use Rattle.blob_pending.proofs.lists.Lists.finish.Goals as goal

-- The lists are searched one by one.

pub invariant_of-self-inside : goal.invariant_of-self-inside
invariant_of-self-inside g c =
    let place = g.S.Durable.place in
    let is = c.self.inside.all.lists.items in
    record {
      distinct = distinct_of place c.finish_all.new.lists.items
          (subst (λ (hs : List ListAt). ArePlacesApart hs) (sym (c.finish_all.ensures place)) (apart_finished c.args.marker (lists_of place is) (apart_of place is g.met.S.Durable.one_origin c.self.inside.all.distinct)));
    }

pub invariant_of-self : goal.invariant_of-self
invariant_of-self g c =
    let place = g.S.Durable.place in
    let is = c.self.inside.all.lists.items in
    found_unmapped place c.finish_all.new.lists.items c.self.inside.numbers.keys c.self.inside.searched _ c.self.inside.unmapped (search rules)
    (indexed_held place is c.finish_all.new.lists.items c.self.inside.numbers.keys c.self.inside.searched (ap (map (λ (h : ListAt). h.0.number)) (c.finish_all.ensures place) ∙ numbers_finished c.args.marker (lists_of place is)) c.self.invariant.lists)

pub returns-then-self : goal.returns-then-self
returns-then-self g c = rw (← c.self.view_is) (λ o. ap (λ (hs : List ListAt). held_at hs o) (c.finish_all.ensures g.S.Durable.place) ∙ held_at_finished c.args.marker (lists_of g.S.Durable.place c.self.inside.all.lists.items) o)

-- The list is found by its number.

pub find_started-requires-clause-indexed : goal.find_started-requires-clause-indexed
find_started-requires-clause-indexed g c =
    let no : c.self.inside.unmapped ≡ false = search rules in
    subst (λ (is : List (Incarnation g.row.S-Origin.Denot)). AreIndexed g.S.Durable.place is c.self.inside.numbers.keys false) (sym c.deref.ensures.value) (used c.self.invariant.lists (c.self.invariant.indexed no))

pub find_started-requires-clause-owned : goal.find_started-requires-clause-owned
find_started-requires-clause-owned g c =
    let no : c.self.inside.unmapped ≡ false = search rules in
    subst (λ (is : List (Incarnation g.row.S-Origin.Denot)). AreOwned g.S.Durable.place is (get nat_eq c.self.inside.owners)) (sym c.deref.ensures.value) (c.self.invariant.markers no)

pub returns-in_default : goal.returns-in_default
returns-in_default g c = rw (← c.self.view_is) (λ o.
    let place = g.S.Durable.place in
    let is = c.self.inside.all.lists.items in
    let nowhere : IsStartedIn place is c.args.marker None = subst (λ (r : Option ℕ). IsStartedIn place is c.args.marker r) c.in_default.is
    (subst (λ (js : List (Incarnation g.row.S-Origin.Denot)). IsStartedIn place js c.args.marker c.find_started.result) c.deref.ensures.value c.find_started.ensures) in
    not_finished c.args.marker _ (nowhere o))

pub returns : goal.returns
returns g c = rw (← c.self.view_is) (λ o.
    let place = g.S.Durable.place in
    let is = c.self.inside.all.lists.items in
    let started : IsStartedIn place is c.args.marker (Some c.in-Some.i) = subst (λ (r : Option ℕ). IsStartedIn place is c.args.marker r) c.in-Some.is
    (subst (λ (js : List (Incarnation g.row.S-Origin.Denot)). IsStartedIn place js c.args.marker c.find_started.result) c.deref.ensures.value c.find_started.ensures) in
    let at : c.index_mut.result.now ≡ get_or is c.in-Some.i c.index_mut.result.now = search rules in
    finished_at place is c.in-Some.i c.index_mut.result.now c.finish.new.self c.args.marker o g.met.S.Durable.one_origin c.self.inside.all.distinct started at c.finish.ensures.origin c.finish.ensures.entries)

pub invariant_of-self-inside-3 : goal.invariant_of-self-inside-3
invariant_of-self-inside-3 g c =
    let is = c.self.inside.all.lists.items in
    let at : c.index_mut.result.now ≡ get_or is c.in-Some.i c.index_mut.result.now = search rules in
    record { distinct = distinct_set is c.in-Some.i c.finish.new.self (same_origin is c.in-Some.i c.index_mut.result.now c.finish.new.self at c.finish.ensures.origin) c.self.inside.all.distinct }

pub invariant_of-self-2 : goal.invariant_of-self-2
invariant_of-self-2 g c =
    let place = g.S.Durable.place in
    let is = c.self.inside.all.lists.items in
    let k = c.in-Some.i in
    let e = c.index_mut.result.now in
    let j = c.finish.new.self in
    let no : c.self.inside.unmapped ≡ false = search rules in
    let h : k < length is = search rules in
    let at : e ≡ get_or is k e = search rules in
    let read : c.index.result.now ≡ get_or is k c.index.result.now = search rules in
    let here : c.index.result.now ≡ e = read ∙ get_or_default is k c.index.result.now e h ∙ sym at in
    let done : c.through.result.now ++ marks_of (finish c.args.marker (left_in e.entries.items)) ≡ marks_of (left_in e.entries.items) =
    c.through.ensures (left_in e.entries.items) (marks_are e ∙ ap (λ (x : Incarnation g.row.S-Origin.Denot). left_marks x.marks) (sym here))
    ∙ ap (λ (x : Incarnation g.row.S-Origin.Denot). left_marks x.marks) here ∙ sym (marks_are e) in
    record {
      lists = indexed_set place is k j c.self.inside.numbers.keys c.self.inside.searched (same_origin is k e j at c.finish.ensures.origin) c.self.invariant.lists;
      indexed = c.self.invariant.indexed;
      markers = λ u. owned_finish place is c.self.inside.numbers.keys (used c.self.invariant.lists (c.self.invariant.indexed u)) (get nat_eq c.self.inside.owners) (c.self.invariant.markers u) k e j (get nat_eq c.forget.new.owners) c.args.marker c.through.result.now
          h at c.finish.ensures.origin c.finish.ensures.entries done (λ m other. c.forget.ensures m ∙ ap (λ (b : Bool). cond b None (get nat_eq c.self.inside.owners m)) other);
    }
