use Rattle.std.proofs.Common.{rules, ◌∙◌, false, nat_eq, filter, get_or, sym, subst, ap, map, List}
use Rattle.blob_model.specs.Order.{ListAt, ArePlacesApart}
use Rattle.blob_pending.proofs.Distinct.{distinct_of, apart_of}
use Rattle.std.specs.List.{list_any}
use Rattle.blob_pending.specs.declared.incarnation.Incarnation.{Incarnation}
use Rattle.blob_pending.specs.Partition.{ends_number}
use Rattle.blob_pending.specs.Numbers.{AreIndexed}
use Rattle.blob_pending.proofs.Ending.{kept_ends}
use Rattle.blob_pending.proofs.Numbering.{indexed_held, used}
use Rattle.blob_pending.proofs.Owning.{found_held}
use Rattle.blob_pending.proofs.lists.Lists.find_partition.Goals as goal

pub invariant_of-self-inside : goal.invariant_of-self-inside
invariant_of-self-inside g c = record {
  distinct = distinct_of g.S.Durable.place c.note_all.new.lists.items
      (subst (λ (hs : List ListAt). ArePlacesApart hs) (sym c.note_all.ensures.held) (apart_of g.S.Durable.place c.self.inside.all.lists.items g.met.S.Durable.one_origin c.self.inside.all.distinct));
}

pub invariant_of-self : goal.invariant_of-self
invariant_of-self g c =
    let place = g.S.Durable.place in
    let is = c.self.inside.all.lists.items in
    found_held place is c.note_all.new.lists.items c.self.inside.numbers.keys c.self.inside.searched _ c.self.inside.unmapped c.note_all.ensures.held
    (indexed_held place is c.note_all.new.lists.items c.self.inside.numbers.keys c.self.inside.searched (ap (map (λ (h : ListAt). h.0.number)) c.note_all.ensures.held) c.self.invariant.lists) c.self.invariant

pub returns-in-Ok-clause-found : goal.returns-in-Ok-clause-found
returns-in-Ok-clause-found g c = rw (← c.self.view_is) (λ k e h.
    let place = g.S.Durable.place in
    let is = c.self.inside.all.lists.items in
    let ix : AreIndexed place is c.self.inside.numbers.keys false = used c.self.invariant.lists (search rules) in
    kept_ends place is c.self.inside.numbers.keys ix (g.S.Durable.directory c.args.store.now) c.args.partition.now c.in-Ok.ending.items c.in-Ok.ensures k e h
    ∙ ap (list_any (nat_eq (place (get_or is k e).origin).number)) (ap (λ (js : List (Incarnation g.row.S-Origin.Denot)). filter (ends_number place (g.S.Durable.directory c.args.store.now) c.args.partition.now js) c.in-Ok.ending.items) (sym c.deref.ensures.value) ∙ sym c.keep_ending.ensures))
