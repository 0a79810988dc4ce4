use Rattle.std.proofs.Common.{rules, ◌≡◌, ◌∙◌, ◌<◌, ◌++◌, ◌∷◌, [], ap, List, ℕ, Some, cond, nat_eq, length, get_or, set}
use Rattle.std.proofs.lemmas.List.{get_or-set_same}
use Rattle.indexmap.specs.IndexMap.{get}
use Rattle.blob_model.specs.Pending.{Pending, Marker}
use Rattle.blob_pending.proofs.Distinct.{distinct_set, same_origin}
use Rattle.blob_pending.proofs.ListSteps.{changed_list, found}
use Rattle.blob_pending.specs.declared.incarnation.Incarnation.{Incarnation}
use Rattle.blob_pending.proofs.Numbering.{indexed_set, not_false}
use Rattle.blob_pending.proofs.Owning.{owned_mark}
use Rattle.blob_pending.proofs.lists.Lists.mark.Goals as goal

pub returns : goal.returns
returns g c = rw (← c.self.view_is) (λ o i a.
    let is = c.self.inside.all.lists.items in
    let at : c.index_mut.result.now ≡ get_or is c.args.i c.index_mut.result.now = search rules in
    changed_list g.S.Durable.place is c.args.i c.index_mut.result.now c.mark.new.self o _ a (search rules) at c.mark.ensures.origin i
    (c.mark.ensures.entries ∙ ap (λ (q : List Pending). q ++ Marker c.args.number ∷ []) (found g.S.Durable.place is c.args.i c.index_mut.result.now o (search rules) at i)))

pub invariant_of-self-inside : goal.invariant_of-self-inside
invariant_of-self-inside g c =
    let is = c.self.inside.all.lists.items in
    let at : c.index_mut.result.now ≡ get_or is c.args.i c.index_mut.result.now = search rules in
    record { distinct = distinct_set is c.args.i c.mark.new.self (same_origin is c.args.i c.index_mut.result.now c.mark.new.self at c.mark.ensures.origin) c.self.inside.all.distinct }

pub invariant_of-self : goal.invariant_of-self
invariant_of-self g c =
    let place = g.S.Durable.place in
    let is = c.self.inside.all.lists.items in
    let k = c.args.i in
    let e = c.index_mut.result.now in
    let j = c.mark.new.self in
    let owner = get nat_eq c.self.inside.owners in
    let h : k < length is = search rules in
    let at : e ≡ get_or is k e = search rules in
    let here : c.index.result.now ≡ get_or (set is k j) k c.index.result.now = search rules in
    let number : c.number_of-owner.result ≡ (place j.origin).number = c.number_of-owner.ensures ∙ ap (λ (x : Incarnation g.row.S-Origin.Denot). (place x.origin).number) (here ∙ get_or-set_same is k j c.index.result.now h) in
    record {
      lists = indexed_set place is k j c.self.inside.numbers.keys c.self.inside.searched (same_origin is k e j at c.mark.ensures.origin) c.self.invariant.lists;
      indexed = λ u. c.self.invariant.indexed (c.map_new-mapped.ensures.used (not_false c.map_new-mapped.result u));
      markers = λ u. owned_mark place is k e j owner (get nat_eq c.map_new-mapped.new.owners) c.args.number h at c.mark.ensures.origin c.mark.ensures.entries
          (c.map_new-mapped.ensures.absent (not_false c.map_new-mapped.result u))
          (λ m. c.map_new-mapped.ensures.mapped (not_false c.map_new-mapped.result u) m ∙ ap (λ (n : ℕ). cond (nat_eq c.args.number m) (Some n) (owner m)) number)
          (c.self.invariant.markers (c.map_new-mapped.ensures.used (not_false c.map_new-mapped.result u)));
    }
