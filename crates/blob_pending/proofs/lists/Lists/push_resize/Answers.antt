use Rattle.std.proofs.Common.{rules, ◌≡◌, ◌∙◌, ◌++◌, ◌∷◌, [], ap, List, get_or}
use Rattle.blob_model.specs.Pending.{Pending}
use Rattle.blob_pending.specs.Views.{left_in}
use Rattle.blob_pending.specs.declared.entry.Entry.TheVariants as entry
use Rattle.blob_pending.proofs.Distinct.{distinct_set, same_origin}
use Rattle.blob_pending.proofs.ListSteps.{changed_list, found}
use Rattle.blob_pending.proofs.Owning.{found_set, kept_marks}
use Rattle.blob_pending.proofs.lists.Lists.push_resize.Goals as goal

pub returns : goal.returns
returns g c = rw (← c.self.view_is) (λ o i a.
    let is = c.self.inside.all.lists.items in
    let at : c.index_mut.result.now ≡ get_or is c.args.i c.index_mut.result.now = search rules in
    changed_list g.S.Durable.place is c.args.i c.index_mut.result.now c.push_resize.new.self o _ a (search rules) at c.push_resize.ensures.resize.origin i
    (c.push_resize.ensures.resize.entries ∙ ap (λ (q : List Pending). q ++ left_in (entry.Resize c.args.len ∷ [])) (found g.S.Durable.place is c.args.i c.index_mut.result.now o (search rules) at i)))

pub invariant_of-self-inside : goal.invariant_of-self-inside
invariant_of-self-inside g c =
    let is = c.self.inside.all.lists.items in
    let at : c.index_mut.result.now ≡ get_or is c.args.i c.index_mut.result.now = search rules in
    record { distinct = distinct_set is c.args.i c.push_resize.new.self (same_origin is c.args.i c.index_mut.result.now c.push_resize.new.self at c.push_resize.ensures.resize.origin) c.self.inside.all.distinct }

pub invariant_of-self : goal.invariant_of-self
invariant_of-self g c =
    let is = c.self.inside.all.lists.items in
    let at : c.index_mut.result.now ≡ get_or is c.args.i c.index_mut.result.now = search rules in
    found_set g.S.Durable.place is c.args.i c.index_mut.result.now c.push_resize.new.self c.self.inside.numbers.keys c.self.inside.searched _ c.self.inside.unmapped at c.push_resize.ensures.resize.origin
    (kept_marks c.index_mut.result.now c.push_resize.new.self c.push_resize.ensures.marks) c.self.invariant
