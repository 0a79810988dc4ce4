use Rattle.std.proofs.Common.{rules, ◌≡◌, ◌∙◌, ◌+◌, ◌∷◌, ap, sym, List, get_or}
use Rattle.blob_model.specs.Pending.{Pending, has_barrier, apply_durable}
use Rattle.blob_pending.specs.Lists.{list_of}
use Rattle.blob_pending.specs.Views.{left_in}
use Rattle.blob_pending.proofs.Distinct.{distinct_set, same_origin}
use Rattle.blob_pending.proofs.ListSteps.{changed_list, changed_at, found, ranges_at, rooms_of}
use Rattle.blob_pending.proofs.Owning.{found_set, kept_marks}
use Rattle.blob_pending.proofs.lists.Lists.lay.Goals as goal

pub returns-clause-lists : goal.returns-clause-lists
returns-clause-lists g c = rw (← c.self.view_is) (λ o i bytes len same a.
    let is = c.self.inside.all.lists.items in
    let at : c.index_mut.result.now ≡ get_or is c.args.i c.index_mut.result.now = search rules in
    let here : left_in c.index_mut.result.now.entries.items ≡ list_of g.S.Durable.place is o = found g.S.Durable.place is c.args.i c.index_mut.result.now o (search rules) at i in
    changed_list g.S.Durable.place is c.args.i c.index_mut.result.now c.lay.new.self o _ a (search rules) at c.lay.ensures.origin i
    ((c.lay.ensures.laid bytes len (λ queued. same (ap has_barrier (sym here) ∙ queued))).entries ∙ ap (λ (q : List Pending). apply_durable c.args.offset bytes q) here))

pub returns-clause-at : goal.returns-clause-at
returns-clause-at g c = rw (← c.self.view_is) (λ o i.
    let is = c.self.inside.all.lists.items in
    let at : c.index_mut.result.now ≡ get_or is c.args.i c.index_mut.result.now = search rules in
    changed_at g.S.Durable.place is c.args.i c.index_mut.result.now c.lay.new.self o (search rules) at c.lay.ensures.origin i)

pub returns-clause-room : goal.returns-clause-room
returns-clause-room g c = rw (← c.self.view_is) (λ later h.
    let at : c.index_mut.result.now ≡ get_or c.self.inside.all.lists.items c.args.i c.index_mut.result.now = search rules in
    ranges_at c.self.inside.all.lists.items c.args.i later c.lay.new.self (search rules) (c.lay.ensures.room later (rooms_of c.self.inside.all.lists.items c.args.i ((c.args.offset, c.args.offset + c.args.len) ∷ later) c.index_mut.result.now at h)))

pub invariant_of-self-inside : goal.invariant_of-self-inside
invariant_of-self-inside g c =
    let is = c.self.inside.all.lists.items in
    let at : c.index_mut.result.now ≡ get_or is c.args.i c.index_mut.result.now = search rules in
    record { distinct = distinct_set is c.args.i c.lay.new.self (same_origin is c.args.i c.index_mut.result.now c.lay.new.self at c.lay.ensures.origin) c.self.inside.all.distinct }

pub invariant_of-self : goal.invariant_of-self
invariant_of-self g c =
    let is = c.self.inside.all.lists.items in
    let at : c.index_mut.result.now ≡ get_or is c.args.i c.index_mut.result.now = search rules in
    found_set g.S.Durable.place is c.args.i c.index_mut.result.now c.lay.new.self c.self.inside.numbers.keys c.self.inside.searched _ c.self.inside.unmapped at c.lay.ensures.origin
    (kept_marks c.index_mut.result.now c.lay.new.self c.lay.ensures.marks) c.self.invariant
