use Rattle.std.proofs.Common.{rules, ◌≡◌, ◌∙◌, sym, false, Some, None, position, nat_eq}
use Rattle.blob_pending.specs.Numbers.{AreIndexed}
use Rattle.blob_pending.proofs.Numbering.{used, none_named, other_named}
use Rattle.blob_pending.proofs.lists.Lists.find_name.Goals as goal

pub returns-in_default-get_index_of : goal.returns-in_default-get_index_of
returns-in_default-get_index_of g c =
    let place = g.S.Durable.place in
    let is = c.self.inside.all.lists.items in
    let keys = c.self.inside.numbers.keys in
    let ix : AreIndexed place is keys false = used c.self.invariant.lists (search rules) in
    let none : position (nat_eq c.in-Some.number) keys ≡ None = search rules in
    rw (← c.self.view_is) (none_named place is keys ix (g.S.Durable.directory c.args.store.now) c.args.partition.now c.args.name.now c.in-Some.number (sym c.in-Some.is ∙ c.current_number.ensures) none)

pub returns-else-is_removed : goal.returns-else-is_removed
returns-else-is_removed g c =
    let place = g.S.Durable.place in
    let is = c.self.inside.all.lists.items in
    let keys = c.self.inside.numbers.keys in
    let ix : AreIndexed place is keys false = used c.self.invariant.lists (search rules) in
    let at : position (nat_eq c.in-Some.number) keys ≡ Some c.in-Some-get_index_of.i = search rules in
    rw (← c.self.view_is) (other_named place is keys ix (g.S.Durable.directory c.args.store.now) c.args.partition.now c.args.name.now c.in-Some.number (sym c.in-Some.is ∙ c.current_number.ensures)
    c.in-Some-get_index_of.i c.index.result.now at c.index.ensures (sym c.is_removed.ensures ∙ c.if-is_removed.false))
