use Rattle.std.proofs.Common.{rules, ◌≡◌, ◌≢◌, sym, subst, false, List, Some, None, position, nat_eq}
use Rattle.std.proofs.lemmas.List.Kept.{AllPairs-filter}
use Rattle.blob_pending.specs.Lists.{AreDistinct, TakesList}
use Rattle.blob_pending.specs.Numbers.{AreIndexed}
use Rattle.blob_pending.specs.Shown.{Shown}
use Rattle.blob_pending.specs.declared.incarnation.Incarnation.{Incarnation}
use Rattle.blob_pending.proofs.Ending.{retires_some, retires_nothing, retires_filtered}
use Rattle.blob_pending.proofs.Numbering.{used}
use Rattle.blob_pending.proofs.lists.Lists.retire_number.Goals as goal

pub invariant_of-self-inside : goal.invariant_of-self-inside
invariant_of-self-inside g c = record {
  distinct = subst (λ (is : List (Incarnation g.row.S-Origin.Denot)). AreDistinct is) (sym c.drop_numbered.ensures) (AllPairs-filter (λ a b. a.origin ≢ b.origin) _ c.self.inside.all.lists.items c.self.inside.all.distinct);
}

pub returns-then-self : goal.returns-then-self
returns-then-self g c = rw (← c.self.view_is) (retires_filtered g.S.Durable.place c.self.inside.all.lists.items c.drop_numbered.new.lists.items c.args.number c.drop_numbered.ensures)

pub returns-in-Some : goal.returns-in-Some
returns-in-Some g c =
    let place = g.S.Durable.place in
    let is = c.self.inside.all.lists.items in
    let ix : AreIndexed place is c.self.inside.numbers.keys false = used c.self.invariant.lists (search rules) in
    let at : position (nat_eq c.args.number) c.self.inside.numbers.keys ≡ Some c.in-Some.i = search rules in
    let takes : TakesList place is c.take.new.self.all.lists.items c.in-Some.i = subst (λ (v : Shown g.row.S-Origin.Denot). TakesList place v.all.lists.items c.take.new.self.all.lists.items c.in-Some.i) (sym c.self.view_is) c.take.ensures in
    rw (← c.self.view_is) (retires_some place is c.self.inside.numbers.keys ix c.take.new.self.all.lists.items c.args.number c.in-Some.i g.met.S.Durable.one_origin c.self.inside.all.distinct at takes)

pub returns-in_default : goal.returns-in_default
returns-in_default g c =
    let place = g.S.Durable.place in
    let is = c.self.inside.all.lists.items in
    let ix : AreIndexed place is c.self.inside.numbers.keys false = used c.self.invariant.lists (search rules) in
    let none : position (nat_eq c.args.number) c.self.inside.numbers.keys ≡ None = search rules in
    rw (← c.self.view_is) (retires_nothing place is c.self.inside.numbers.keys ix c.args.number none)
