use Rattle.std.proofs.Common.{rules, ◌≡◌, ◌∙◌, ap, get_or, sym, arith, Some, None, position, nat_eq, false, true}
use Rattle.std.proofs.lemmas.List.{get_or_default}
use Rattle.blob_model.specs.Places.{same_place}
use Rattle.blob_pending.specs.declared.incarnation.Incarnation.{Incarnation}
use Rattle.blob_pending.specs.Numbers.{AreIndexed}
use Rattle.blob_pending.proofs.Numbering.{used, none_of_number, none_but, found_number}
use Rattle.blob_pending.proofs.Taking.{at_of}
use Rattle.blob_pending.proofs.lists.Lists.find.Goals as goal

pub returns-then-eq-clause-some : goal.returns-then-eq-clause-some
returns-then-eq-clause-some g c =
    let place = g.S.Durable.place in
    let is = c.self.inside.all.lists.items in
    let at : c.index.result.now ≡ get_or is c.args.hint c.index.result.now = search rules in
    rw (← c.self.view_is) (at_of place is c.args.hint c.index.result.now (place c.args.origin.now) g.met.S.Durable.one_origin c.self.inside.all.distinct (omega arith)
    (ap (λ (x : Incarnation g.row.S-Origin.Denot). same_place (place x.origin) (place c.args.origin.now)) (sym at)
    ∙ sym (g.met.S.Durable.same_origins c.index.result.now.origin c.args.origin.now) ∙ sym c.if-eq.ensures))

pub returns-in_default-clause-none : goal.returns-in_default-clause-none
returns-in_default-clause-none g c =
    let place = g.S.Durable.place in
    let keys = c.self.inside.numbers.keys in
    let ix : AreIndexed place c.self.inside.all.lists.items keys false = used c.self.invariant.lists (search rules) in
    let none : position (nat_eq c.number_of-number.result) keys ≡ None = search rules in
    rw (← c.self.view_is) (none_of_number place c.self.inside.all.lists.items keys ix (place c.args.origin.now) c.number_of-number.result (search rules) none)

pub returns-then-eq-2-clause-some : goal.returns-then-eq-2-clause-some
returns-then-eq-2-clause-some g c =
    let place = g.S.Durable.place in
    let is = c.self.inside.all.lists.items in
    let i = c.in-Some.i in
    let same : g.S.Origin.PartialEq.eq c.index-2.result.now.origin c.args.origin.now ≡ true = sym c.eq-2.ensures ∙ c.if-eq-2.true in
    let ix : AreIndexed place is c.self.inside.numbers.keys false = used c.self.invariant.lists (search rules) in
    let at : position (nat_eq c.number_of-number.result) c.self.inside.numbers.keys ≡ Some i = search rules in
    rw (← c.self.view_is) (at_of place is i c.index-2.result.now (place c.args.origin.now) g.met.S.Durable.one_origin c.self.inside.all.distinct (found_number place is c.self.inside.numbers.keys ix c.number_of-number.result i at).0
    (ap (λ (x : Incarnation g.row.S-Origin.Denot). same_place (place x.origin) (place c.args.origin.now)) (sym c.index-2.ensures)
    ∙ sym (g.met.S.Durable.same_origins c.index-2.result.now.origin c.args.origin.now) ∙ same))

pub returns-else-eq-2-clause-none : goal.returns-else-eq-2-clause-none
returns-else-eq-2-clause-none g c =
    let place = g.S.Durable.place in
    let is = c.self.inside.all.lists.items in
    let keys = c.self.inside.numbers.keys in
    let i = c.in-Some.i in
    let ix : AreIndexed place is keys false = used c.self.invariant.lists (search rules) in
    let at : position (nat_eq c.number_of-number.result) keys ≡ Some i = search rules in
    let other : g.S.Origin.PartialEq.eq c.index-2.result.now.origin c.args.origin.now ≡ false = sym c.eq-2.ensures ∙ c.if-eq-2.false in
    rw (← c.self.view_is) (none_but place is keys ix (place c.args.origin.now) c.number_of-number.result i (search rules) at
    (λ e. ap (λ (x : Incarnation g.row.S-Origin.Denot). same_place (place x.origin) (place c.args.origin.now)) (get_or_default is i e c.index-2.result.now (found_number place is keys ix c.number_of-number.result i at).0 ∙ sym c.index-2.ensures)
    ∙ sym (g.met.S.Durable.same_origins c.index-2.result.now.origin c.args.origin.now) ∙ other))
