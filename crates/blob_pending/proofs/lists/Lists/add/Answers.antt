use Rattle.std.proofs.Common.{rules, ◌≡◌, ◌∙◌, ◌++◌, ◌∷◌, [], sym, ap, subst, List, length, ℕ, false, true, true≢false}
use Rattle.blob_model.specs.Order.{ListAt, held_at, has_list}
use Rattle.std.specs.Prelude.{is_ok}
use Rattle.std.proofs.lemmas.Bool.{cond_both}
use Rattle.blob_pending.specs.declared.incarnation.Incarnation.{Incarnation}
use Rattle.blob_pending.specs.Lists.{lists_of, IsAt, AreDistinct}
use Rattle.blob_pending.specs.Numbers.{AreIndexed}
use Rattle.blob_pending.specs.Shown.{Shown}
use Rattle.blob_pending.proofs.Distinct.{distinct_push}
use Rattle.blob_pending.proofs.ListSteps.{added, held_at_add, at_add, held_len}
use Rattle.blob_pending.proofs.Numbering.{indexed_push, not_false}
use Rattle.blob_pending.proofs.Owning.{owned_push}
use Rattle.blob_pending.proofs.lists.Lists.add.Goals as goal
use Rattle.blob_pending.proofs.lists.Lists.add.Goals.{then-self, else-self, then-self-2, else-self-2}

pub returns-clause-same : goal.returns-clause-same
returns-clause-same g c = rw (← c.self.view_is) (λ o. ap (λ (hs : List ListAt). held_at hs o) (added g.S.Durable.place _ _ _ c.args.origin c.in_ok-push.ensures.items c.new.ensures.origin c.new.ensures.entries) ∙ held_at_add (lists_of g.S.Durable.place c.self.inside.all.lists.items) (g.S.Durable.place c.args.origin) o)

pub returns-clause-at : goal.returns-clause-at
returns-clause-at g c =
    let place = g.S.Durable.place in
    let is = c.self.inside.all.lists.items in
    let len : length (lists_of place is) ≡ c.len-i.result = held_len place is ∙ search rules in
    let none : has_list (lists_of place is) (place c.args.origin) ≡ false = subst (λ (v : Shown g.row.S-Origin.Denot). has_list (lists_of place v.all.lists.items) (place c.args.origin) ≡ false) (sym c.self.view_is) c.requires in
    subst (λ (hs : List ListAt). IsAt hs c.len-i.result (place c.args.origin)) (sym (added g.S.Durable.place _ _ _ c.args.origin c.in_ok-push.ensures.items c.new.ensures.origin c.new.ensures.entries))
    (subst (λ (n : ℕ). IsAt (lists_of place is ++ (place c.args.origin, []) ∷ []) n (place c.args.origin)) len
    (at_add (lists_of place is) (place c.args.origin, []) none))

pub invariant_of-self-inside : goal.invariant_of-self-inside
invariant_of-self-inside g c =
    let place = g.S.Durable.place in
    let is = c.self.inside.all.lists.items in
    let none : has_list (lists_of place is) (place c.args.origin) ≡ false = subst (λ (v : Shown g.row.S-Origin.Denot). has_list (lists_of place v.all.lists.items) (place c.args.origin) ≡ false) (sym c.self.view_is) c.requires in
    record {
      distinct = subst (λ (js : List (Incarnation g.row.S-Origin.Denot)). AreDistinct js) (sym c.push.ensures.items)
          (cond_both (is_ok c.push.result) (is ++ c.new.result ∷ []) is (λ js. AreDistinct js)
          (λ _. distinct_push place is c.new.result c.args.origin c.new.ensures.origin none c.self.inside.all.distinct)
          (λ _. c.self.inside.all.distinct));
    }

pub invariant_of-self-2 : goal.invariant_of-self-2
invariant_of-self-2 g c =
    let place = g.S.Durable.place in
    let is = c.self.inside.all.lists.items in
    let keys : c.reserve.new.self.keys ≡ c.self.inside.numbers.keys = c.reserve.ensures.keys in
    let number : c.number_of-number.result ≡ (place c.new.result.origin).number = c.number_of-number.ensures ∙ ap (λ (o : g.row.S-Origin.Denot). (place o).number) (sym c.new.ensures.origin) in
    let only : c.if-self.self ≡ false → (c.self.inside.searched ≡ false) × (c.insert_new-added.result ≡ true) = elim c.if-self.branch [
      | then-self w ↦ λ f. absurd (true≢false (sym w.if-self.true ∙ sym w.self-is ∙ f))
      | else-self w ↦ λ f. (w.if-self.false, not_false c.insert_new-added.result (sym w.self-is ∙ f))
    ] in
    let mapped : c.if-self-2.self ≡ false → (c.self.inside.unmapped ≡ false) × (c.if-self.self ≡ false) = elim c.if-self-2.branch [
      | then-self-2 w ↦ λ f. absurd (true≢false (sym w.if-self-2.true ∙ sym w.self-is ∙ f))
      | else-self-2 w ↦ λ f. (w.if-self-2.false, sym w.self-is ∙ f)
    ] in
    record {
      lists = subst (λ (js : List (Incarnation g.row.S-Origin.Denot)). AreIndexed place js c.insert_new-added.new.numbers.keys c.if-self.self) (sym c.in_ok-push.ensures.items)
          (indexed_push place is c.new.result c.self.inside.numbers.keys c.insert_new-added.new.numbers.keys c.self.inside.searched c.insert_new-added.result c.if-self.self c.number_of-number.result number
          (λ t. c.insert_new-added.ensures.added t ∙ ap (λ (ks : List ℕ). ks ++ c.number_of-number.result ∷ []) keys) c.insert_new-added.ensures.distinct only c.self.invariant.lists);
      indexed = λ u. (mapped u).1;
      markers = λ u. owned_push place is _ (place c.args.origin) _ (added place _ is _ c.args.origin c.in_ok-push.ensures.items c.new.ensures.origin c.new.ensures.entries) (c.self.invariant.markers (mapped u).0);
    }
