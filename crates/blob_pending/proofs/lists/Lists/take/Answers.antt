use Rattle.std.proofs.Common.{rules, ◌≡◌, ◌∙◌, ◌<◌, Bool, None, false, true, true≢false, cond, nat_eq, get_or, ap, arith, subst, sym, vec_len}
use Rattle.std.specs.List.{list_any}
use Rattle.indexmap.specs.IndexMap.{get}
use Rattle.blob_pending.specs.declared.incarnation.Incarnation.{Incarnation}
use Rattle.blob_pending.specs.Marks.{marks_of}
use Rattle.blob_pending.specs.Shown.{Shown}
use Rattle.blob_pending.specs.Views.{left_in}
use Rattle.blob_pending.proofs.Numbering.{used, indexed_take}
use Rattle.blob_pending.proofs.Owning.{marks_are, owned_taken}
use Rattle.blob_pending.proofs.Taking.{distinct_taken, taken_of, takes, IsTaken}
use Rattle.blob_pending.proofs.lists.Lists.take.Goals as goal

pub invariant_of-self-inside : goal.invariant_of-self-inside
invariant_of-self-inside g c =
    let inside : c.args.i < vec_len c.self.inside.all.lists = subst (λ (v : Shown g.row.S-Origin.Denot). c.args.i < vec_len v.all.lists) (sym c.self.view_is) c.requires in
    record {
      distinct = distinct_taken c.self.inside.all.lists.items c.swap_remove-list.new.self.items c.args.i
          (taken_of c.self.inside.all.lists.items c.swap_remove-list.new.self.items c.args.i _ (omega arith) (omega (arith, inside)) (omega (arith, c.swap_remove-list.ensures.len)) c.swap_remove-list.ensures.by_index)
          c.self.inside.all.distinct;
    }

pub invariant_of-self : goal.invariant_of-self
invariant_of-self g c =
    let place = g.S.Durable.place in
    let is = c.self.inside.all.lists.items in
    let js = c.swap_remove-list.new.self.items in
    let list = c.swap_remove-list.result in
    let inside : c.args.i < vec_len c.self.inside.all.lists = subst (λ (v : Shown g.row.S-Origin.Denot). c.args.i < vec_len v.all.lists) (sym c.self.view_is) c.requires in
    let no : c.self.inside.searched ≡ false = search rules in
    let taken : IsTaken is js c.args.i = taken_of is js c.args.i _ (omega arith) (omega (arith, inside)) (omega (arith, c.swap_remove-list.ensures.len)) c.swap_remove-list.ensures.by_index in
    let marks : c.left.result.now ≡ marks_of (left_in (get_or is c.args.i list).entries.items) =
    c.left.ensures ∙ sym (marks_are list) ∙ ap (λ (x : Incarnation g.row.S-Origin.Denot). marks_of (left_in x.entries.items)) c.swap_remove-list.ensures.value in
    record {
      lists = rw no (indexed_take place is js c.args.i list c.self.inside.numbers.keys c.swap_remove_index.new.self.keys c.swap_remove_index.result
          (omega (arith, inside)) c.swap_remove-list.ensures.items c.swap_remove_index.ensures.key c.swap_remove_index.ensures.keys c.swap_remove_index.ensures.unique (used c.self.invariant.lists no));
      indexed = λ u. no;
      markers = λ u. owned_taken place is c.self.inside.numbers.keys (used c.self.invariant.lists no) (get nat_eq c.self.inside.owners) (c.self.invariant.markers u) js c.args.i list (get nat_eq c.forget.new.owners) taken
          (λ m other. c.forget.ensures m ∙ ap (λ (b : Bool). cond b None (get nat_eq c.self.inside.owners m)) (ap (list_any (nat_eq m)) marks ∙ other));
    }

pub invariant_of-self-else-not-self : goal.invariant_of-self-else-not-self
invariant_of-self-else-not-self g c =
    let yes : c.self.inside.searched ≡ true = search rules in
    record {
      lists = rw yes (record { distinct = c.self.invariant.lists.distinct; numbers = λ n. absurd (true≢false n) });
      indexed = c.self.invariant.indexed;
      markers = λ u. absurd (true≢false (sym yes ∙ c.self.invariant.indexed u));
    }

pub returns-then-not-self : goal.returns-then-not-self
returns-then-not-self g c = rw (← c.self.view_is) (takes g.S.Durable.place c.self.inside.all.lists.items c.swap_remove-list.new.self.items c.args.i _ c.swap_remove-list.result g.met.S.Durable.one_origin c.self.inside.all.distinct (omega arith) (omega (arith, c.swap_remove-list.ensures.len)) c.swap_remove-list.ensures.by_index)

pub returns : goal.returns
returns g c = rw (← c.self.view_is) (takes g.S.Durable.place c.self.inside.all.lists.items c.swap_remove-list.new.self.items c.args.i _ c.swap_remove-list.result g.met.S.Durable.one_origin c.self.inside.all.distinct (omega arith) (omega (arith, c.swap_remove-list.ensures.len)) c.swap_remove-list.ensures.by_index)
