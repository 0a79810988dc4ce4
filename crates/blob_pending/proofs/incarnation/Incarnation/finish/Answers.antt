use Rattle.std.proofs.Common.{rules, ◌≡◌, ◌≤◌, ◌-◌, ◌∙◌, ℕ, ltb, List, length, vec_len, drop, refl, sym, subst, ap, arith}
use Rattle.std.specs.List.{filter}
use Rattle.std.proofs.lemmas.List.{length-map}
use Rattle.blob_model.specs.Pending.{Pending, finish}
use Rattle.blob_pending.specs.declared.entry.Entry.{Entry}
use Rattle.blob_pending.specs.Marks.{marks_of, left_marks, barriers_in}
use Rattle.blob_pending.specs.Views.{view, views, is_left, AreDropped}
use Rattle.blob_pending.proofs.Dropping.{left_finished, counts_dropped, some_barrier, barriers_same}
use Rattle.blob_pending.proofs.Left.{finished_left}
use Rattle.blob_pending.proofs.Marking.{finished_marks, finished_none, marks-left}
use Rattle.blob_pending.proofs.incarnation.Incarnation.finish.Goals as goal

pub returns-in_default : goal.returns-in_default
returns-in_default g c = record {
  origin = refl;
  noted = refl;
  entries = ap (λ (q : List Pending). filter is_left q)
      (finished_none c.args.marker (views c.args.self.now.entries.items) (left_marks c.args.self.now.marks) c.args.self.now.marked (sym c.in_default.is ∙ c.place_of.ensures))
      ∙ sym (finished_left c.args.marker (views c.args.self.now.entries.items));
}

pub end_of-requires : goal.end_of-requires
end_of-requires g c = subst (λ (q : List Entry). AreDropped c.args.self.now.front (views q)) (sym c.deref.ensures.value) c.args.self.now.dropped

pub returns-in_default-end_of : goal.returns-in_default-end_of
returns-in_default-end_of g c =
    let q = c.args.self.now.entries.items in
    let none : views q ≡ finish c.args.marker (views q) = subst (λ (l : List Entry). views l ≡ finish c.args.marker (views l)) c.deref.ensures.value c.in_default-end_of.ensures.none in
    record {
      origin = refl;
      noted = refl;
      entries = ap (λ (l : List Pending). filter is_left l) none ∙ sym (finished_left c.args.marker (views q));
    }

pub compact-requires : goal.compact-requires
compact-requires g c =
    let list = c.args.self.now in
    let q = list.entries.items in
    let r = c.drop_between.new.entries.items in
    let end = c.in-Some-end_of.end in
    let order : list.front ≤ end = c.in-Some-end_of.ensures.from in
    let q_len : length q ≡ vec_len list.entries = search rules in
    let r_len : length r ≡ vec_len c.drop_between.new.entries = search rules in
    let len : length r ≡ length q = omega (arith, q_len, r_len, c.drop_between.ensures.len) in
    let most = counts_dropped list.covered list.front end q r list.dropped c.drop_between.ensures.dropped c.drop_between.ensures.rest order len list.counted in
    record {
      bounded = c.drop_between.ensures.bounded list.bounds list.bounded;
      dropped = c.drop_between.ensures.dropped;
      counted = omega (arith, most, c.saturating_add-self.ensures, length-map r view, r_len);
    }

pub invariant_of-self : goal.invariant_of-self
invariant_of-self g c =
    let list = c.args.self.now in
    let m = c.args.marker in
    let q = views list.entries.items in
    let r = c.drop_between.new.entries.items in
    let new = views c.compact.new.entries.items in
    let is : views (drop c.in-Some-end_of.end list.entries.items) ≡ finish m q =
    subst (λ (l : List Entry). views (drop c.in-Some-end_of.end l) ≡ finish m (views l)) c.deref.ensures.value c.in-Some-end_of.ensures.some in
    let left : filter is_left new ≡ finish m (filter is_left q) =
    c.compact.ensures.left ∙ left_finished m c.in-Some-end_of.end list.entries.items r c.drop_between.ensures.dropped c.drop_between.ensures.rest is in
    let barred : list.barriers - c.drop_between.result ≡ barriers_in new = omega (arith, list.barred, c.drop_between.ensures.barriers, barriers_same (views r) new c.compact.ensures.left) in
    record {
      dropped = c.compact.ensures.dropped;
      marked = c.drop_front.ensures ∙ finished_marks m q (left_marks list.marks) c.in-Some.place list.marked (sym c.in-Some.is ∙ c.place_of.ensures)
          ∙ sym (marks-left (finish m q)) ∙ ap marks_of (sym (left ∙ finished_left m q)) ∙ marks-left new;
      barred = barred;
      queued = ap (λ (n : ℕ). ltb 0 n) barred ∙ some_barrier new;
      bounded = c.compact.ensures.bounded;
      counted = c.compact.ensures.counted;
    }

pub returns : goal.returns
returns g c =
    let list = c.args.self.now in
    let m = c.args.marker in
    let is : views (drop c.in-Some-end_of.end list.entries.items) ≡ finish m (views list.entries.items) =
    subst (λ (l : List Entry). views (drop c.in-Some-end_of.end l) ≡ finish m (views l)) c.deref.ensures.value c.in-Some-end_of.ensures.some in
    record {
      origin = refl;
      noted = refl;
      entries = c.compact.ensures.left ∙ left_finished m c.in-Some-end_of.end list.entries.items c.drop_between.new.entries.items c.drop_between.ensures.dropped c.drop_between.ensures.rest is;
    }
