use Rattle.std.proofs.Common.{rules, ◌≡◌, ◌<◌, ◌∙◌, ◌++◌, ◌∷◌, ◌+◌, ◌||◌, ⊎_elim, ℕ, Bool, true, false, true≢false, cond, refl, sym, ap, subst, drop, length, get_or, arith, Vec, List, append_assoc, append-nil}
use Rattle.std.specs.Global.{Global}
use Rattle.std.specs.List.Sorted.{IsPermutation}
use Rattle.std.proofs.lemmas.Grind.{common_steps}
use Rattle.std.proofs.lemmas.Bool.{cases_Bool, cond-true, cond-false}
use Rattle.std.proofs.lemmas.List.{at_drop_all, at_drop_more}
use Rattle.std.proofs.lemmas.List.Sorted.{IsPermutation-map, IsNonDecreasingBy-from_sort_by_key}
use Rattle.blob_model.specs.Log.{Need}
use Rattle.blob_model.specs.Order.{waiting_of_all}
use Rattle.blob_model.specs.Pending.{is_marker, has_marker, waiting}
use Rattle.blob_pending.specs.declared.entry.Entry.{Entry}
use Rattle.blob_pending.specs.declared.incarnation.Incarnation.{Incarnation}
use Rattle.blob_draws.specs.declared.draw.Draw.{Draw}
use Rattle.blob_draws.specs.Drawings.{Drawing, drawing_in, drawings_of, drawings_in}
use Rattle.blob_pending.specs.Lists.{lists_of}
use Rattle.blob_pending.specs.Views.{view, is_left, left_in}
use Rattle.blob_pending.specs.declared.entry.Entry.TheVariants as entry
use Rattle.blob_pending.proofs.Gathering.{lists_more, drawn_more}
use Rattle.blob_pending.proofs.Unmarked.{unmarked_waits, unmarked_none}
use Rattle.blob_pending.proofs.gather.gather.Goals as goal
use Rattle.blob_pending.proofs.gather.gather.Goals.{in-Write+in_ok-push-in-Write, in-Write+else-not-is_covered, in-Resize-1}

or_rest : (a b : Bool) → (a || b) ≡ false → b ≡ false
or_rest true b e = absurd (true≢false e)
or_rest false b e = e

-- no marker is behind an entry
none_more : (q : List Entry) (i : ℕ) (d : Entry) → i < length q → has_marker (left_in (drop i q)) ≡ false → has_marker (left_in (drop (i + 1) q)) ≡ false
none_more q i d inside none =
    let e = view (get_or q i d) in
    let rest = left_in (drop (i + 1) q) in
    let here : has_marker (cond (is_left e) (e ∷ rest) rest) ≡ false = sym (at_drop_more (λ (l : List Entry). has_marker (left_in l)) q i d inside) ∙ none in
    ⊎_elim
    (λ y. or_rest (is_marker e) (has_marker rest) (sym (ap has_marker (cond-true (is_left e) (e ∷ rest) rest y)) ∙ here))
    (λ n. sym (ap has_marker (cond-false (is_left e) (e ∷ rest) rest n)) ∙ here)
    (cases_Bool (is_left e))

pub loop-entry-init : goal.loop-entry-init
loop-entry-init g c = record { none = ap has_marker c.unmarked-entry-items.ensures ∙ unmarked_none (left_in c.deref.result.now); so_far = refl }

pub loop-entry-preserved : goal.loop-entry-preserved
loop-entry-preserved g c = record {
  none = none_more c.unmarked-entry-items.result.now c.loop-entry.entry-index c.entry-item.result (omega arith) c.loop-entry.invariant.none;
  so_far = elim c.match-entry.branch [
    | in-Write+in_ok-push-in-Write w ↦
        let it = w.in-Write.write in
        let q = c.unmarked-entry-items.result.now in
        let at : get_or q c.loop-entry.entry-index (entry.Write it) ≡ entry.Write it = subst (λ (e : Entry). get_or q c.loop-entry.entry-index e ≡ e) w.in-Write.is (sym c.entry-item.is) in
        let left : is_left (view (entry.Write it)) ≡ true = search rules in
        let len : w.len.result ≡ length it.bytes = search rules in
        let none = none_more q c.loop-entry.entry-index c.entry-item.result (omega arith) c.loop-entry.invariant.none in
        let drawing : ℕ → Drawing = λ n. record { number = it.number; offset = it.offset; len = n; mode = it.mode; rate = it.rate } in
        drawn_more c.loop-entry.draws.items c.match-entry.draws.items _ q c.loop-entry.entry-index it (omega arith) at left none
        (ap (λ (v : Vec Draw Global). v.items) w.draws-is ∙ w.in_ok-push-in-Write.ensures.items) (ap drawing len)
        ∙ c.loop-entry.invariant.so_far
    | in-Write+else-not-is_covered w ↦ rw w.draws-is (first_of (search rules, grind (arith, common_steps)))
    | in-Resize-1 w ↦ rw w.draws-is (first_of (search rules, grind (arith, common_steps)))
  ];
}

pub loop-list-preserved : goal.loop-list-preserved
loop-list-preserved g c place =
    let x = c.list-item.result in
    let i = c.loop-list.list-index in
    let q = c.unmarked-entry-items.result.now in
    let before : List Drawing = drawings_in c.loop-list.draws.items in
    let later : List Drawing = drawings_of (waiting_of_all (lists_of place (drop (i + 1) c.args.lists.now))) in
    let here : waiting (left_in q) ≡ waiting (left_in x.entries.items) = ap waiting c.unmarked-entry-items.ensures ∙ unmarked_waits (left_in c.deref.result.now) ∙ ap (λ (q : List Entry). waiting (left_in q)) c.deref.ensures.value in
    let all : drawings_in c.loop-entry.draws.items ≡ before ++ drawings_of (waiting (left_in q)) =
    sym (append-nil _) ∙ sym (ap (λ (l : List Drawing). drawings_in c.loop-entry.draws.items ++ l) (at_drop_all (λ (l : List Entry). drawings_of (waiting (left_in l))) q c.loop-entry.entry-index (omega arith))) ∙ c.loop-entry.invariant.so_far in
    ap (λ (l : List Drawing). l ++ later) (all ∙ ap (λ (ns : List Need). before ++ drawings_of ns) here)
    ∙ append_assoc before (drawings_of (waiting (left_in x.entries.items))) later
    ∙ sym (ap (λ (l : List Drawing). before ++ l) (lists_more place c.args.lists.now i x (omega arith) c.list-item.is))
    ∙ c.loop-list.invariant place

pub returns-clause-all : goal.returns-clause-all
returns-clause-all g c place =
    let done : List Drawing = drawings_in c.loop-list.draws.items in
    let all : done ≡ drawings_of (waiting_of_all (lists_of place c.args.lists.now)) =
    sym (append-nil done) ∙ sym (ap (λ (l : List Drawing). done ++ l) (at_drop_all (λ (l : List (Incarnation g.row.O.Denot)). drawings_of (waiting_of_all (lists_of place l))) c.args.lists.now c.loop-list.list-index (omega arith))) ∙ c.loop-list.invariant place in
    subst (λ (l : List Drawing). IsPermutation l (drawings_in c.sort_unstable_by_key.new.self.items)) all (IsPermutation-map drawing_in c.loop-list.draws.items c.sort_unstable_by_key.new.self.items c.sort_unstable_by_key.ensures.permutation)

pub returns-clause-rising : goal.returns-clause-rising
returns-clause-rising g c = IsNonDecreasingBy-from_sort_by_key (λ (d : Draw). d.number) _ c.sort_unstable_by_key.ensures.sorted (λ a r q k. search rules)
