use Rattle.std.proofs.Common.{rules, ◌≡◌, ◌<◌, ◌∙◌, arith, length, ap, refl, subst, sym, List, get_or}
use Rattle.std.proofs.lemmas.Grind.{common_steps}
use Rattle.blob_model.specs.Order.{ListAt, held_at}
use Rattle.blob_model.specs.Places.{Place}
use Rattle.blob_pending.specs.Shown.{Shown}
use Rattle.blob_pending.specs.Marks.{marks_of}
use Rattle.blob_pending.specs.Lists.{lists_of, IsAt, SameLists}
use Rattle.blob_pending.proofs.ListSteps.{held_len, held_same, room_in}
use Rattle.blob_pending.proofs.Distinct.{distinct_set, same_origin}
use Rattle.blob_pending.proofs.Owning.{found_set}
use Rattle.blob_pending.proofs.lists.Lists.reserve_list.Goals as goal
use Rattle.blob_pending.proofs.lists.Lists.reserve_list.Goals.{in-Some, in-None+in_ok-origin-in-None+in_ok-i-in-None}

pub returns-in_err-reserve-clause-same : goal.returns-in_err-reserve-clause-same
returns-in_err-reserve-clause-same g c o =
    let place = g.S.Durable.place in
    let was = c.match-find.self in
    let is = c.self-2.inside.all.lists.items in
    let at : IsAt (lists_of place was.all.lists.items) c.match-find.i (g.B.Blob.place c.args.blob.now) = elim c.match-find.branch [
      | in-Some w ↦ rw w.self-is (rw w.i-is (subst (λ (q : Place). IsAt (lists_of place c.args.self.now.all.lists.items) w.in-Some.i q) c.origin_ref.ensures w.in-Some.ensures.some))
      | in-None+in_ok-origin-in-None+in_ok-i-in-None w ↦ rw w.self-is (rw w.i-is (first_of (search rules, grind (arith, common_steps))))
    ] in
    let at : IsAt (lists_of place is) c.match-find.i (g.B.Blob.place c.args.blob.now) = subst (λ (v : Shown g.row.S-Origin.Denot). IsAt (lists_of place v.all.lists.items) c.match-find.i (g.B.Blob.place c.args.blob.now)) (sym c.self-2.view_is) at in
    let inside : c.match-find.i < length is = omega (arith, at.inside, held_len place is) in
    let here : c.index_mut.result.now ≡ get_or is c.match-find.i c.index_mut.result.now = search rules in
    let same : SameLists place c.args.self.now.all.lists.items was.all.lists.items = elim c.match-find.branch [
      | in-Some w ↦ rw w.self-is (λ q. refl)
      | in-None+in_ok-origin-in-None+in_ok-i-in-None w ↦ rw w.self-is w.add.ensures.same
    ] in
    let same : SameLists place c.args.self.now.all.lists.items is = subst (λ (v : Shown g.row.S-Origin.Denot). SameLists place c.args.self.now.all.lists.items v.all.lists.items) (sym c.self-2.view_is) same in
    ap (λ (hs : List ListAt). held_at hs o) (held_same place is c.match-find.i c.index_mut.result.now c.reserve.new.self inside here c.reserve.ensures.same.origin c.reserve.ensures.same.entries) ∙ same o

pub returns-clause-same : goal.returns-clause-same
returns-clause-same g c o =
    let place = g.S.Durable.place in
    let was = c.match-find.self in
    let is = c.self-2.inside.all.lists.items in
    let at : IsAt (lists_of place was.all.lists.items) c.match-find.i (g.B.Blob.place c.args.blob.now) = elim c.match-find.branch [
      | in-Some w ↦ rw w.self-is (rw w.i-is (subst (λ (q : Place). IsAt (lists_of place c.args.self.now.all.lists.items) w.in-Some.i q) c.origin_ref.ensures w.in-Some.ensures.some))
      | in-None+in_ok-origin-in-None+in_ok-i-in-None w ↦ rw w.self-is (rw w.i-is (first_of (search rules, grind (arith, common_steps))))
    ] in
    let at : IsAt (lists_of place is) c.match-find.i (g.B.Blob.place c.args.blob.now) = subst (λ (v : Shown g.row.S-Origin.Denot). IsAt (lists_of place v.all.lists.items) c.match-find.i (g.B.Blob.place c.args.blob.now)) (sym c.self-2.view_is) at in
    let inside : c.match-find.i < length is = omega (arith, at.inside, held_len place is) in
    let here : c.index_mut.result.now ≡ get_or is c.match-find.i c.index_mut.result.now = search rules in
    let same : SameLists place c.args.self.now.all.lists.items was.all.lists.items = elim c.match-find.branch [
      | in-Some w ↦ rw w.self-is (λ q. refl)
      | in-None+in_ok-origin-in-None+in_ok-i-in-None w ↦ rw w.self-is w.add.ensures.same
    ] in
    let same : SameLists place c.args.self.now.all.lists.items is = subst (λ (v : Shown g.row.S-Origin.Denot). SameLists place c.args.self.now.all.lists.items v.all.lists.items) (sym c.self-2.view_is) same in
    ap (λ (hs : List ListAt). held_at hs o) (held_same place is c.match-find.i c.index_mut.result.now c.reserve.new.self inside here c.reserve.ensures.same.origin c.reserve.ensures.same.entries) ∙ same o

pub returns-clause-ok : goal.returns-clause-ok
returns-clause-ok g c =
    let place = g.S.Durable.place in
    let was = c.match-find.self in
    let is = c.self-2.inside.all.lists.items in
    let at : IsAt (lists_of place was.all.lists.items) c.match-find.i (g.B.Blob.place c.args.blob.now) = elim c.match-find.branch [
      | in-Some w ↦ rw w.self-is (rw w.i-is (subst (λ (q : Place). IsAt (lists_of place c.args.self.now.all.lists.items) w.in-Some.i q) c.origin_ref.ensures w.in-Some.ensures.some))
      | in-None+in_ok-origin-in-None+in_ok-i-in-None w ↦ rw w.self-is (rw w.i-is (first_of (search rules, grind (arith, common_steps))))
    ] in
    let at : IsAt (lists_of place is) c.match-find.i (g.B.Blob.place c.args.blob.now) = subst (λ (v : Shown g.row.S-Origin.Denot). IsAt (lists_of place v.all.lists.items) c.match-find.i (g.B.Blob.place c.args.blob.now)) (sym c.self-2.view_is) at in
    let inside : c.match-find.i < length is = omega (arith, at.inside, held_len place is) in
    let here : c.index_mut.result.now ≡ get_or is c.match-find.i c.index_mut.result.now = search rules in
    record {
      at = subst (λ (hs : List ListAt). IsAt hs c.match-find.i (g.B.Blob.place c.args.blob.now)) (sym (held_same place is c.match-find.i c.index_mut.result.now c.reserve.new.self inside here c.reserve.ensures.same.origin c.reserve.ensures.same.entries)) at;
      here = room_in is c.match-find.i c.args.room c.reserve.new.self inside c.in_ok-reserve.ensures.ok;
    }

pub invariant_of-self-inside : goal.invariant_of-self-inside
invariant_of-self-inside g c =
    let is = c.self-2.inside.all.lists.items in
    let at : c.index_mut.result.now ≡ get_or is c.match-find.i c.index_mut.result.now = c.index_mut.ensures.value in
    record { distinct = distinct_set is c.match-find.i c.reserve.new.self (same_origin is c.match-find.i c.index_mut.result.now c.reserve.new.self at c.reserve.ensures.same.origin) c.self-2.inside.all.distinct }

pub invariant_of-self : goal.invariant_of-self
invariant_of-self g c =
    let is = c.self-2.inside.all.lists.items in
    let at : c.index_mut.result.now ≡ get_or is c.match-find.i c.index_mut.result.now = c.index_mut.ensures.value in
    found_set g.S.Durable.place is c.match-find.i c.index_mut.result.now c.reserve.new.self c.self-2.inside.numbers.keys c.self-2.inside.searched _ c.self-2.inside.unmapped at c.reserve.ensures.same.origin
    (ap marks_of c.reserve.ensures.same.entries) c.self-2.invariant

pub invariant_of-self-2 : goal.invariant_of-self-2
invariant_of-self-2 g c =
    let is = c.self-2.inside.all.lists.items in
    let at : c.index_mut.result.now ≡ get_or is c.match-find.i c.index_mut.result.now = c.index_mut.ensures.value in
    found_set g.S.Durable.place is c.match-find.i c.index_mut.result.now c.reserve.new.self c.self-2.inside.numbers.keys c.self-2.inside.searched _ c.self-2.inside.unmapped at c.reserve.ensures.same.origin
    (ap marks_of c.reserve.ensures.same.entries) c.self-2.invariant
