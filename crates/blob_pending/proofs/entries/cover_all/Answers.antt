use Rattle.std.proofs.Common.{rules, ◌≡◌, ◌<◌, ◌+◌, ◌∙◌, ◌∷◌, ◌&&◌, not, ℕ, cond, refl, sym, ap, subst, length, vec_len, get_or, arith}
use Rattle.std.proofs.lemmas.List.{get_or_default}
use Rattle.blob_pending.specs.Rooms.{HasRoomFor}
use Rattle.blob_pending.specs.Views.{view, pared_by, is_left}
use Rattle.blob_model.specs.Holes.{Holes}
use Rattle.blob_pending.specs.declared.entry.Entry.{Entry}
use Rattle.blob_pending.proofs.Bounded.{passed_pared, rest_room, views_each, jump}
use Rattle.blob_pending.proofs.CutSteps.{later_set}
use Rattle.blob_pending.proofs.Left.{set_left}
use Rattle.blob_pending.proofs.entries.cover_all.Goals as goal

pub loop-i-init : goal.loop-i-init
loop-i-init c =
    let bs = c.args.bounds.now in
    let q = c.args.entries.now.items in
    let passed = c.next_near-i.ensures.passed in
    record {
      inside = c.next_near-i.ensures.len;
      few = omega arith;
      len = refl;
      capacity = refl;
      left = omega arith;
      done = λ k d l. passed_pared bs q k c.args.start c.args.len d c.requires.bounded (passed k (omega arith) l);
      room = λ k d l later r. rest_room (get_or q k d) (c.args.start, c.args.start + c.args.len) later r;
      later = λ k d l. refl;
    }

pub loop-i-preserved : goal.loop-i-preserved
loop-i-preserved c =
    let bs = c.args.bounds.now in
    let q = c.loop-i.entries.items in
    let q0 = c.args.entries.now.items in
    let i = c.loop-i.i in
    let j = c.next_near-i-in-loop-i.result in
    let e = c.cover.new.self in
    let range : ℕ × ℕ = (c.args.start, c.args.start + c.args.len) in
    let h : i < length q = omega arith in
    let next = c.next_near-i-in-loop-i.ensures in
    let kept = c.loop-i.invariant in
    let at : c.index_mut.result.now ≡ get_or q i c.index_mut.result.now = search rules in
    let here : (d : Entry) → get_or q0 i d ≡ get_or q i c.index_mut.result.now = λ d. sym (kept.later i d (omega arith)) ∙ get_or_default q i d c.index_mut.result.now h in
    let told : view e ≡ pared_by c.args.start c.args.len (view (get_or q i c.index_mut.result.now)) = c.cover.ensures.view ∙ ap (λ (x : Entry). pared_by c.args.start c.args.len (view x)) at in
    let told_left = set_left q i c.index_mut.result.now e c.cover.result h (subst (λ (x : Entry). c.cover.result ≡ (is_left (view x) && not (is_left (view e)))) at c.cover.ensures.covered) in
    let told_covered : c.if-cover.covered ≡ c.loop-i.covered + cond c.cover.result 1 0 = search rules in
    record {
      inside = next.len;
      few = omega (arith, kept.few, next.from);
      len = first_of (search rules, omega (arith, kept.len));
      capacity = first_of (search rules, omega (arith, kept.capacity));
      left = omega (arith, kept.left, told_left, told_covered);
      done = jump (λ k d x. view x ≡ pared_by c.args.start c.args.len (view (get_or q0 k d))) q q0 i j e h kept.done (λ d. told ∙ ap (λ (x : Entry). pared_by c.args.start c.args.len (view x)) (sym (here d))) kept.later
          (λ k d a l. passed_pared bs q0 k c.args.start c.args.len d c.requires.bounded (next.passed k a l));
      room = jump (λ k d x. (later : Holes) → HasRoomFor (range ∷ later) (get_or q0 k d) → HasRoomFor later x) q q0 i j e h kept.room
          (λ d later r. c.cover.ensures.room later (subst (λ (x : Entry). HasRoomFor (range ∷ later) x) (here d ∙ sym at) r)) kept.later
          (λ k d a l later r. rest_room (get_or q0 k d) range later r);
      later = λ k d l. later_set q q0 i e kept.later k d (omega (arith, l, next.from));
    }

pub returns-clause-views : goal.returns-clause-views
returns-clause-views c =
    let now : length c.loop-i.entries.items ≡ vec_len c.loop-i.entries = search rules in
    let before : length c.args.entries.now.items ≡ vec_len c.args.entries.now = search rules in
    let same : length c.loop-i.entries.items ≡ length c.args.entries.now.items = omega (arith, now, before, c.loop-i.invariant.len) in
    views_each (pared_by c.args.start c.args.len) c.loop-i.entries.items c.args.entries.now.items same (λ k d l. c.loop-i.invariant.done k d (omega (arith, l, same, c.loop-i-test.false)))

pub returns-clause-room : goal.returns-clause-room
returns-clause-room c later all k d l =
    let now : length c.loop-i.entries.items ≡ vec_len c.loop-i.entries = search rules in
    let before : length c.args.entries.now.items ≡ vec_len c.args.entries.now = search rules in
    let same : length c.loop-i.entries.items ≡ length c.args.entries.now.items = omega (arith, now, before, c.loop-i.invariant.len) in
    c.loop-i.invariant.room k d (omega (arith, l, same, c.loop-i-test.false)) later (all k d (omega (arith, l, same)))

pub returns-clause-left : goal.returns-clause-left
returns-clause-left c = c.loop-i.invariant.left
