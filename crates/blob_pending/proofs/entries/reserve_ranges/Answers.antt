use Rattle.std.proofs.Common.{rules, ◌≡◌, ◌<◌, ◌∙◌, ap, sym, subst, List, length, get_or, arith}
use Rattle.blob_model.specs.Holes.{Holes}
use Rattle.blob_pending.specs.Rooms.{AreWithin, HasRoomFor}
use Rattle.blob_pending.specs.Views.{view, views}
use Rattle.blob_pending.specs.declared.entry.Entry.{Entry}
use Rattle.blob_pending.proofs.Bounded.{passed_room, jump}
use Rattle.blob_pending.proofs.CutSteps.{views_set, later_set}
use Rattle.blob_pending.proofs.entries.reserve_ranges.Goals as goal

pub loop-i-init : goal.loop-i-init
loop-i-init c =
    let q = c.args.entries.now.items in
    let same : c.reserve.new.self.items ≡ q = search rules in
    record {
      inside = c.next_near-i.ensures.len;
      len = search rules;
      capacity = search rules;
      views = ap views same;
      room = λ k d l hs few. subst (λ (x : List Entry). HasRoomFor hs (get_or x k d)) (sym same) (passed_room c.args.bounds.now q k c.args.start c.args.end c.args.count d hs c.requires (c.next_near-i.ensures.passed k (omega arith) l) few);
      later = λ k d l. ap (λ (x : List Entry). get_or x k d) same;
    }

pub loop-i-preserved : goal.loop-i-preserved
loop-i-preserved c =
    let q0 = c.args.entries.now.items in
    let q = c.loop-i.entries.items in
    let i = c.loop-i.i in
    let e = c.reserve-in-loop-i.new.self in
    let h : i < length q = omega arith in
    let next = c.next_near-i-in-loop-i.ensures in
    let kept = c.loop-i.invariant in
    let at : c.index_mut.result.now ≡ get_or q i c.index_mut.result.now = search rules in
    let told : view e ≡ view (get_or q i c.index_mut.result.now) = c.reserve-in-loop-i.ensures.view ∙ ap view at in
    record {
      inside = next.len;
      len = first_of (search rules, omega (arith, kept.len));
      capacity = first_of (search rules, omega (arith, kept.capacity));
      views = views_set q i c.index_mut.result.now e h told ∙ kept.views;
      room = jump (λ k d x. (hs : Holes) → AreWithin c.args.start c.args.end c.args.count hs → HasRoomFor hs x) q q0 i c.next_near-i-in-loop-i.result e h kept.room
          (λ d. c.in_ok-reserve-2.ensures.ok) kept.later
          (λ k d a l hs few. passed_room c.args.bounds.now q0 k c.args.start c.args.end c.args.count d hs c.requires (next.passed k a l) few);
      later = λ k d l. later_set q q0 i e kept.later k d (omega (arith, l, next.from));
    }

pub returns-in_err-reserve-2-clause-views : goal.returns-in_err-reserve-2-clause-views
returns-in_err-reserve-2-clause-views c =
    let q = c.loop-i.entries.items in
    let i = c.loop-i.i in
    let h : i < length q = omega arith in
    let at : c.index_mut.result.now ≡ get_or q i c.index_mut.result.now = search rules in
    let told : view c.reserve-in-loop-i.new.self ≡ view (get_or q i c.index_mut.result.now) = c.reserve-in-loop-i.ensures.view ∙ ap view at in
    views_set q i c.index_mut.result.now c.reserve-in-loop-i.new.self h told ∙ c.loop-i.invariant.views
