use Rattle.std.proofs.lemmas.List.{length-append, length-map}
use Rattle.std.proofs.Common.{rules, ◌≡◌, ◌+◌, ◌++◌, ◌∷◌, [], List, length, vec_len, true, false, true≢false, refl, sym, subst, ◌∙◌, ap, arith}
use Rattle.std.specs.List.{filter}
use Rattle.std.proofs.lemmas.List.Elements.{filter-append}
use Rattle.blob_model.specs.Pending.{Pending, Again, has_barrier, cut_by}
use Rattle.blob_pending.specs.Blocks.{AreBounded}
use Rattle.blob_pending.specs.Marks.{marks_of, barriers_in}
use Rattle.blob_pending.specs.Rooms.{HasRoomFor}
use Rattle.blob_pending.specs.Views.{view, views, is_left, left_in, AreDropped, CountsCovered}
use Rattle.blob_pending.proofs.Bounded.{barrier_again, bounded_pared, bounded_push}
use Rattle.blob_pending.proofs.CutSteps.{pushed_is, views_push, all_push}
use Rattle.blob_pending.proofs.Dropping.{dropped_push, dropped_pared, barriers_push, compacted_barriers}
use Rattle.blob_pending.proofs.Left.{barrier_left, counts_push, cut_left, compacted_barrier, compacted_marks}
use Rattle.blob_pending.proofs.Marking.{marks-push}
use Rattle.blob_pending.proofs.Queued.{queued_is, cut_is}
use Rattle.blob_pending.proofs.incarnation.Incarnation.lay.Goals as goal

pub compact-requires-clause-bounded : goal.compact-requires-clause-bounded
compact-requires-clause-bounded g c =
    bounded_pared c.args.self.now.bounds (views c.args.self.now.entries.items) (views c.cover_all-covered.new.entries.items) c.args.offset c.args.len c.args.self.now.bounded c.cover_all-covered.ensures.views

pub compact-requires-clause-dropped : goal.compact-requires-clause-dropped
compact-requires-clause-dropped g c =
    dropped_pared c.args.self.now.front (views c.args.self.now.entries.items) (views c.cover_all-covered.new.entries.items) c.args.offset c.args.len c.args.self.now.dropped c.cover_all-covered.ensures.views

pub compact-requires-clause-counted : goal.compact-requires-clause-counted
compact-requires-clause-counted g c =
    let old = c.args.self.now.entries in
    let cut = c.cover_all-covered.new.entries in
    let old_len : length old.items ≡ vec_len old = search rules in
    let cut_len : length cut.items ≡ vec_len cut = search rules in
    omega (arith, c.args.self.now.counted, c.cover_all-covered.ensures.left, c.cover_all-covered.ensures.len, c.saturating_add-self.ensures, old_len, cut_len, length-map old.items view, length-map cut.items view)

-- What is left if the range is queued, and if it isn't.

pub returns-then-self-clause-laid : goal.returns-then-self-clause-laid
returns-then-self-clause-laid g c bytes len same =
    let old = views c.args.self.now.entries.items in
    let q = c.compact.new.entries.items in
    let pushed : views c.push.new.self.items ≡ views q ++ Again c.args.offset c.args.copy.items ∷ [] = views_push q c.push.new.self.items _ (pushed_is q c.push.new.self.items _ _ c.push.ensures.items (search rules)) in
    let queues : c.args.self.now.queues ≡ true = search rules in
    let rest : left_in c.compact.new.entries.items ≡ cut_by c.args.offset c.args.len (left_in c.args.self.now.entries.items) =
    c.compact.ensures.left ∙ ap (λ (r : List Pending). filter is_left r) c.cover_all-covered.ensures.views ∙ sym (cut_left c.args.offset c.args.len old) in
    record {
      origin = refl;
      noted = refl;
      entries = ap (λ (r : List Pending). filter is_left r) pushed ∙ filter-append is_left (views q) (Again c.args.offset c.args.copy.items ∷ [])
          ∙ ap (λ (r : List Pending). r ++ Again c.args.offset c.args.copy.items ∷ []) rest
          ∙ queued_is (left_in c.args.self.now.entries.items) c.args.offset c.args.len c.args.copy.items bytes len same (barrier_left old ∙ sym c.args.self.now.queued ∙ queues);
    }

pub returns-else-self-clause-laid : goal.returns-else-self-clause-laid
returns-else-self-clause-laid g c bytes len same =
    let q = views c.args.self.now.entries.items in
    let idle : c.args.self.now.queues ≡ false = search rules in
    record {
      origin = refl;
      noted = refl;
      entries = c.compact.ensures.left ∙ ap (λ (r : List Pending). filter is_left r) c.cover_all-covered.ensures.views ∙ sym (cut_left c.args.offset c.args.len q)
          ∙ cut_is (left_in c.args.self.now.entries.items) c.args.offset c.args.len bytes len (barrier_left q ∙ sym c.args.self.now.queued ∙ idle);
    }

pub returns-then-self-clause-room : goal.returns-then-self-clause-room
returns-then-self-clause-room g c later h =
    let q = c.compact.new.entries.items in
    let one_more : vec_len c.push.new.self ≡ vec_len c.compact.new.entries + 1 = search rules in
    record {
      entries = omega (arith, h.entries, c.cover_all-covered.ensures.len, c.cover_all-covered.ensures.capacity, c.compact.ensures.len, c.compact.ensures.capacity, one_more, c.push.ensures.capacity);
      holes = all_push (HasRoomFor later) q c.push.new.self.items _ (pushed_is q c.push.new.self.items _ _ c.push.ensures.items (search rules)) (c.compact.ensures.holes later (c.cover_all-covered.ensures.room later h.holes)) tt;
    }

pub returns-else-self-clause-room : goal.returns-else-self-clause-room
returns-else-self-clause-room g c later h = record {
  entries = omega (arith, h.entries, c.cover_all-covered.ensures.len, c.cover_all-covered.ensures.capacity, c.compact.ensures.len, c.compact.ensures.capacity);
  holes = c.compact.ensures.holes later (c.cover_all-covered.ensures.room later h.holes);
}

pub returns-then-self-clause-half : goal.returns-then-self-clause-half
returns-then-self-clause-half g c =
    let q = c.compact.new.entries.items in
    let pushed : views c.push.new.self.items ≡ views q ++ Again c.args.offset c.args.copy.items ∷ [] = views_push q c.push.new.self.items _ (pushed_is q c.push.new.self.items _ _ c.push.ensures.items (search rules)) in
    let left : left_in c.push.new.self.items ≡ left_in q ++ Again c.args.offset c.args.copy.items ∷ [] = ap (λ (r : List Pending). filter is_left r) pushed ∙ filter-append is_left (views q) (Again c.args.offset c.args.copy.items ∷ []) in
    let one_more : vec_len c.push.new.self ≡ vec_len c.compact.new.entries + 1 = search rules in
    omega (arith, c.compact.ensures.half, one_more, ap length left, length-append (left_in q) (Again c.args.offset c.args.copy.items ∷ []))

-- What the other fields say of the entries.

pub invariant_of-self : goal.invariant_of-self
invariant_of-self g c =
    let q = c.compact.new.entries.items in
    let pushed : views c.push.new.self.items ≡ views q ++ Again c.args.offset c.args.copy.items ∷ [] = views_push q c.push.new.self.items _ (pushed_is q c.push.new.self.items _ _ c.push.ensures.items (search rules)) in
    let kept = views q in
    let queues : c.args.self.now.queues ≡ true = search rules in
    let barriers = compacted_barriers (views c.args.self.now.entries.items) (views c.cover_all-covered.new.entries.items) kept c.args.offset c.args.len c.cover_all-covered.ensures.views c.compact.ensures.left in
    record {
      dropped = subst (λ (r : List Pending). AreDropped c.compact.new.front r) (sym pushed) (dropped_push c.compact.new.front kept (Again c.args.offset c.args.copy.items) c.compact.ensures.dropped);
      barred = omega (arith, c.args.self.now.barred, barriers, ap barriers_in pushed, barriers_push kept (Again c.args.offset c.args.copy.items));
      marked = c.args.self.now.marked
          ∙ sym (ap marks_of pushed ∙ marks-push kept (Again c.args.offset c.args.copy.items) refl
          ∙ compacted_marks (views c.args.self.now.entries.items) (views c.cover_all-covered.new.entries.items) kept c.args.offset c.args.len c.cover_all-covered.ensures.views c.compact.ensures.left);
      queued = queues ∙ sym (ap has_barrier pushed ∙ barrier_again kept c.args.offset c.args.copy.items);
      bounded = subst (λ (r : List Pending). AreBounded c.compact.new.bounds r) (sym pushed) (bounded_push c.compact.new.bounds kept (Again c.args.offset c.args.copy.items) c.compact.ensures.bounded);
      counted = subst (λ (r : List Pending). CountsCovered c.compact.new.covered r) (sym pushed)
          (counts_push c.compact.new.covered c.compact.new.covered kept (Again c.args.offset c.args.copy.items) c.compact.ensures.counted (λ never. absurd (true≢false never)) (omega arith));
    }

pub invariant_of-self-else-self : goal.invariant_of-self-else-self
invariant_of-self-else-self g c = record {
  dropped = c.compact.ensures.dropped;
  barred = c.args.self.now.barred
      ∙ sym (compacted_barriers (views c.args.self.now.entries.items) (views c.cover_all-covered.new.entries.items) (views c.compact.new.entries.items) c.args.offset c.args.len c.cover_all-covered.ensures.views c.compact.ensures.left);
  marked = c.args.self.now.marked
      ∙ sym (compacted_marks (views c.args.self.now.entries.items) (views c.cover_all-covered.new.entries.items) (views c.compact.new.entries.items) c.args.offset c.args.len c.cover_all-covered.ensures.views c.compact.ensures.left);
  queued = c.args.self.now.queued
      ∙ sym (compacted_barrier (views c.args.self.now.entries.items) (views c.cover_all-covered.new.entries.items) (views c.compact.new.entries.items) c.args.offset c.args.len c.cover_all-covered.ensures.views c.compact.ensures.left);
  bounded = c.compact.ensures.bounded;
  counted = c.compact.ensures.counted;
}
