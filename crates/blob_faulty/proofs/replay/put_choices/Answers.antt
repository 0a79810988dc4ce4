use Rattle.std.proofs.Common.{rules, ℕ, ◌≡◌, ◌∙◌, ◌+◌, ◌-◌, ◌<◌, ◌≤◌, ◌++◌, Bool, true, false, not, ◌&&◌, ◌||◌, List, length, get_or, take, drop, replicate, refl, sym, ap, ap₂, arith}
use Rattle.std.proofs.lemmas.List.{at_drop_more, get_or_append_left, get_or-take, length-take, length-drop}
use Rattle.std.proofs.lemmas.Grind.{common_steps}
use Rattle.blob_model.specs.Bytes.{between}
use Rattle.blob_model.specs.Holes.{in_holes}
use Rattle.blob_pending.specs.declared.extent.Extent.{Extent}
use Rattle.blob_pending.specs.Ranges.{ranges}
use Rattle.blob_faulty.proofs.Replaying.{cleared_at, cleared_len, covered_at, hole_in, padded}
use Rattle.blob_faulty.proofs.replay.put_choices.Goals as goal

pub overflow_sub-start : goal.overflow_sub-start
overflow_sub-start c = let hole = hole_in c.args.write.now c.deref-hole-items.result.now c.loop-hole.hole-index (record { start = 0; end = 0 }) c.deref-hole-items.ensures.value (omega arith) in omega (arith, hole.low, hole.some, hole.high)

pub overflow_sub-end : goal.overflow_sub-end
overflow_sub-end c = let hole = hole_in c.args.write.now c.deref-hole-items.result.now c.loop-hole.hole-index (record { start = 0; end = 0 }) c.deref-hole-items.ensures.value (omega arith) in omega (arith, hole.low, hole.some, hole.high)

pub slice_bounds-fill-count : goal.slice_bounds-fill-count
slice_bounds-fill-count c = let hole = hole_in c.args.write.now c.deref-hole-items.result.now c.loop-hole.hole-index (record { start = 0; end = 0 }) c.deref-hole-items.ensures.value (omega arith) in omega (arith, hole.low, hole.some, hole.high)

pub slice_bounds-fill-start : goal.slice_bounds-fill-start
slice_bounds-fill-start c = let hole = hole_in c.args.write.now c.deref-hole-items.result.now c.loop-hole.hole-index (record { start = 0; end = 0 }) c.deref-hole-items.ensures.value (omega arith) in omega (arith, hole.low, hole.some, hole.high, c.deref_mut.ensures.len, c.loop-hole.invariant.len)

pub slice_bounds-fill-end : goal.slice_bounds-fill-end
slice_bounds-fill-end c = let hole = hole_in c.args.write.now c.deref-hole-items.result.now c.loop-hole.hole-index (record { start = 0; end = 0 }) c.deref-hole-items.ensures.value (omega arith) in omega (arith, hole.low, hole.some, hole.high, c.deref_mut.ensures.len, c.loop-hole.invariant.len)

-- neither in the first hole nor in those after it
in_neither : (first later chosen : Bool) → (not later && (not first && chosen)) ≡ (not (first || later) && chosen)
in_neither true true b = refl
in_neither true false b = refl
in_neither false later b = refl

pub loop-hole-init : goal.loop-hole-init
loop-hole-init c = record {
  len = first_of (search rules, grind (arith, common_steps));
  capacity = first_of (search rules, grind (arith, common_steps));
  each = λ k h. let offset = c.args.write.now.offset in
      ap (λ (b : Bool). not (in_holes (ranges c.args.write.now.holes.items) (offset + k)) && b)
      (padded c.args.row.now c.extend_from_slice.new.self.items c.resize.new.self.items c.min-count.result c.len-len.result (omega arith) (search rules) (search rules) k (omega arith));
}

pub loop-hole-preserved : goal.loop-hole-preserved
loop-hole-preserved c =
    let w = c.args.write.now in
    let j = c.loop-hole.hole-index in
    let holes = c.deref-hole-items.result.now in
    let hole = get_or holes j (record { start = 0; end = 0 }) in
    let lies = hole_in w holes j (record { start = 0; end = 0 }) c.deref-hole-items.ensures.value (omega arith) in
    let start = hole.start - w.offset in
    let count = (hole.end - w.offset) - start in
    let xs = c.deref_mut.result.now in
    let ys = c.fill.new.self in
    let old : xs ≡ c.loop-hole.chosen.items = search rules in
    let fits : start + count ≤ length xs = omega (arith, lies.low, lies.some, lies.high, c.deref_mut.ensures.len, c.loop-hole.invariant.len) in
    let cleared : ys ≡ replicate count false =
    c.fill.ensures.after (λ y e. search rules) ∙ ap (λ (n : ℕ). replicate n false) (omega (arith, fits, length-take count (drop start xs), length-drop start xs)) in
    record {
      len = c.loop-hole.invariant.len;
      capacity = c.loop-hole.invariant.capacity;
      each = λ k h.
          let p = w.offset + k in
          let later : Bool = in_holes (ranges (drop (j + 1) w.holes.items)) p in
          let inside : k < length xs = omega (arith, h, c.deref_mut.ensures.len, c.loop-hole.invariant.len) in
          let here : get_or (take start xs ++ (ys ++ drop count (drop start xs))) k false ≡ (not (between hole.start hole.end p) && get_or c.loop-hole.chosen.items k false) =
          cleared_at start count k xs ys fits cleared ∙ ap₂ (λ (b : Bool) (l : List Bool). not b && get_or l k false) (covered_at hole.start hole.end w.offset k lies.low) old in
          ap (λ (b : Bool). not later && b) (get_or-take c.loop-hole.chosen.len _ k false (omega (arith, inside, c.deref_mut.ensures.len)) ∙ get_or_append_left (take start xs ++ (ys ++ drop count (drop start xs))) _ false k (omega (arith, inside, cleared_len start count xs ys fits cleared)) ∙ here)
          ∙ in_neither (between hole.start hole.end p) later (get_or c.loop-hole.chosen.items k false)
          ∙ ap (λ (b : Bool). not b && get_or c.loop-hole.chosen.items k false) (sym (ap (λ (hs : List Extent). in_holes (ranges (drop j hs)) p) (sym c.deref-hole-items.ensures.value) ∙ at_drop_more (λ (hs : List Extent). in_holes (ranges hs) p) holes j (record { start = 0; end = 0 }) (omega arith)
          ∙ ap (λ (hs : List Extent). between hole.start hole.end p || in_holes (ranges (drop (j + 1) hs)) p) c.deref-hole-items.ensures.value))
          ∙ c.loop-hole.invariant.each k h;
    }
