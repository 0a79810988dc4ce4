use Rattle.std.proofs.Common.{rules, ◌≡◌, ◌<◌, ◌≤◌, ◌+◌, ◌∙◌, ◌++◌, ◌∷◌, ℕ, List, ltb, ltb-true, ltb-false, length, get_or, take, drop, sym, subst, ap, ap₂, arith}
use Rattle.std.proofs.lemmas.List.{map-append}
use Rattle.std.proofs.lemmas.List.Sorted.{IsPartitionPoint-from_clause, IsPartitionedBy-ltb}
use Rattle.std.specs.List.Sorted.{IsNonDecreasingBy}
use Rattle.blob_model.specs.Holes.{Holes, with_hole}
use Rattle.blob_pending.specs.Ranges.{range_of, ranges}
use Rattle.blob_pending.specs.declared.extent.Extent.{Extent}
use Rattle.blob_pending.proofs.Digging.{before_hole, joined_hole, after_hole, last_hole}
use Rattle.blob_pending.proofs.holes.dig.Goals as goal
use Rattle.blob_pending.proofs.holes.dig.Goals.{else-loop-last-test, then-loop-last-test+then-end-hole}

pub loop-last-preserved : goal.loop-last-preserved
loop-last-preserved c =
    let q = c.args.holes.now.items in
    let h = c.index-hole.result.now in
    let i = c.loop-last.last in
    let kept = c.loop-last.invariant in
    let same = c.deref.ensures.value in
    let parted = IsPartitionedBy-ltb (λ (x : Extent). x.end) _ c.args.start (subst (λ (l : List Extent). IsNonDecreasingBy (λ (x : Extent). x.end) l) (sym same) c.requires.sorted) in
    let point = IsPartitionPoint-from_clause (λ (x : Extent). ltb x.end c.args.start) _ _ c.partition_point-first.ensures.partitioned parted (λ a r q k. search rules) in
    let inside : i < length q = omega arith in
    let reached : c.args.start ≤ (get_or c.deref.result.now i h).end = ltb-false _ _ (point.1 i h kept.order (omega (arith, inside, ap length same))) in
    let at : (get_or c.deref.result.now i h).end ≡ h.end = ap (λ (l : List Extent). (get_or l i h).end) same ∙ sym (ap (λ (x : Extent). x.end) c.index-hole.ensures) in
    record {
      order = omega (arith, kept.order);
      inside = omega (arith, inside);
      low = omega (arith, kept.low, c.min-start.ensures);
      so_far = ap₂ (λ (s e : ℕ). with_hole s e (ranges (drop (i + 1) q))) c.min-start.ensures c.max-end.ensures
          ∙ sym (joined_hole c.loop-last.start c.loop-last.end q i h inside c.index-hole.ensures (omega (arith, kept.low, reached, at)) c.if-end-hole.false)
          ∙ kept.so_far;
    }

pub returns-clause-holes : goal.returns-clause-holes
returns-clause-holes c =
    let q = c.args.holes.now.items in
    let first = c.partition_point-first.result in
    let i = c.loop-last.last in
    let start = c.loop-last.start in
    let end = c.loop-last.end in
    let kept = c.loop-last.invariant in
    let same = c.deref.ensures.value in
    let parted = IsPartitionedBy-ltb (λ (x : Extent). x.end) _ c.args.start (subst (λ (l : List Extent). IsNonDecreasingBy (λ (x : Extent). x.end) l) (sym same) c.requires.sorted) in
    let point = IsPartitionPoint-from_clause (λ (x : Extent). ltb x.end c.args.start) _ _ c.partition_point-first.ensures.partitioned parted (λ a r q k. search rules) in
    let below : (k : ℕ) (d : Extent) → k < length q → k < first → (get_or q k d).end < c.args.start =
    λ k d l m. let less = ltb-true _ _ (point.0 k d (omega arith) m) in omega (arith, less, ap (λ (l : List Extent). (get_or l k d).end) same) in
    let rest : with_hole start end (ranges (drop i q)) ≡ (start, end) ∷ ranges (drop i q) = elim c.loop-last-test.branch [
      | else-loop-last-test w ↦ last_hole start end q i (omega (arith, w.loop-last-test.false))
      | then-loop-last-test+then-end-hole w ↦
          let h = w.index-hole.result.now in
          let inside : i < length q = omega (arith, w.loop-last-test.true) in
          let reached : c.args.start ≤ (get_or c.deref.result.now i h).end = ltb-false _ _ (point.1 i h kept.order (omega (arith, inside, ap length same))) in
          let at : (get_or c.deref.result.now i h).end ≡ h.end = ap (λ (l : List Extent). (get_or l i h).end) same ∙ sym (ap (λ (x : Extent). x.end) w.index-hole.ensures) in
          after_hole start end q i h inside w.index-hole.ensures (omega (arith, kept.low, reached, at)) w.if-end-hole.true
    ] in
    ap ranges c.put_between.ensures.items ∙ map-append range_of (take first q) (_ ∷ drop i q)
    ∙ ap (λ (r : Holes). ranges (take first q) ++ r) (sym rest ∙ kept.so_far)
    ∙ sym (before_hole c.args.start c.args.end q first below)
