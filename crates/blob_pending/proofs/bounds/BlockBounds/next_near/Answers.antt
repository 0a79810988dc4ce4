use Rattle.std.proofs.Common.{rules, ◌≡◌, ◌<◌, ◌≤◌, ◌+◌, ◌%◌, ◌/◌, ℕ, List, ⊎_elim, inl, inr, subst, arith}
use Rattle.std.proofs.lemmas.Bool.{cases_lt}
use Rattle.blob_pending.specs.Blocks.{LiesApart, IsPassed}
use Rattle.blob_pending.specs.declared.extent.Extent.{Extent}
use Rattle.blob_pending.proofs.bounds.BlockBounds.next_near.Goals as goal
use Rattle.blob_pending.proofs.bounds.BlockBounds.next_near.Goals.{then-i-eq0+then-is_apart, else-i-eq0+then-i-eq0-2+then-is_apart-2, else-i-eq0+else-i-eq0-2}

-- what comes after the start of a part is in it
in_group : (bs : List Extent) (at k start end : ℕ) → at % 4096 ≡ 0 → at ≤ k → k < at + 4096 → LiesApart bs (at / 4096) start end → LiesApart bs (k / 4096) start end
in_group bs at k start end begins low high apart = let same : at / 4096 ≡ k / 4096 = omega (arith, begins, low, high) in subst (λ (j : ℕ). LiesApart bs j start end) same apart

in_block : (bs : List Extent) (at k start end : ℕ) → at % 64 ≡ 0 → at ≤ k → k < at + 64 → LiesApart bs (at / 64) start end → LiesApart bs (k / 64) start end
in_block bs at k start end begins low high apart = let same : at / 64 ≡ k / 64 = omega (arith, begins, low, high) in subst (λ (j : ℕ). LiesApart bs j start end) same apart

pub loop-i-preserved : goal.loop-i-preserved
loop-i-preserved c =
    let kept = c.loop-i.invariant in
    let i = c.loop-i.i in
    let start = c.args.start in
    let end = c.args.end in
    record {
      from = omega (arith, kept.from);
      len = omega arith;
      passed = λ k low high. ⊎_elim
          (λ before. kept.passed k low before)
          (λ here. elim c.if-i-eq0.branch as (λ b. IsPassed c.args.self.now k start end) [
            | then-i-eq0+then-is_apart w ↦
                let apart : LiesApart c.args.self.now.groups.items (i / 4096) start end = subst (λ (bs : List Extent). LiesApart bs (i / 4096) start end) w.deref.ensures.value (w.is_apart.ensures (search rules)) in
                inl (in_group c.args.self.now.groups.items i k start end (search rules) here (omega (arith, high, w.passed-is)) apart)
            | else-i-eq0+then-i-eq0-2+then-is_apart-2 w ↦
                let apart : LiesApart c.args.self.now.blocks.items (i / 64) start end = subst (λ (bs : List Extent). LiesApart bs (i / 64) start end) w.deref-then-i-eq0-2.ensures.value (w.is_apart-then-i-eq0-2.ensures (search rules)) in
                inr (in_block c.args.self.now.blocks.items i k start end (search rules) here (omega (arith, high, w.passed-is)) apart)
            | else-i-eq0+else-i-eq0-2 w ↦ absurd (omega (arith, high, here, w.passed-is))
          ])
          (cases_lt k i);
    }
