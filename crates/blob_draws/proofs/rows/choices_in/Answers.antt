use Rattle.std.proofs.Common.{rules, ◌≡◌, ◌≢◌, ◌<◌, ◌-◌, ◌∙◌, ℕ, Bool, Vec, ltb, ltb-true, ltb-false, ap, sym, arith, length, get_or}
use Rattle.std.proofs.lemmas.List.{get_or_default}
use Rattle.std.specs.Global.{Global}
use Rattle.std.proofs.lemmas.List.Sorted.{IsPartitionPoint-from_clause, IsPartitionedBy-ltb}
use Rattle.blob_draws.proofs.Rowing.{first_at, row_at, row_past, row_other}
use Rattle.blob_draws.proofs.rows.choices_in.Goals as goal
use Rattle.blob_draws.proofs.rows.choices_in.Goals.{then-guess-eq0, else-guess-eq0}

pub returns-then-i-rows : goal.returns-then-i-rows
returns-then-i-rows c =
    let parted = IsPartitionedBy-ltb (λ (row : ℕ × Vec Bool Global). row.0) _ c.args.number c.requires in
    let point = IsPartitionPoint-from_clause (λ (row : ℕ × Vec Bool Global). ltb row.0 c.args.number) _ _ c.partition_point-i.ensures.partitioned parted (λ a r q k. search rules) in
    row_past c.args.rows.now c.args.number c.partition_point-i.result (λ k d h. ltb-true _ _ (point.0 k d (omega arith) h)) (λ k d h l. absurd (omega (arith, h, l, c.if-i-rows.true)))

pub returns-then-row-number-2 : goal.returns-then-row-number-2
returns-then-row-number-2 c =
    let parted = IsPartitionedBy-ltb (λ (row : ℕ × Vec Bool Global). row.0) _ c.args.number c.requires in
    let point = IsPartitionPoint-from_clause (λ (row : ℕ × Vec Bool Global). ltb row.0 c.args.number) _ _ c.partition_point-i.ensures.partitioned parted (λ a r q k. search rules) in
    let inside : c.partition_point-i.result < length c.args.rows.now = omega arith in
    let isnt : c.index-rows-i.result.0 ≢ c.args.number = c.if-row-number-2.true in
    row_other c.args.rows.now c.args.number c.partition_point-i.result c.index-rows-i.result c.requires inside c.index-rows-i.is isnt (λ k d h. ltb-true _ _ (point.0 k d (omega arith) h)) (λ k d h l. ltb-false _ _ (point.1 k d h l))

pub returns : goal.returns
returns c =
    let parted = IsPartitionedBy-ltb (λ (row : ℕ × Vec Bool Global). row.0) _ c.args.number c.requires in
    let point = IsPartitionPoint-from_clause (λ (row : ℕ × Vec Bool Global). ltb row.0 c.args.number) _ _ c.partition_point-i.ensures.partitioned parted (λ a r q k. search rules) in
    let inside : c.partition_point-i.result < length c.args.rows.now = omega arith in
    let is : c.index-rows-i.result.0 ≡ c.args.number = omega arith in
    c.as_slice-2.ensures.value ∙ row_at c.args.rows.now c.args.number c.partition_point-i.result c.index-rows-i.result inside c.index-rows-i.is (λ k d h. ltb-true _ _ (point.0 k d (omega arith) h)) is

pub returns-then-rows-guess : goal.returns-then-rows-guess
returns-then-rows-guess c =
    let rows = c.args.rows.now in
    let i = c.saturating_sub-guess.result in
    let below : (k : ℕ) (d : ℕ × Vec Bool Global) → k < i → (get_or rows k d).0 < c.args.number = elim c.if-guess-eq0.branch [
      | then-guess-eq0 w ↦ λ k d h. absurd (omega arith)
      | else-guess-eq0 w ↦ first_at rows c.args.number i c.requires (omega arith) (λ d.
          let x = w.index-rows-guess-else-guess-eq0.result in
          let less : (get_or rows (i - 1) x).0 < c.args.number = ltb-true (get_or rows (i - 1) x).0 c.args.number (sym w.value-is ∙ c.if-rows-guess.true) in
          omega (arith, less, ap (λ (y : ℕ × Vec Bool Global). y.0) (get_or_default rows (i - 1) x d (omega arith))))
    ] in
    c.as_slice.ensures.value ∙ row_at rows c.args.number i c.index-rows-guess.result (omega arith) c.index-rows-guess.is below c.if-row-number.true
