use Rattle.std.proofs.Common.{rules, ◌≡◌, ◌≢◌, ◌<◌, ◌≤◌, ℕ, Bool, List, cond, eqb, ltb, ltb-true, ltb-false, length, get_or, position, Some, None, sym, ap₂, arith, ⊎_elim}
use Rattle.std.proofs.lemmas.Bool.{cond-false, cases_lt, eq-eqb, ne_eqb, lt-ltb, le-ltb}
use Rattle.std.proofs.lemmas.List.Sums.{position_or_len_is}
use Rattle.std.proofs.lemmas.List.Sorted.{IsPartitionPoint-from_clause, IsPartitionedBy-ltb}
use Rattle.std.specs.List.{position_or_len}
use Rattle.blob_pending.proofs.marks.place_by_halves.Goals as goal
use Rattle.blob_pending.proofs.marks.place_by_halves.Goals.{else-i-marks-via-then-i-marks+else-marks-i, else-i-marks-via-else-i-marks}

-- the first at i is the number
at : (xs : List ℕ) (n i : ℕ) → i < length xs → get_or xs i 0 ≡ n → ((k : ℕ) → k < i → get_or xs k 0 < n) → Some i ≡ position (λ x. eqb x n) xs
at xs n i h is below =
    let first : position_or_len (λ x. eqb x n) xs ≡ i = position_or_len_is (λ x. eqb x n) xs i 0 (omega arith) (λ k l. let less = below k l in ne_eqb _ _ (λ e. omega (arith, less, e))) (λ _. eq-eqb _ _ is) in
    sym (ap₂ (λ (b : Bool) (k : ℕ). cond b (Some k) None) (lt-ltb _ _ (omega (arith, first, h))) first)

-- none is
nowhere : (xs : List ℕ) (n : ℕ) → ((k : ℕ) → k < length xs → get_or xs k 0 ≢ n) → None ≡ position (λ x. eqb x n) xs
nowhere xs n other =
    let last : position_or_len (λ x. eqb x n) xs ≡ length xs = position_or_len_is (λ x. eqb x n) xs (length xs) 0 (omega arith) (λ k l. ne_eqb _ _ (other k l)) (λ l. absurd (omega arith)) in
    sym (cond-false (ltb (position_or_len (λ x. eqb x n) xs) (length xs)) _ _ (le-ltb _ _ (omega (arith, last))))

pub returns-then-marks-i : goal.returns-then-marks-i
returns-then-marks-i c =
    let parted = IsPartitionedBy-ltb (λ (x : ℕ). x) _ c.args.number c.requires in
    let point = IsPartitionPoint-from_clause (λ (x : ℕ). ltb x c.args.number) _ _ c.partition_point-i.ensures.partitioned parted (λ a r q k. search rules) in
    at c.args.marks.now c.args.number c.partition_point-i.result c.if-i-marks.true c.if-marks-i.true (λ k l. ltb-true _ _ (point.0 k 0 (omega arith) l))

pub returns : goal.returns
returns c =
    let xs = c.args.marks.now in
    let n = c.args.number in
    let i = c.partition_point-i.result in
    let parted = IsPartitionedBy-ltb (λ (x : ℕ). x) _ n c.requires in
    let point = IsPartitionPoint-from_clause (λ (x : ℕ). ltb x n) _ _ c.partition_point-i.ensures.partitioned parted (λ a r q k. search rules) in
    let below : (k : ℕ) → k < i → get_or xs k 0 < n = λ k l. ltb-true _ _ (point.0 k 0 (omega arith) l) in
    let from : (k : ℕ) → i ≤ k → k < length xs → n ≤ get_or xs k 0 = λ k l h. ltb-false _ _ (point.1 k 0 l h) in
    elim c.else-i-marks.branch [
      | else-i-marks-via-then-i-marks+else-marks-i w ↦ nowhere xs n (λ k l e. ⊎_elim
          (λ h. let less = below k h in omega (arith, less, e))
          (λ h. let here = from i (omega arith) w.if-i-marks.true in
          let rises = c.requires i k 0 h l in
          let isnt : get_or xs i 0 ≢ n = w.if-marks-i.false in
          absurd (isnt (omega (arith, here, rises, e))))
          (cases_lt k i))
      | else-i-marks-via-else-i-marks w ↦ nowhere xs n (λ k l e. let less = below k (omega (arith, l, w.if-i-marks.false)) in omega (arith, less, e))
    ]
