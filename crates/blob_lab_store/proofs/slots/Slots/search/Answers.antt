use Rattle.std.proofs.Common.{rules, ◌≡◌, ◌≢◌, ◌<◌, ◌≤◌, ◌∙◌, ℕ, length, get_or, ltb, ltb-true, ltb-false, arith}
use Rattle.std.proofs.lemmas.List.{get_or_default}
use Rattle.std.proofs.lemmas.List.Sorted.{IsPartitionPoint-from_clause, IsPartitionedBy-ltb}
use Rattle.blob_lab_store.proofs.Found.{kept_none, does_not_fall, isnt_there}
use Rattle.blob_lab_store.proofs.slots.Slots.search.Goals as goal
use Rattle.blob_lab_store.proofs.slots.Slots.search.Goals.{else-i-len-via-then-i-len+else-index-number-2, else-i-len-via-else-i-len}

pub returns-clause-none : goal.returns-clause-none
returns-clause-none g c =
    let s = c.args.self.now in
    let ns = s.numbers.items in
    let n = c.args.number in
    let i = c.partition_point-i.result in
    let same : c.deref.result.now ≡ ns = c.deref.ensures.value in
    let parted = IsPartitionedBy-ltb (λ (x : ℕ). x) c.deref.result.now n (does_not_fall c.deref.result.now ns same s.ascending) in
    let point = IsPartitionPoint-from_clause (λ (x : ℕ). ltb x n) _ _ c.partition_point-i.ensures.partitioned parted (λ a r q k. search rules) in
    let before : (k : ℕ) → k < length c.deref.result.now → k < i → get_or c.deref.result.now k 0 < n = λ k m l. ltb-true _ _ (point.0 k 0 (omega arith) l) in
    let after : (k : ℕ) → i ≤ k → k < length c.deref.result.now → n ≤ get_or c.deref.result.now k 0 = λ k l m. ltb-false _ _ (point.1 k 0 l m) in
    let isnt : i < length ns → get_or ns i 0 ≢ n = elim c.else-i-len.branch [
      | else-i-len-via-then-i-len+else-index-number-2 w ↦ λ l e. w.if-index-number-2.false (w.index-then-i-len.ensures ∙ get_or_default ns i w.index-then-i-len.result.now 0 l ∙ e)
      | else-i-len-via-else-i-len w ↦ λ l. absurd (search rules)
    ] in
    kept_none ns s.values.items s.given n s.below (isnt_there c.deref.result.now ns i n same s.ascending before after isnt)
