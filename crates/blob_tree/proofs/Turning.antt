-- The last choice of a path, below its root.
use Rattle.std.proofs.Common.{arith, ◌≡◌, ◌≤◌, ◌<◌, ℕ, suc, ◌+◌, ◌-◌, true, false, nat_lt, List, [], ◌∷◌, ◌++◌, take, drop, length, slice_index_or, slice_set, Bool, if◌then◌else◌, Some, None, sym, ap, ◌∙◌, subst, drop_of_length-le}
use Rattle.std.proofs.lemmas.List.{take_more, take_more_set, drop-append-le, length-take}
use Rattle.blob_tree.specs.ChoiceTrees.{next_branch, path_after}
use Rattle.blob_tree.specs.declared.choice.Choice.{Choice}
use Rattle.blob_tree.proofs.ChoiceVisits.{path_after-push_more, path_after-push_last}

pushed : (xs : List Choice) (r k : ℕ) (y : Choice) → r ≤ k → k < length xs → drop r (take k xs ++ y ∷ []) ≡ drop r (take k xs) ++ y ∷ []
pushed xs r k y low high = let fits : r ≤ length (take k xs) = grind (arith, length-take) in drop-append-le r (take k xs) (y ∷ []) fits

turned : (xs : List Choice) (r k : ℕ) (d y : Choice) → r ≤ k → k < length xs → next_branch (slice_index_or xs k d) ≡ Some y
    → path_after (drop r (take (k + 1) xs)) ≡ Some (drop r (take (k + 1) (slice_set xs k y)))
turned xs r k d y low high more =
    ap (λ (p : List Choice). path_after (drop r p)) (take_more xs k d high) ∙ ap path_after (pushed xs r k (slice_index_or xs k d) low high)
    ∙ path_after-push_more (drop r (take k xs)) (slice_index_or xs k d) y more
    ∙ ap (λ (p : List Choice). Some p) (sym (pushed xs r k y low high)) ∙ ap (λ (p : List Choice). Some (drop r p)) (sym (take_more_set xs k y high))

passed : (xs : List Choice) (r k : ℕ) (d : Choice) → r ≤ k → k < length xs → next_branch (slice_index_or xs k d) ≡ None
    → path_after (drop r (take (k + 1) xs)) ≡ path_after (drop r (take k xs))
passed xs r k d low high last =
    ap (λ (p : List Choice). path_after (drop r p)) (take_more xs k d high) ∙ ap path_after (pushed xs r k (slice_index_or xs k d) low high)
    ∙ path_after-push_last (drop r (take k xs)) (slice_index_or xs k d) last

pub turned_at : (xs : List Choice) (r n : ℕ) (d y : Choice) → r < n → n ≤ length xs → next_branch (slice_index_or xs (n - 1) d) ≡ Some y
    → path_after (drop r (take n xs)) ≡ Some (drop r (take n (slice_set xs (n - 1) y)))
turned_at xs r n d y low high more =
    let whole : n - 1 + 1 ≡ n = omega arith in
    subst (λ (m : ℕ). path_after (drop r (take m xs)) ≡ Some (drop r (take m (slice_set xs (n - 1) y)))) whole (turned xs r (n - 1) d y (omega arith) (omega arith) more)

pub passed_at : (xs : List Choice) (r n : ℕ) (d : Choice) → r < n → n ≤ length xs → next_branch (slice_index_or xs (n - 1) d) ≡ None
    → path_after (drop r (take n xs)) ≡ path_after (drop r (take (n - 1) xs))
passed_at xs r n d low high last =
    let whole : n - 1 + 1 ≡ n = omega arith in
    subst (λ (m : ℕ). path_after (drop r (take m xs)) ≡ path_after (drop r (take (n - 1) xs))) whole (passed xs r (n - 1) d (omega arith) (omega arith) last)

-- whether a choice has a further branch
pub has_more : (choice : Choice) → choice.branch + 1 < choice.among → next_branch choice ≡ Some (record choice { branch = choice.branch + 1 })
has_more choice below =
    let yes : nat_lt (suc choice.branch) choice.among ≡ true = grind arith in
    let same : suc choice.branch ≡ choice.branch + 1 = omega arith in
    ap (λ (b : Bool). if b then Some (record choice { branch = suc choice.branch }) else None) yes ∙ ap (λ (b : ℕ). Some (record choice { branch = b })) same

pub is_last : (choice : Choice) → choice.among ≤ choice.branch + 1 → next_branch choice ≡ None
is_last choice above =
    let no : nat_lt (suc choice.branch) choice.among ≡ false = grind arith in
    ap (λ (b : Bool). if b then Some (record choice { branch = suc choice.branch }) else None) no

-- no choice is below the root
pub at_root : (xs : List Choice) (r n : ℕ) → n ≤ r → path_after (drop r (take n xs)) ≡ None
at_root xs r n over =
    let short : length (take n xs) ≤ r = grind (arith, length-take) in
    ap path_after (drop_of_length-le (take n xs) short)
