-- A durable range in a pending list, by whether it is queued.
use Rattle.std.proofs.Common.{◌≡◌, ℕ, true, false, List, [], ◌∷◌, ◌++◌, length, append-nil, sym, ◌∙◌, ap, ap₂}
use Rattle.std.proofs.lemmas.Bool.{cond-true, cond-false}
use Rattle.blob_model.specs.Pending.{Pending, Again, cut_by, has_barrier, apply_durable}

pub queued_is : (q : List Pending) (o n : ℕ) (copy bytes : List ℕ) → length bytes ≡ n → (has_barrier q ≡ true → copy ≡ bytes) → has_barrier q ≡ true → cut_by o n q ++ Again o copy ∷ [] ≡ apply_durable o bytes q
queued_is q o n copy bytes len same queued =
    ap₂ (λ (k : ℕ) (b : List ℕ). cut_by o k q ++ Again o b ∷ []) (sym len) (same queued) ∙ ap (λ (r : List Pending). cut_by o (length bytes) q ++ r) (sym (cond-true (has_barrier q) (Again o bytes ∷ []) [] queued))

pub cut_is : (q : List Pending) (o n : ℕ) (bytes : List ℕ) → length bytes ≡ n → has_barrier q ≡ false → cut_by o n q ≡ apply_durable o bytes q
cut_is q o n bytes len idle =
    ap (λ (k : ℕ). cut_by o k q) (sym len) ∙ sym (append-nil (cut_by o (length bytes) q)) ∙ ap (λ (r : List Pending). cut_by o (length bytes) q ++ r) (sym (cond-false (has_barrier q) (Again o bytes ∷ []) [] idle))
