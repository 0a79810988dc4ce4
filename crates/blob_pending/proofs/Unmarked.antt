-- The entries behind the last marker are all that a crash sees of a list.
use Rattle.std.proofs.Common.{◌≡◌, ⊎_elim, ℕ, zero, suc, ◌<◌, Bool, true, false, cond, List, [], ◌∷◌, ◌++◌, length, get_or, take, drop, refl, sym, ◌∙◌, ap, arith, ◌||◌}
use Rattle.std.proofs.lemmas.Bool.{cases_Bool, cond-true, cond-false}
use Rattle.blob_model.specs.Log.{Choices}
use Rattle.blob_model.specs.Pending.{Pending, Waiting, Cut, Again, Marker, is_marker, has_marker, waiting, replay}
use Rattle.blob_pending.specs.Replays.{unmarked}
use Rattle.blob_pending.specs.Views.{view, views}
use Rattle.blob_pending.specs.declared.entry.Entry.{Entry}

-- where none is, that is all
pub unmarked_all : (q : List Pending) → has_marker q ≡ false → unmarked q ≡ q
unmarked_all [] n = refl
unmarked_all (e ∷ q) n = cond-false (has_marker (e ∷ q)) _ _ n

pub unmarked_none : (q : List Pending) → has_marker (unmarked q) ≡ false
unmarked_none [] = refl
unmarked_none (e ∷ q) = ⊎_elim (λ y. ap has_marker (cond-true (has_marker (e ∷ q)) _ _ y) ∙ unmarked_none q) (λ n. ap has_marker (cond-false (has_marker (e ∷ q)) _ _ n) ∙ n) (cases_Bool (has_marker (e ∷ q)))

marker_waits : (e : Pending) (q : List Pending) → has_marker (e ∷ q) ≡ true → waiting q ≡ waiting (e ∷ q)
marker_waits (Waiting m) q y = sym (cond-true (has_marker q) _ _ y)
marker_waits (Cut n) q y = refl
marker_waits (Again o b) q y = refl
marker_waits (Marker k) q y = refl

pub unmarked_waits : (q : List Pending) → waiting (unmarked q) ≡ waiting q
unmarked_waits [] = refl
unmarked_waits (e ∷ q) = ⊎_elim (λ y. ap waiting (cond-true (has_marker (e ∷ q)) _ _ y) ∙ unmarked_waits q ∙ marker_waits e q y) (λ n. ap waiting (cond-false (has_marker (e ∷ q)) _ _ n)) (cases_Bool (has_marker (e ∷ q)))

marker_replays : (e : Pending) (q : List Pending) (t : Choices) (x : List ℕ) → has_marker (e ∷ q) ≡ true → replay q t x ≡ replay (e ∷ q) t x
marker_replays (Waiting m) q t x y = ap (replay q t) (sym (cond-true (has_marker q) _ _ y))
marker_replays (Cut n) q t x y = ap (replay q t) (sym (cond-true (has_marker q) _ _ y))
marker_replays (Again o b) q t x y = ap (replay q t) (sym (cond-true (has_marker q) _ _ y))
marker_replays (Marker k) q t x y = ap (replay q t) (same (has_marker q))
  where
    same : (b : Bool) → x ≡ cond b x x
    same true = refl
    same false = refl

pub unmarked_replays : (q : List Pending) (t : Choices) (x : List ℕ) → replay (unmarked q) t x ≡ replay q t x
unmarked_replays [] t x = refl
unmarked_replays (e ∷ q) t x = ⊎_elim
    (λ y. ap (λ (l : List Pending). replay l t x) (cond-true (has_marker (e ∷ q)) _ _ y) ∙ unmarked_replays q t x ∙ marker_replays e q t x y)
    (λ n. ap (λ (l : List Pending). replay l t x) (cond-false (has_marker (e ∷ q)) _ _ n)) (cases_Bool (has_marker (e ∷ q)))

-- the last marker stands before these
or_true : (a b : Bool) → b ≡ true → (a || b) ≡ true
or_true true b e = refl
or_true false b e = e

marked : (xs rest : List Pending) (m : Pending) → is_marker m ≡ true → has_marker (xs ++ m ∷ rest) ≡ true
marked [] rest m y = ap (λ (b : Bool). b || has_marker rest) y
marked (x ∷ xs) rest m y = or_true (is_marker x) _ (marked xs rest m y)

unmarked_skips : (xs rest : List Pending) (m : Pending) → is_marker m ≡ true → has_marker rest ≡ false → unmarked (xs ++ m ∷ rest) ≡ rest
unmarked_skips [] rest m y n = cond-true (has_marker (m ∷ rest)) _ _ (marked [] rest m y) ∙ unmarked_all rest n
unmarked_skips (x ∷ xs) rest m y n = cond-true (has_marker (x ∷ (xs ++ m ∷ rest))) _ _ (marked (x ∷ xs) rest m y) ∙ unmarked_skips xs rest m y n

split_at : (q : List Entry) (i : ℕ) (d : Entry) → i < length q → views q ≡ views (take i q) ++ view (get_or q i d) ∷ views (drop (suc i) q)
split_at [] i d h = absurd (omega arith)
split_at (x ∷ q) zero d h = refl
split_at (x ∷ q) (suc i) d h = ap (λ (r : List Pending). view x ∷ r) (split_at q i d (omega arith))

pub unmarked_at : (q : List Entry) (i j : ℕ) (d : Entry) → j ≡ suc i → i < length q → is_marker (view (get_or q i d)) ≡ true → has_marker (views (drop j q)) ≡ false → views (drop j q) ≡ unmarked (views q)
unmarked_at q i j d is h m n =
    let at : views (drop j q) ≡ views (drop (suc i) q) = ap (λ (k : ℕ). views (drop k q)) is in
    at ∙ sym (ap unmarked (split_at q i d h) ∙ unmarked_skips (views (take i q)) (views (drop (suc i) q)) (view (get_or q i d)) m (ap has_marker (sym at) ∙ n))
