-- Loops that go over the entries of a list.
use Rattle.std.proofs.Common.{◌≡◌, ℕ, zero, suc, ◌+◌, ◌<◌, ◌≤◌, Bool, true, false, cond, List, [], ◌∷◌, ◌++◌, length, get_or, set, refl, sym, ◌∙◌, ap, ⊎_elim, subst, arith}
use Rattle.std.proofs.lemmas.Bool.{cases_eq, cond-true}
use Rattle.std.proofs.lemmas.List.{get_or-set_same, get_or-set_other, map-append}
use Rattle.std.specs.List.{All, filter}
use Rattle.std.proofs.lemmas.List.Elements.{All-append}
use Rattle.blob_model.specs.Log.{Write, Need}
use Rattle.blob_model.specs.Holes.{Holes, dug_by, need_in}
use Rattle.blob_model.proofs.Holes.{need_dug}
use Rattle.blob_model.specs.Pending as model
use Rattle.blob_model.specs.Pending.{Pending, is_barrier, has_barrier, cut_by, pared_one}
use Rattle.blob_pending.specs.declared.entry.Entry.{Entry}
use Rattle.blob_pending.specs.Views.{view, views}

-- an entry is written that stands for the same
pub views_set : (q : List Entry) (i : ℕ) (d e' : Entry) → i < length q → view e' ≡ view (get_or q i d) → views (set q i e') ≡ views q
views_set [] i d e' h same = absurd (omega arith)
views_set (x ∷ q) zero d e' h same = ap (λ (p : Pending). p ∷ views q) same
views_set (x ∷ q) (suc i) d e' h same = ap (λ (r : List Pending). view x ∷ r) (views_set q i d e' (omega arith) same)

-- what holds of those before i, and now of the one at i
pub below_set : (P : ℕ → Entry → Entry → Type 0) (q : List Entry) (i : ℕ) (e : Entry) → i < length q → ((k : ℕ) (d : Entry) → k < i → P k d (get_or q k d)) → ((d : Entry) → P i d e) → (k : ℕ) (d : Entry) → k < i + 1 → P k d (get_or (set q i e) k d)
below_set P q i e h below one k d l = ⊎_elim
    (λ is. subst (λ (j : ℕ). P j d (get_or (set q i e) j d)) (sym is) (subst (P i d) (sym (get_or-set_same q i e d h)) (one d)))
    (λ ne. subst (P k d) (sym (get_or-set_other q i k e d ne)) (below k d (omega arith)))
    (cases_eq k i)

-- those behind i stay
pub later_set : (q r : List Entry) (i : ℕ) (e : Entry) → ((k : ℕ) (d : Entry) → i ≤ k → get_or q k d ≡ get_or r k d) → (k : ℕ) (d : Entry) → i + 1 ≤ k → get_or (set q i e) k d ≡ get_or r k d
later_set q r i e same k d h = get_or-set_other q i k e d (λ is. omega arith) ∙ same k d (omega arith)

-- one write
pub pared_write : (o n : ℕ) (w : Write) (hs gs : Holes) → gs ≡ dug_by o n w hs → model.Waiting (need_in w gs) ≡ model.Waiting (pared_one o n (need_in w hs))
pared_write o n w hs gs is = ap (λ (m : Need). model.Waiting m) (ap (need_in w) is ∙ need_dug o n w hs)

pub views_filter : (p : Pending → Bool) (q : List Entry) → views (filter (λ e. p (view e)) q) ≡ filter p (views q)
views_filter p [] = refl
views_filter p (x ∷ q) = step (p (view x)) (views_filter p q)
  where
    step : (b : Bool) → views (filter (λ e. p (view e)) q) ≡ filter p (views q) → views (cond b (x ∷ filter (λ e. p (view e)) q) (filter (λ e. p (view e)) q)) ≡ cond b (view x ∷ filter p (views q)) (filter p (views q))
    step true e = ap (λ (r : List Pending). view x ∷ r) e
    step false e = e

-- one entry more
pub pushed_is : (q r : List Entry) (e : Entry) (ok : Bool) → r ≡ cond ok (q ++ e ∷ []) q → ok ≡ true → r ≡ q ++ e ∷ []
pushed_is q r e ok is y = is ∙ cond-true ok (q ++ e ∷ []) q y

pub views_push : (q r : List Entry) (e : Entry) → r ≡ q ++ e ∷ [] → views r ≡ views q ++ view e ∷ []
views_push q r e is = ap views is ∙ map-append view q (e ∷ [])

pub all_push : (P : Entry → Type 0) (q r : List Entry) (e : Entry) → r ≡ q ++ e ∷ [] → All P q → P e → All P r
all_push P q r e is all one = subst (λ (l : List Entry). All P l) (sym is) (All-append P q (e ∷ []) all alone)
  where
    alone : All P (e ∷ [])
    alone zero d l = one
    alone (suc k) d l = absurd (omega arith)
