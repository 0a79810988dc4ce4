-- No two pending writes have one number, by the files that the layer represents.
use Rattle.std.proofs.Common.{◌≡◌, ◌⊎◌, ◌<◌, ◌≤◌, ◌∙◌, ℕ, suc, Bool, true, false, cond, inl, inr, ⊎_elim, List, [], ◌∷◌, refl, sym, ap, subst, arith}
use Rattle.std.proofs.lemmas.Bool.{cases_Bool, cond-false, cond-true}
use Rattle.blob_model.specs.Files.{Above, Logged, Rising, from_after, log_of}
use Rattle.blob_model.specs.Log.{Entry, Kept, Loose, Resized, Need, Write, has_bare, need_of, needs}
use Rattle.blob_model.specs.Order.{In}
use Rattle.blob_model.specs.Places.{Place as Origin, same_place}
use Rattle.blob_model.specs.SamePlace.{same_place_exact}

-- a write of a log of an incarnation is its first entry's, or a later one
record IsFirst (e : Logged) (o : Origin) (w : Need) : Type 0 where
  here : e.place ≡ o
  write : Write
  is : e.entry ≡ Loose write
  same : w.write ≡ write

entry_or : (d : Entry) (l : List Entry) (w : Need) → In w (needs (d ∷ l)) → ((x : Write) × (d ≡ Loose x) × (w.write ≡ x)) ⊎ In w (needs l)
entry_or (Kept p b) l w i = inr i
entry_or (Loose x) l w i = go (has_bare (need_of x l)) i
  where
    go : (b : Bool) → In w (cond b (need_of x l ∷ needs l) (needs l)) → ((y : Write) × (Loose x ≡ Loose y) × (w.write ≡ y)) ⊎ In w (needs l)
    go true (inl e) = inl (x, refl, ap (λ (n : Need). n.write) e)
    go true (inr j) = inr j
    go false j = inr j
entry_or (Resized n) l w i = inr i

first_or : (e : Logged) (log : List Logged) (o : Origin) (w : Need) → In w (needs (log_of (e ∷ log) o)) → IsFirst e o w ⊎ In w (needs (log_of log o))
first_or e log o w i = ⊎_elim
    (λ y. ⊎_elim
    (λ f. inl (record { here = same_place_exact e.place o y; write = f.0; is = f.1; same = f.2 }))
    (λ j. inr j)
    (entry_or e.entry (log_of log o) w (subst (λ (l : List Entry). In w (needs l)) (cond-true (same_place e.place o) (e.entry ∷ log_of log o) (log_of log o) y) i)))
    (λ n. inr (subst (λ (l : List Entry). In w (needs l)) (cond-false (same_place e.place o) (e.entry ∷ log_of log o) (log_of log o) n) i))
    (cases_Bool (same_place e.place o))

after_all : (from : ℕ) (d : Entry) → Above from d → from ≤ from_after from d
after_all from (Kept p b) above = omega arith
after_all from (Loose w) above = omega (arith, above)
after_all from (Resized n) above = omega arith

-- each write that the files need has at least this number
least : (from : ℕ) (log : List Logged) (end : ℕ) (o : Origin) (w : Need) → Rising from log end → In w (needs (log_of log o)) → from ≤ w.write.number
least from [] end o w rising none = absurd none
least from (e ∷ log) end o w rising i = ⊎_elim
    (λ f. let a : Above from (Loose f.write) = subst (λ (d : Entry). Above from d) f.is rising.0 in omega (arith, a, ap (λ (x : Write). x.number) f.same))
    (λ j. omega (arith, after_all from e.entry rising.0, least (from_after from e.entry) log end o w rising.1 j))
    (first_or e log o w i)

first_less : (from : ℕ) (e : Logged) (log : List Logged) (end : ℕ) (a b : Origin) (v w : Need) → Rising from (e ∷ log) end → IsFirst e a v → In w (needs (log_of log b)) → v.write.number < w.write.number
first_less from e log end a b v w rising f j =
    let later : Rising (suc f.write.number) log end = subst (λ (d : Entry). Rising (from_after from d) log end) f.is rising.1 in
    omega (arith, ap (λ (x : Write). x.number) f.same, least (suc f.write.number) log end b w later j)

loose_same : (x y : Write) → Loose x ≡ Loose y → x ≡ y
loose_same x y e = cc

-- two with one number are of one incarnation, and they are one write
pub one_write : (from : ℕ) (log : List Logged) (end : ℕ) (a b : Origin) (v w : Need) → Rising from log end → In v (needs (log_of log a)) → In w (needs (log_of log b)) → v.write.number ≡ w.write.number
    → (a ≡ b) × (v.write ≡ w.write)
one_write from [] end a b v w rising none j same = absurd none
one_write from (e ∷ log) end a b v w rising i j same = ⊎_elim
    (λ f. ⊎_elim
    (λ g. (sym f.here ∙ g.here, f.same ∙ loose_same f.write g.write (sym f.is ∙ g.is) ∙ sym g.same))
    (λ later. absurd (omega (arith, first_less from e log end a b v w rising f later, same)))
    (first_or e log b w j))
    (λ later. ⊎_elim
    (λ g. absurd (omega (arith, first_less from e log end b a w v rising g later, same)))
    (λ both. one_write (from_after from e.entry) log end a b v w rising.1 later both same)
    (first_or e log b w j))
    (first_or e log a v i)
