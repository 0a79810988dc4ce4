-- The pass over the pending lists before a crash: which writes it finds, and what it notes of them.
use Rattle.std.proofs.Common.{◌≡◌, ◌⊎◌, ◌<◌, ◌+◌, ◌∙◌, ◌||◌, ℕ, Bool, true, false, cond, inl, inr, ⊎_elim, List, [], ◌∷◌, ◌++◌, length, get_or, drop, Option, Some, is_some, refl, sym, ap}
use Rattle.std.specs.Ordering.{is_eq, nat_cmp}
use Rattle.std.proofs.lemmas.Bool.{cases_Bool, cond_both, cond-true, cond-false}
use Rattle.std.proofs.lemmas.List.{at_drop_more}
use Rattle.blob_model.specs.Log.{Need}
use Rattle.blob_model.specs.Order.{In}
use Rattle.blob_model.specs.Pending.{Pending, Waiting, Cut, Again, Marker, is_marker, has_marker, waiting}
use Rattle.blob_pending.specs.Views.{is_left, left_in, view}
use Rattle.blob_pending.specs.declared.entry.Entry.{Entry}
use Rattle.blob_fs.specs.declared.crash.Place.{Place}
use Rattle.blob_fs.specs.PlaceMaps.{noted, place_in}
use Rattle.blob_fs.proofs.Recovering.{key_is, key_self}

some_same : {A : Type 0} {x y : A} → Some x ≡ Some y → x ≡ y
some_same e = cc

-- The entries of a list.

or_rest : (a b : Bool) → (a || b) ≡ false → b ≡ false
or_rest true b e = cc
or_rest false b e = e

-- a list of entries without a marker behind its first one
first_waits : (e : Pending) (rest : List Pending) → has_marker rest ≡ false → waiting (e ∷ rest) ≡ waiting (e ∷ []) ++ waiting rest
first_waits (Waiting m) rest none = cond-false (has_marker rest) (waiting rest) (m ∷ waiting rest) none
first_waits (Cut n) rest none = refl
first_waits (Again o b) rest none = refl
first_waits (Marker k) rest none = refl

entry_waits : (e : Entry) (q : List Entry) → has_marker (left_in q) ≡ false → waiting (left_in (e ∷ q)) ≡ waiting (left_in (e ∷ [])) ++ waiting (left_in q)
entry_waits e q none = ⊎_elim
    (λ y. ap waiting (cond-true (is_left (view e)) (view e ∷ left_in q) (left_in q) y) ∙ first_waits (view e) (left_in q) none
    ∙ ap (λ (l : List Pending). waiting l ++ waiting (left_in q)) (sym (cond-true (is_left (view e)) (view e ∷ []) [] y)))
    (λ n. ap waiting (cond-false (is_left (view e)) (view e ∷ left_in q) (left_in q) n)
    ∙ ap (λ (l : List Pending). waiting l ++ waiting (left_in q)) (sym (cond-false (is_left (view e)) (view e ∷ []) [] n)))
    (cases_Bool (is_left (view e)))

-- no marker is behind an entry
pub none_more : (q : List Entry) (i : ℕ) (d : Entry) → i < length q → has_marker (left_in (drop i q)) ≡ false → has_marker (left_in (drop (i + 1) q)) ≡ false
none_more q i d inside none =
    let e = view (get_or q i d) in
    let rest = left_in (drop (i + 1) q) in
    let here : has_marker (cond (is_left e) (e ∷ rest) rest) ≡ false = sym (at_drop_more (λ (l : List Entry). has_marker (left_in l)) q i d inside) ∙ none in
    ⊎_elim
    (λ y. or_rest (is_marker e) (has_marker rest) (sym (ap has_marker (cond-true (is_left e) (e ∷ rest) rest y)) ∙ here))
    (λ n. sym (ap has_marker (cond-false (is_left e) (e ∷ rest) rest n)) ∙ here)
    (cases_Bool (is_left e))

-- What is noted.

noted_append : (inode : Option ℕ) (xs ys : List Need) (number : ℕ) (place : Option Place) → noted inode (xs ++ ys) number place ≡ noted inode ys number (noted inode xs number place)
noted_append inode [] ys number place = refl
noted_append inode (x ∷ xs) ys number place = noted_append inode xs ys number (cond (is_eq (nat_cmp x.write.number number)) (Some (place_in inode x)) place)

-- one entry more
pub noted_more : (inode : Option ℕ) (q : List Entry) (i : ℕ) (e : Entry) (number : ℕ) (before after : Option Place) → i < length q → e ≡ get_or q i e → has_marker (left_in (drop (i + 1) q)) ≡ false
    → after ≡ noted inode (waiting (left_in (e ∷ []))) number before
    → noted inode (waiting (left_in (drop (i + 1) q))) number after ≡ noted inode (waiting (left_in (drop i q))) number before
noted_more inode q i e number before after inside at none step =
    let rest = waiting (left_in (drop (i + 1) q)) in
    let here : waiting (left_in (drop i q)) ≡ waiting (left_in (e ∷ [])) ++ rest =
    at_drop_more (λ (l : List Entry). waiting (left_in l)) q i e inside
    ∙ ap (λ (x : Entry). waiting (left_in (x ∷ drop (i + 1) q))) (sym at) ∙ entry_waits e (drop (i + 1) q) none in
    ap (noted inode rest number) step ∙ sym (noted_append inode (waiting (left_in (e ∷ []))) rest number before)
    ∙ ap (λ (ws : List Need). noted inode ws number before) (sym here)

-- what is noted of a number was noted before, or is the place of a write with it
pub noted_of : (inode : Option ℕ) (ws : List Need) (number : ℕ) (before : Option Place) (place : Place) → noted inode ws number before ≡ Some place
    → (before ≡ Some place) ⊎ ((w : Need) × In w ws × (w.write.number ≡ number) × (place ≡ place_in inode w))
noted_of inode [] number before place e = inl e
noted_of inode (w ∷ ws) number before place e = ⊎_elim
    (λ early. ⊎_elim
    (λ y. inr (w, inl refl, key_is w.write.number number y, some_same (sym early ∙ cond-true (is_eq (nat_cmp w.write.number number)) (Some (place_in inode w)) before y)))
    (λ n. inl (sym (cond-false (is_eq (nat_cmp w.write.number number)) (Some (place_in inode w)) before n) ∙ early))
    (cases_Bool (is_eq (nat_cmp w.write.number number))))
    (λ late. inr (late.0, inr late.1, late.2, late.3))
    (noted_of inode ws number (cond (is_eq (nat_cmp w.write.number number)) (Some (place_in inode w)) before) place e)

-- what was noted of a number stays noted
pub noted_still : (inode : Option ℕ) (ws : List Need) (number : ℕ) (before : Option Place) → is_some before ≡ true → is_some (noted inode ws number before) ≡ true
noted_still inode [] number before there = there
noted_still inode (w ∷ ws) number before there = noted_still inode ws number _
    (cond_both (is_eq (nat_cmp w.write.number number)) (Some (place_in inode w)) before (λ o. is_some o ≡ true) (λ _. refl) (λ _. there))

-- each write is noted
pub noted_each : (inode : Option ℕ) (ws : List Need) (w : Need) (before : Option Place) → In w ws → is_some (noted inode ws w.write.number before) ≡ true
noted_each inode [] w before none = absurd none
noted_each inode (x ∷ ws) w before (inl e) = noted_still inode ws w.write.number _
    (ap is_some (cond-true (is_eq (nat_cmp x.write.number w.write.number)) (Some (place_in inode x)) before
    (ap (λ (v : Need). is_eq (nat_cmp v.write.number w.write.number)) (sym e) ∙ key_self w.write.number)))
noted_each inode (x ∷ ws) w before (inr later) = noted_each inode ws w _ later
