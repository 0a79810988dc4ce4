-- An index of what edits are about.
use Rattle.std.proofs.Common.{Equal, Greater, Less, cond, ◌≡◌, ◌⊎◌, ℕ, zero, suc, ◌-◌, ◌<◌, Bool, true, false, not, ◌&&◌, ◌||◌, List, [], ◌∷◌, ◌++◌, ◌+◌, get_or, length, map, set, take, drop, Option, Some, None, inl, inr, ⊎_elim, refl, sym, ap, ap₂, ◌∙◌, subst, arith, nat_eq}
use Rattle.std.specs.Prelude.{◌==◌, Err, Ok, OnErr, OnOk, Result, filter, is_some, nat_lt, slice_index_or}
use Rattle.std.specs.BTreeMap.{is_at}
use Rattle.std.specs.BTreeSet.{BTreeSet}
use Rattle.std.specs.List.{Contains, list_all, list_any}
use Rattle.std.specs.Ordering.{is_eq, nat_cmp}
use Rattle.std.proofs.lemmas.Bool.{and_from, and_parts, both_ways, cond_both, eq-eqb, eqb-true, or_cases, or_left}
use Rattle.std.proofs.lemmas.List.Edits.{map_over_more}
use Rattle.std.proofs.lemmas.List.{append-nil, drop_all, length-drop, length-map, take_all}
use Rattle.blob_directory.specs.Indexes.{KeepsAll, about_any, decisive, has, has_about, has_other, is_indexed, is_noted, number_of, unwanted}
use Rattle.blob_directory.specs.Syncs.{Above, IsUpward, Itself, Marks, SyncSettles, Upward, Wants, is_in, is_number, is_of, is_settled_in, makes, marked, moved_into, touches, unbound}
use Rattle.blob_directory.specs.declared.profile.Settles.{Settles}
use Rattle.blob_directory.specs.declared.profile.Settles.TheVariants.{Own, Names, UpToLast, UpToLastOrSize, All}
use Rattle.blob_directory.specs.declared.unsettled.About.{About}
use Rattle.blob_directory.specs.declared.unsettled.Synced.{Synced}
use Rattle.blob_directory.specs.declared.unsettled.Synced.TheVariants.{File, Data, Directory}
use Rattle.blob_directory.specs.declared.unsettled.Unsettled.{Unsettled}

some_is : {m n : ℕ} → Some m ≡ Some n → n ≡ m
some_is e = cc

false_by : (b : Bool) → (b ≡ true → ⊥) → b ≡ false
false_by true not_true = absurd (not_true refl)
false_by false not_true = refl

-- An index that has more.

keeps_other : (index index' : BTreeSet ℕ) (o : Option ℕ) → KeepsAll index index' → has_other index o ≡ true → has_other index' o ≡ true
keeps_other index index' None keeps h = refl
keeps_other index index' (Some n) keeps h = keeps n h

pub keeps_about : (index index' : BTreeSet ℕ) (a : About) → KeepsAll index index' → has_about index a ≡ true → has_about index' a ≡ true
keeps_about index index' a keeps h =
    let p = and_parts (has index a.inode && has index a.directory) (has_other index a.other && has_other index a.other_directory) h in
    let first = and_parts (has index a.inode) (has index a.directory) p.0 in
    let rest = and_parts (has_other index a.other) (has_other index a.other_directory) p.1 in
    and_from _ _ (and_from _ _ (keeps a.inode first.0) (keeps a.directory first.1))
    (and_from _ _ (keeps_other index index' a.other keeps rest.0) (keeps_other index index' a.other_directory keeps rest.1))

pub all_then : (p q : Unsettled → Bool) → ((e : Unsettled) → p e ≡ true → q e ≡ true) → (edits : List Unsettled) → list_all p edits ≡ true → list_all q edits ≡ true
all_then p q more [] h = refl
all_then p q more (e ∷ edits) h =
    let parts = and_parts (p e) (list_all p edits) h in
    and_from (q e) (list_all q edits) (more e parts.0) (all_then p q more edits parts.1)

pub keeps_indexed : (index index' : BTreeSet ℕ) (edits : List Unsettled) → KeepsAll index index' → list_all (is_indexed index) edits ≡ true → list_all (is_indexed index') edits ≡ true
keeps_indexed index index' edits keeps h = all_then (is_indexed index) (is_indexed index') (λ e x. keeps_about index index' e.about keeps x) edits h

-- Tests of all edits of a list, of a part of it, and of the changed ones.

pub all_joined : (p : Unsettled → Bool) (xs ys : List Unsettled) → list_all p xs ≡ true → list_all p ys ≡ true → list_all p (xs ++ ys) ≡ true
all_joined p [] ys h g = g
all_joined p (x ∷ xs) ys h g =
    let parts = and_parts (p x) (list_all p xs) h in
    and_from (p x) (list_all p (xs ++ ys)) parts.0 (all_joined p xs ys parts.1 g)

pub all_taken : (p : Unsettled → Bool) (n : ℕ) (xs : List Unsettled) → list_all p xs ≡ true → list_all p (take n xs) ≡ true
all_taken p zero xs h = refl
all_taken p (suc n) [] h = refl
all_taken p (suc n) (x ∷ xs) h =
    let parts = and_parts (p x) (list_all p xs) h in
    and_from (p x) (list_all p (take n xs)) parts.0 (all_taken p n xs parts.1)

-- the first of them and the others
pub all_parts : (p : Unsettled → Bool) (n : ℕ) (xs : List Unsettled) → list_all p (take n xs) ≡ true → list_all p (drop n xs) ≡ true → list_all p xs ≡ true
all_parts p zero xs h g = g
all_parts p (suc n) [] h g = refl
all_parts p (suc n) (x ∷ xs) h g =
    let parts = and_parts (p x) (list_all p (take n xs)) h in
    and_from (p x) (list_all p xs) parts.0 (all_parts p n xs parts.1 g)

pub all_mapped : (p : Unsettled → Bool) (f : Unsettled → Unsettled) → ((e : Unsettled) → p e ≡ true → p (f e) ≡ true) → (n : ℕ) (xs : List Unsettled) → list_all p (take n xs) ≡ true → list_all p (take n (map f xs)) ≡ true
all_mapped p f more zero xs h = refl
all_mapped p f more (suc n) [] h = refl
all_mapped p f more (suc n) (x ∷ xs) h =
    let parts = and_parts (p x) (list_all p (take n xs)) h in
    and_from (p (f x)) (list_all p (take n (map f xs))) (more x parts.0) (all_mapped p f more n xs parts.1)

pub all_filtered : (p q : Unsettled → Bool) (xs : List Unsettled) → list_all p xs ≡ true → list_all p (filter q xs) ≡ true
all_filtered p q [] h = refl
all_filtered p q (x ∷ xs) h =
    let parts = and_parts (p x) (list_all p xs) h in
    let rest = all_filtered p q xs parts.1 in
    cond_both (q x) (x ∷ filter q xs) (filter q xs) (λ l. list_all p l ≡ true) (λ _. and_from (p x) (list_all p (filter q xs)) parts.0 rest) (λ _. rest)

-- the edits from an index on are in an index that has more
pub indexed_more : (index index' : BTreeSet ℕ) (n : ℕ) (edits l : List Unsettled) → KeepsAll index index' → list_all (is_indexed index) (take n edits) ≡ true
    → l ≡ edits → list_all (is_indexed index') (take (length l - n) (drop n l)) ≡ true → list_all (is_indexed index') edits ≡ true
indexed_more index index' n edits l keeps h is g =
    let long = length-drop n l in
    let rest : take (length l - n) (drop n l) ≡ drop n edits = take_all (length l - n) (drop n l) (omega (arith, long)) ∙ ap (drop n) is in
    all_parts (is_indexed index') n edits (keeps_indexed index index' (take n edits) keeps h) (subst (λ (r : List Unsettled). list_all (is_indexed index') r ≡ true) rest g)

-- marks change nothing that edits are about
abbrev about_of : Unsettled → About
about_of e = e.about

marked_about : (wants : Unsettled → Bool) (edits : List Unsettled) → map about_of (map (marked wants) edits) ≡ map about_of edits
marked_about wants [] = refl
marked_about wants (e ∷ edits) = ap (λ (l : List About). e.about ∷ l) (marked_about wants edits)

same_about : {T E : Type 0} (r : Result T E) (settles : Settles) (synced : Synced) (old new : List Unsettled) → OnOk r (Marks settles synced old new) → OnErr r (new ≡ old) → map about_of new ≡ map about_of old
same_about (Ok x) settles synced old new marks same = ap (map about_of) marks.is ∙ marked_about marks.wants old
same_about (Err e) settles synced old new marks same = ap (map about_of) same

by_about : (index : BTreeSet ℕ) (n : ℕ) (edits : List Unsettled) → list_all (is_indexed index) (take n edits) ≡ list_all (has_about index) (take n (map about_of edits))
by_about index zero edits = refl
by_about index (suc n) [] = refl
by_about index (suc n) (e ∷ edits) = ap (λ (b : Bool). has_about index e.about && b) (by_about index n edits)

module _ {T E : Type 0} (r : Result T E) (settles : Settles) (synced : Synced) (old new : List Unsettled) (marks : OnOk r (Marks settles synced old new)) (same : OnErr r (new ≡ old)) where
  pub marked_long : length new ≡ length old
  marked_long = sym (length-map new about_of) ∙ ap (λ (l : List About). length l) (same_about r settles synced old new marks same) ∙ length-map old about_of

  pub marked_indexed : (index : BTreeSet ℕ) (n : ℕ) → list_all (is_indexed index) (take n old) ≡ true → list_all (is_indexed index) (take n new) ≡ true
  marked_indexed index n h =
      by_about index n new ∙ ap (λ (l : List About). list_all (has_about index) (take n l)) (same_about r settles synced old new marks same) ∙ sym (by_about index n old) ∙ h

-- Edits that are noted.

pub noted_marked : (edits : List Unsettled) → list_all is_noted (map (marked (λ _. false)) edits) ≡ true
noted_marked [] = refl
noted_marked (e ∷ edits) = noted_marked edits

pub unwanted_marked : (edits : List Unsettled) → list_all unwanted (map (marked (λ _. false)) edits) ≡ true
unwanted_marked [] = refl
unwanted_marked (e ∷ edits) = unwanted_marked edits

is_wanted_not : (b : Bool) → not b ≡ true → false ≡ b
is_wanted_not true h = h
is_wanted_not false h = refl

same_noted : (e : Unsettled) → is_noted e ≡ true → marked (λ _. false) e ≡ e
same_noted e h =
    let parts = and_parts e.is_seen (not e.is_wanted) h in
    ap₂ (λ (a b : Bool). record e { is_wanted = a; is_seen = b }) (is_wanted_not e.is_wanted parts.1) (sym parts.0)

-- one more is marked
pub one_more_marked : (old edits : List Unsettled) (k : ℕ) (x new : Unsettled) → k < length old → x ≡ get_or edits k x → new ≡ marked (λ _. false) x
    → edits ≡ map (marked (λ _. false)) (take k old) ++ drop k old → set edits k new ≡ map (marked (λ _. false)) (take (k + 1) old) ++ drop (k + 1) old
one_more_marked old edits k x new low is now before =
    ap (λ (e : Unsettled). set edits k e) now ∙ map_over_more (marked (λ _. false)) old edits k x low before is

-- marks of the first ones change nothing
pub same_first : (n : ℕ) (edits : List Unsettled) → list_all is_noted (take n edits) ≡ true → map (marked (λ _. false)) (take n edits) ++ drop n edits ≡ edits
same_first zero edits h = refl
same_first (suc n) [] h = refl
same_first (suc n) (e ∷ edits) h =
    let parts = and_parts (is_noted e) (list_all is_noted (take n edits)) h in
    ap₂ (λ (x : Unsettled) (l : List Unsettled). x ∷ l) (same_noted e parts.0) (same_first n edits parts.1)

-- Moves whose new names have edits of their own.

no_more_about : (index : BTreeSet ℕ) (a : About) → has_about index a ≡ true → has_about index (record a { other_directory = None }) ≡ true
no_more_about index a h =
    let p = and_parts (has index a.inode && has index a.directory) (has_other index a.other && has_other index a.other_directory) h in
    let rest = and_parts (has_other index a.other) (has_other index a.other_directory) p.1 in
    and_from _ _ p.0 (and_from _ _ rest.0 refl)

pub indexed_unbound : (index : BTreeSet ℕ) (d : ℕ) (e : Unsettled) → is_indexed index e ≡ true → is_indexed index (unbound d e) ≡ true
indexed_unbound index d e h = cond_both (moved_into d e.about) (record e { about = record e.about { other_directory = None } }) e (λ (u : Unsettled). is_indexed index u ≡ true)
    (λ _. no_more_about index e.about h) (λ _. h)

pub noted_unbound : (d : ℕ) (e : Unsettled) → is_noted e ≡ true → is_noted (unbound d e) ≡ true
noted_unbound d e h = cond_both (moved_into d e.about) (record e { about = record e.about { other_directory = None } }) e (λ (u : Unsettled). is_noted u ≡ true) (λ _. h) (λ _. h)

-- A number that the index doesn't have.

other_has : (index : BTreeSet ℕ) (o : Option ℕ) (n : ℕ) → has_other index o ≡ true → is_number o n ≡ true → has index n ≡ true
other_has index None n h is = absurd (both_ways false refl is)
other_has index (Some m) n h is = subst (λ k. has index k ≡ true) (eqb-true m n is) h

-- what an edit that touches a number says of it
touched : (a : About) (n : ℕ) → touches false n a ≡ true → (is_of n a ≡ true) ⊎ (is_in n a ≡ true)
touched a n h = or_cases (is_of n a) (is_in n a) (and_parts (is_of n a || is_in n a) (not (false && is_some a.other)) h).0

has_touched : (index : BTreeSet ℕ) (a : About) (n : ℕ) → has_about index a ≡ true → touches false n a ≡ true → has index n ≡ true
has_touched index a n h t =
    let p = and_parts (has index a.inode && has index a.directory) (has_other index a.other && has_other index a.other_directory) h in
    let first = and_parts (has index a.inode) (has index a.directory) p.0 in
    let rest = and_parts (has_other index a.other) (has_other index a.other_directory) p.1 in
    ⊎_elim
    (λ x. ⊎_elim (λ y. subst (λ k. has index k ≡ true) (eqb-true a.inode n y) first.0) (λ y. other_has index a.other n rest.0 y) (or_cases (nat_eq a.inode n) (is_number a.other n) x))
    (λ x. ⊎_elim (λ y. subst (λ k. has index k ≡ true) (eqb-true a.directory n y) first.1) (λ y. other_has index a.other_directory n rest.1 y) (or_cases (nat_eq a.directory n) (is_number a.other_directory n) x))
    (touched a n t)

pub about_none : (index : BTreeSet ℕ) (n : ℕ) (edits : List Unsettled) → list_all (is_indexed index) edits ≡ true → has index n ≡ false → about_any n edits ≡ false
about_none index n [] h none = refl
about_none index n (e ∷ edits) h none =
    let parts = and_parts (is_indexed index e) (list_all (is_indexed index) edits) h in
    false_by (touches false n e.about || about_any n edits) (λ x. ⊎_elim
    (λ y. both_ways (has index n) none (has_touched index e.about n parts.0 y))
    (λ y. both_ways (about_any n edits) (about_none index n edits parts.1 none) y)
    (or_cases (touches false n e.about) (about_any n edits) x))

-- An index without a number that no edit is about.

or_false : (a b : Bool) → (a || b) ≡ false → (a ≡ false) × (b ≡ false)
or_false true b h = absurd (both_ways true h refl)
or_false false b h = (refl, h)

and_true : (a : Bool) → (a && true) ≡ false → a ≡ false
and_true true h = h
and_true false h = refl

abbrev KeepsOthers : ℕ → BTreeSet ℕ → BTreeSet ℕ → Type 0
KeepsOthers n index index' = (m : ℕ) → nat_eq m n ≡ false → has index m ≡ true → has index' m ≡ true

other_without : (index index' : BTreeSet ℕ) (n : ℕ) (o : Option ℕ) → KeepsOthers n index index' → is_number o n ≡ false → has_other index o ≡ true → has_other index' o ≡ true
other_without index index' n None keeps none h = refl
other_without index index' n (Some m) keeps none h = keeps m none h

about_without : (index index' : BTreeSet ℕ) (n : ℕ) (a : About) → KeepsOthers n index index' → touches false n a ≡ false → has_about index a ≡ true → has_about index' a ≡ true
about_without index index' n a keeps none h =
    let p = and_parts (has index a.inode && has index a.directory) (has_other index a.other && has_other index a.other_directory) h in
    let first = and_parts (has index a.inode) (has index a.directory) p.0 in
    let rest = and_parts (has_other index a.other) (has_other index a.other_directory) p.1 in
    let not_of = or_false (is_of n a) (is_in n a) (and_true (is_of n a || is_in n a) none) in
    let of = or_false (nat_eq a.inode n) (is_number a.other n) not_of.0 in
    let within = or_false (nat_eq a.directory n) (is_number a.other_directory n) not_of.1 in
    and_from _ _ (and_from _ _ (keeps a.inode of.0 first.0) (keeps a.directory within.0 first.1))
    (and_from _ _ (other_without index index' n a.other keeps of.1 rest.0) (other_without index index' n a.other_directory keeps within.1 rest.1))

apart : (n m : ℕ) → nat_eq m n ≡ false → is_at (nat_cmp n) m ≡ false
apart n m other = cond_both (nat_lt n m) Less (cond (n == m) Equal Greater) (λ o. is_eq o ≡ false) (λ _. refl)
    (λ _. cond_both (n == m) Equal Greater (λ o. is_eq o ≡ false) (λ e. absurd (both_ways (nat_eq m n) other (eq-eqb m n (sym (eqb-true n m e))))) (λ _. refl))

-- an index from which the number was removed
pub keeps_others : (index index' : BTreeSet ℕ) (n : ℕ) → ((m : ℕ) → is_at (nat_cmp n) m ≡ false → has index' m ≡ has index m) → KeepsOthers n index index'
keeps_others index index' n same m other h = same m (apart n m other) ∙ h

pub indexed_without : (index index' : BTreeSet ℕ) (n : ℕ) (edits : List Unsettled) → KeepsOthers n index index' → about_any n edits ≡ false → list_all (is_indexed index) edits ≡ true → list_all (is_indexed index') edits ≡ true
indexed_without index index' n [] keeps none h = refl
indexed_without index index' n (e ∷ edits) keeps none h =
    let parts = and_parts (is_indexed index e) (list_all (is_indexed index) edits) h in
    let none = or_false (touches false n e.about) (about_any n edits) none in
    and_from (is_indexed index' e) (list_all (is_indexed index') edits) (about_without index index' n e.about keeps none.0 parts.0) (indexed_without index index' n edits keeps none.1 parts.1)

-- A sync that settles nothing.

none_at : (n : ℕ) (xs : List Unsettled) → about_any n xs ≡ false → (k : ℕ) (d : Unsettled) → k < length xs → touches false n (slice_index_or xs k d).about ≡ false
none_at n [] none k d low = absurd (omega (arith, low))
none_at n (x ∷ xs) none zero d low = (or_false (touches false n x.about) (about_any n xs) none).0
none_at n (x ∷ xs) none (suc k) d low = none_at n xs (or_false (touches false n x.about) (about_any n xs) none).1 k d (omega (arith, low))

module _ (edits : List Unsettled) (n : ℕ) (empty : about_any n edits ≡ false) where
  untouched : (e : Unsettled) → Contains edits e → (is_of n e.about ≡ false) × (is_in n e.about ≡ false)
  untouched e there =
      let none : touches false n e.about ≡ false = ap (λ (u : Unsettled). touches false n u.about) (sym there.2) ∙ none_at n edits empty there.0 e there.1 in
      or_false (is_of n e.about) (is_in n e.about) (and_true (is_of n e.about || is_in n e.about) none)

  itself : (i : ℕ) → Upward edits n i → i ≡ n
  itself i Itself = refl
  itself i (Above j d up above new) = absurd (both_ways (is_of n above.edit.about) (untouched above.edit above.there).0 (subst (λ k. is_of k above.edit.about ≡ true) (itself j up) above.of_inode))

  not_of : (e : Unsettled) → Contains edits e → is_of n e.about ≡ true → ⊥
  not_of e there = both_ways (is_of n e.about) (untouched e there).0

  not_in : (e : Unsettled) → Contains edits e → is_in n e.about ≡ true → ⊥
  not_in e there = both_ways (is_in n e.about) (untouched e there).1

  not_upward : (e : Unsettled) → Contains edits e → IsUpward edits n e → ⊥
  not_upward e there (inl of) = not_of e there of
  not_upward e there (inr m) =
      let made : makes n e ≡ true = subst (λ k. makes k e ≡ true) (itself m.above m.upward) m.makes in
      not_of e there (or_left (nat_eq e.about.inode n) (is_number e.about.other n) (and_parts _ _ (and_parts _ _ made).0).0)

  not_settled_in : (e : Unsettled) → Contains edits e → is_settled_in n e.about ≡ true → ⊥
  not_settled_in e there h = not_in e there (and_parts (is_in n e.about) (not (moved_into n e.about)) h).0

abbrev NoneIsAbout : List Unsettled → ℕ → Type 0
NoneIsAbout edits n = about_any n edits ≡ false

settles_none : (settles : Settles) (synced : Synced) (edits : List Unsettled) → (number : ℕ) → decisive settles synced ≡ Some number → NoneIsAbout edits number → (e : Unsettled) → Contains edits e → SyncSettles settles synced edits e → ⊥
settles_none Own (File i sized) edits n is none e there h = not_in edits i (subst (NoneIsAbout edits) (some_is is) none) e there h
settles_none Own (Data i sized) edits n is none e there h = not_in edits i (subst (NoneIsAbout edits) (some_is is) none) e there h
settles_none Own (Directory d) edits n is none e there h = not_in edits d (subst (NoneIsAbout edits) (some_is is) none) e there h
settles_none Names (File i sized) edits n is none e there h = not_upward edits i (subst (NoneIsAbout edits) (some_is is) none) e there h
settles_none Names (Data i sized) edits n is none e there h = not_upward edits i (subst (NoneIsAbout edits) (some_is is) none) e there h
settles_none Names (Directory d) edits n is none e there (inl h) = not_upward edits d (subst (NoneIsAbout edits) (some_is is) none) e there h
settles_none Names (Directory d) edits n is none e there (inr h) = not_settled_in edits d (subst (NoneIsAbout edits) (some_is is) none) e there h
settles_none UpToLast synced edits n is none e there h = cc
settles_none UpToLastOrSize synced edits n is none e there h = cc
settles_none All synced edits n is none e there h = cc

-- the test that passes no edit passes those that the sync settles
pub wants_none : (settles : Settles) (synced : Synced) (edits : List Unsettled) (number : ℕ) → decisive settles synced ≡ Some number → about_any number edits ≡ false → Wants settles synced edits (λ _. false)
wants_none settles synced edits n is none e there = (λ t. absurd (both_ways false refl t), λ h. absurd (settles_none settles synced edits n is none e there h))

-- A slice of the whole list, written back.

pub written : (new old : List Unsettled) (n : ℕ) → length new ≡ length old → n ≡ length old → take n (new ++ drop (length new) old) ≡ new
written new old n same all =
    ap (λ (l : List Unsettled). take n (new ++ l)) (drop_all (length new) old (omega (arith, same)))
    ∙ ap (λ (l : List Unsettled). take n l) (append-nil new)
    ∙ take_all n new (omega (arith, same, all))
