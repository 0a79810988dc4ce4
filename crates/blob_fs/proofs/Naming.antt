-- How many names a file has, through an edit.
use Rattle.std.proofs.Common.{◌≡◌, ◌≢◌, ◌≤◌, ◌⊎◌, ℕ, suc, Bool, true, false, List, [], ◌∷◌, length, cond, Contains, eqb, pred, inl, inr, ⊎_elim, Option, None, Some, refl, sym, ap, subst, ◌∙◌, arith}
use Rattle.std.specs.BTreeMap.{BTreeMap, get}
use Rattle.std.specs.Ordering.{is_eq, nat_cmp}
use Rattle.std.specs.Cmp.Lexicographic.{bytes_decides}
use Rattle.std.specs.Str.{bytes_eq}
use Rattle.std.proofs.lemmas.Bool.{cases_Bool, eq-eqb, eqb-true, false≢true}
use Rattle.std.proofs.lemmas.List.Elements.{Contains-append_right}
use Rattle.std.proofs.lemmas.Map.Made.{Contains-tail}
use Rattle.blob_directory.specs.declared.edit.Binding.{Binding}
use Rattle.blob_directory.specs.declared.edit.Kind.{Kind}
use Rattle.blob_directory.specs.declared.edit.Kind.TheVariants.{Directory, File}
use Rattle.blob_directory.specs.Counts.{NamedAtMost}
use Rattle.blob_directory.specs.Names.{Names, Same, changed, directory_at, edited, exchanges, file, moves}
use Rattle.blob_fs.specs.declared.file_system.File as of_fs
use Rattle.blob_fs.specs.Named.{AllNamed, links_in}
use Rattle.blob_fs.proofs.Recovering.{key_is, key_self}

pub none_some : {A : Type 0} {x : A} → ◌≡◌ {A = Option A} None (Some x) → ⊥
none_some e = cc

bound_same : {a b : Binding} → Some a ≡ Some b → a ≡ b
bound_same e = cc

file_same : (a b : ℕ) → file a ≡ file b → a ≡ b
file_same a b e = ap (λ (x : Binding). x.inode) e

abbrev is_file : Binding → Bool
is_file b = elim b.kind [ File ↦ true | Directory ↦ false ]

pub apart : (d i : ℕ) → directory_at d ≢ file i
apart d i e = false≢true (ap is_file e)

same_or_not : (b : Binding) (i : ℕ) → (b ≡ file i) ⊎ (b ≢ file i)
same_or_not b i = by b.inode b.kind (eqb b.inode i) refl
  where
    by : (n : ℕ) (kind : Kind) (same : Bool) → eqb n i ≡ same → (record { inode = n; kind = kind } ≡ file i) ⊎ (record { inode = n; kind = kind } ≢ file i)
    by n Directory same e = inr (λ is. apart n i is)
    by n File true e = inl (ap file (eqb-true n i e))
    by n File false e = inr (λ is. false≢true (sym e ∙ eq-eqb n i (file_same n i is)))

pub file_is : (b : Binding) → b.kind ≡ File → b ≡ file b.inode
file_is b is = ap (λ (kind : Kind). record { inode = b.inode; kind = kind }) is

-- Lists of entries.

abbrev pub drop_one : List ℕ → List (List ℕ) → List (List ℕ)
drop_one e [] = []
drop_one e (x ∷ xs) = cond (bytes_eq x e) xs (x ∷ drop_one e xs)

-- fewer by one, if it was among them
pub one_less : (xs : List (List ℕ)) (e : List ℕ) → Contains xs e → suc (length (drop_one e xs)) ≡ length xs
one_less [] e h = absurd (omega (arith, h.1))
one_less (x ∷ xs) e h = by (bytes_eq x e) refl (λ other. one_less xs e (Contains-tail x xs e other h))
  where
    by : (b : Bool) → bytes_eq x e ≡ b → (x ≢ e → suc (length (drop_one e xs)) ≡ length xs) → suc (length (cond b xs (x ∷ drop_one e xs))) ≡ suc (length xs)
    by true y rest = refl
    by false n rest = ap suc (rest (λ is. false≢true (sym n ∙ (bytes_decides x e).1 is)))

-- each other one stays
pub others_stay : (xs : List (List ℕ)) (e x : List ℕ) → x ≢ e → Contains xs x → Contains (drop_one e xs) x
others_stay [] e x other h = absurd (omega (arith, h.1))
others_stay (y ∷ ys) e x other h = by (bytes_eq y e) refl (λ apart. Contains-tail y ys x apart h) (λ has. others_stay ys e x other has)
  where
    keep : (b : Bool) → bytes_eq y x ≡ b → (y ≢ x → Contains ys x) → (Contains ys x → Contains (drop_one e ys) x) → Contains (y ∷ drop_one e ys) x
    keep true is rest stay = subst (λ (z : List ℕ). Contains (y ∷ drop_one e ys) z) ((bytes_decides y x).0 is) (0, omega arith, refl)
    keep false n rest stay = Contains-append_right (y ∷ []) (drop_one e ys) x (stay (rest (λ is. false≢true (sym n ∙ (bytes_decides y x).1 is))))

    by : (b : Bool) → bytes_eq y e ≡ b → (y ≢ x → Contains ys x) → (Contains ys x → Contains (drop_one e ys) x) → Contains (cond b ys (y ∷ drop_one e ys)) x
    by true is rest stay = rest (λ same. other (sym same ∙ (bytes_decides y e).0 is))
    by false n rest stay = keep (bytes_eq y x) refl rest stay

-- Names.

-- no name but those of before
pub fewer : (a b : Names) (i n : ℕ) → ((e : List ℕ) → b e ≡ Some (file i) → a e ≡ Some (file i)) → NamedAtMost a i n → NamedAtMost b i n
fewer a b i n within h = record { entries = h.entries; few = h.few; each = λ e is. h.each e (within e is) }

pub at_more : (names : Names) (i n k : ℕ) → n ≤ k → NamedAtMost names i n → NamedAtMost names i k
at_more names i n k more h = let few = h.few in record { entries = h.entries; few = omega (arith, few, more); each = h.each }

-- a name of before is gone
pub one_fewer : (a b : Names) (i n : ℕ) (gone : List ℕ) → a gone ≡ Some (file i) → b gone ≢ Some (file i)
    → ((e : List ℕ) → b e ≡ Some (file i) → a e ≡ Some (file i)) → NamedAtMost a i n → NamedAtMost b i (pred n)
one_fewer a b i n gone was now within h =
    let less = one_less h.entries gone (h.each gone was) in
    let few = h.few in
    record {
      entries = drop_one gone h.entries;
      few = omega (arith, less, few);
      each = λ e is. others_stay h.entries gone e (λ same. now (sym (ap b same) ∙ is)) (h.each e (within e is));
    }

-- one name more
pub one_more : (a b : Names) (i n : ℕ) (new : List ℕ) → ((e : List ℕ) → b e ≡ Some (file i) → (e ≡ new) ⊎ (a e ≡ Some (file i))) → NamedAtMost a i n → NamedAtMost b i (suc n)
one_more a b i n new within h =
    let few = h.few in
    record {
      entries = new ∷ h.entries;
      few = omega (arith, few);
      each = λ e is. ⊎_elim
          (λ same. subst (λ (x : List ℕ). Contains (new ∷ h.entries) x) (sym same) (0, omega arith, refl))
          (λ old. Contains-append_right (new ∷ []) h.entries e (h.each e old))
          (within e is);
    }

-- a name of before in place of another
pub one_moved : (a b : Names) (i n : ℕ) (old new : List ℕ) → a old ≡ Some (file i)
    → ((e : List ℕ) → b e ≡ Some (file i) → (e ≡ new) ⊎ ((e ≢ old) × (a e ≡ Some (file i)))) → NamedAtMost a i n → NamedAtMost b i n
one_moved a b i n old new was within h =
    let less = one_less h.entries old (h.each old was) in
    let few = h.few in
    record {
      entries = new ∷ drop_one old h.entries;
      few = omega (arith, less, few);
      each = λ e is. ⊎_elim
          (λ same. subst (λ (x : List ℕ). Contains (new ∷ drop_one old h.entries) x) (sym same) (0, omega arith, refl))
          (λ x. Contains-append_right (new ∷ []) (drop_one old h.entries) e (others_stay h.entries old e x.0 (h.each e x.1)))
          (within e is);
    }

-- what a change leaves of an entry
change_cases : (a : Names) (e x : List ℕ) (to : Option Binding) (y : Binding) → changed a (e, to) x ≡ Some y → ((x ≡ e) × (to ≡ Some y)) ⊎ ((x ≢ e) × (a x ≡ Some y))
change_cases a e x to y h = by (bytes_eq e x) refl h
  where
    by : (b : Bool) → bytes_eq e x ≡ b → cond b to (a x) ≡ Some y → ((x ≡ e) × (to ≡ Some y)) ⊎ ((x ≢ e) × (a x ≡ Some y))
    by true is h = inl (sym ((bytes_decides e x).0 is), h)
    by false n h = inr (λ same. false≢true (sym n ∙ (bytes_decides e x).1 (sym same)), h)

-- Names with an edit.

module _ (names after : Names) (m : BTreeMap ℕ of_fs.File) (each : AllNamed names m) where
  -- an entry is freed
  pub all_freed : (e : List ℕ) → Same after (edited names ((e, None) ∷ [])) → AllNamed after m
  all_freed e made i = fewer names after i _ (λ x is. ⊎_elim (λ h. absurd (none_some h.1)) (λ h. h.1) (change_cases names e x None (file i) (sym (made x) ∙ is))) (each i)

  -- an entry is bound to a directory
  pub all_bound : (e : List ℕ) (d : ℕ) → Same after (edited names ((e, Some (directory_at d)) ∷ [])) → AllNamed after m
  all_bound e d made i = fewer names after i _
      (λ x is. ⊎_elim (λ h. absurd (apart d i (bound_same h.1))) (λ h. h.1) (change_cases names e x (Some (directory_at d)) (file i) (sym (made x) ∙ is))) (each i)

  -- an entry is bound to a file that has a link to spare
  pub all_linked : (e : List ℕ) (k n : ℕ) → NamedAtMost names k n → suc n ≤ links_in (get nat_cmp m k) → Same after (edited names ((e, Some (file k)) ∷ [])) → AllNamed after m
  all_linked e k n own spare made i = ⊎_elim
      (λ y. subst (λ (q : ℕ). NamedAtMost after q (links_in (get nat_cmp m q))) (key_is k i y)
      (at_more after k _ _ spare (one_more names after k n e (λ x h. ⊎_elim (λ here. inl here.0) (λ there. inr there.1) (change_cases names e x (Some (file k)) (file k) (sym (made x) ∙ h))) own)))
      (λ z. let other : k ≢ i = λ same. false≢true (sym z ∙ ap (λ (q : ℕ). is_eq (nat_cmp k q)) (sym same) ∙ key_self k) in
      fewer names after i _ (λ x h. ⊎_elim (λ here. absurd (other (file_same k i (bound_same here.1)))) (λ there. there.1) (change_cases names e x (Some (file k)) (file i) (sym (made x) ∙ h))) (each i))
      (cases_Bool (is_eq (nat_cmp k i)))

  -- what an entry is bound to moves to another one
  pub all_moved : (old new : List ℕ) (moved : Binding) → names old ≡ Some moved → Same after (edited names (moves old new moved)) → AllNamed after m
  all_moved old new moved was made i =
      let cases : (x : List ℕ) → after x ≡ Some (file i) → ((x ≡ new) × (moved ≡ file i)) ⊎ ((x ≢ old) × (names x ≡ Some (file i))) = λ x is. ⊎_elim
      (λ h. inl (h.0, bound_same h.1))
      (λ h. ⊎_elim (λ f. absurd (none_some f.1)) (λ f. inr f) (change_cases names old x None (file i) h.1))
      (change_cases (changed names (old, None)) new x (Some moved) (file i) (sym (made x) ∙ is)) in
      ⊎_elim
      (λ (is : moved ≡ file i). one_moved names after i _ old new (was ∙ ap Some is) (λ x h. ⊎_elim (λ a. inl a.0) (λ b. inr b) (cases x h)) (each i))
      (λ (other : moved ≢ file i). fewer names after i _ (λ x h. ⊎_elim (λ a. absurd (other a.1)) (λ b. b.1) (cases x h)) (each i))
      (same_or_not moved i)

  -- two entries exchange what they are bound to
  pub all_exchanged : (old new : List ℕ) (moved was : Binding) → names old ≡ Some moved → names new ≡ Some was → was ≢ moved → Same after (edited names (exchanges old new moved was)) → AllNamed after m
  all_exchanged old new moved was one two differ made i =
      let cases : (x : List ℕ) → after x ≡ Some (file i) → ((x ≡ new) × (moved ≡ file i)) ⊎ ((x ≢ new) × (((x ≡ old) × (was ≡ file i)) ⊎ ((x ≢ old) × (names x ≡ Some (file i))))) = λ x is. ⊎_elim
      (λ h. inl (h.0, bound_same h.1))
      (λ h. inr (h.0, ⊎_elim (λ f. inl (f.0, bound_same f.1)) (λ f. inr f) (change_cases names old x (Some was) (file i) h.1)))
      (change_cases (changed names (old, Some was)) new x (Some moved) (file i) (sym (made x) ∙ is)) in
      ⊎_elim
      (λ (is : moved ≡ file i). one_moved names after i _ old new (one ∙ ap Some is)
      (λ x h. ⊎_elim (λ a. inl a.0) (λ b. inr (⊎_elim (λ f. absurd (differ (f.1 ∙ sym is))) (λ f. f) b.1)) (cases x h)) (each i))
      (λ (other : moved ≢ file i). ⊎_elim
      (λ (is : was ≡ file i). one_moved names after i _ new old (two ∙ ap Some is)
      (λ x h. ⊎_elim (λ a. absurd (other a.1)) (λ b. ⊎_elim (λ f. inl f.0) (λ f. inr (b.0, f.1)) b.1) (cases x h)) (each i))
      (λ (none : was ≢ file i). fewer names after i _
      (λ x h. ⊎_elim (λ a. absurd (other a.1)) (λ b. ⊎_elim (λ f. absurd (none f.1)) (λ f. f.1) b.1) (cases x h)) (each i))
      (same_or_not was i))
      (same_or_not moved i)

  -- one name of a file is gone
  pub less_freed : (e : List ℕ) (k : ℕ) → names e ≡ Some (file k) → Same after (edited names ((e, None) ∷ [])) → NamedAtMost after k (pred (links_in (get nat_cmp m k)))
  less_freed e k was made = one_fewer names after k _ e was
      (λ now. ⊎_elim (λ h. none_some h.1) (λ h. h.0 refl) (change_cases names e e None (file k) (sym (made e) ∙ now)))
      (λ x is. ⊎_elim (λ h. absurd (none_some h.1)) (λ h. h.1) (change_cases names e x None (file k) (sym (made x) ∙ is))) (each k)

  -- that of a file that another one replaces
  pub less_replaced : (old new : List ℕ) (moved : Binding) (k : ℕ) → names new ≡ Some (file k) → file k ≢ moved → Same after (edited names (moves old new moved)) → NamedAtMost after k (pred (links_in (get nat_cmp m k)))
  less_replaced old new moved k was differ made =
      let cases : (x : List ℕ) → after x ≡ Some (file k) → (x ≢ new) × (names x ≡ Some (file k)) = λ x is. ⊎_elim
      (λ h. absurd (differ (sym (bound_same h.1))))
      (λ h. ⊎_elim (λ f. absurd (none_some f.1)) (λ f. (h.0, f.1)) (change_cases names old x None (file k) h.1))
      (change_cases (changed names (old, None)) new x (Some moved) (file k) (sym (made x) ∙ is)) in
      one_fewer names after k _ new was (λ now. (cases new now).0 refl) (λ x is. (cases x is).1) (each k)

-- no entry is bound to a file without links
pub unnamed : (names : Names) (i n : ℕ) → n ≡ 0 → NamedAtMost names i n → (e : List ℕ) → names e ≢ Some (file i)
unnamed names i n none h e is = let few = h.few in let has = h.each e is in let lt = has.1 in absurd (omega (arith, none, few, lt))
