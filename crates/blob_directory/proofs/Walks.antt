-- The walk from the root: what is found so far, and that nothing is left out at its end.
use Rattle.std.proofs.Common.{◌≡◌, ℕ, List, [], ◌∷◌, Bool, true, false, ◌&&◌, ◌||◌, not, Option, None, Some, nat_eq, refl, sym, ap, subst, ◌∙◌, ◌⊎◌, inl, inr, ⊎_elim, if◌then◌else◌}
use Rattle.std.specs.Cmp.Lexicographic.{bytes_decides}
use Rattle.std.specs.List.{Contains}
use Rattle.std.specs.Str.{bytes_eq}
use Rattle.std.proofs.lemmas.List.Elements.{All-cons, All-contains, All-nil}
use Rattle.std.proofs.lemmas.Bool.{cases_Bool, cond-true, cond-false, false≢true, eqb-true, eq-eqb, or_cases, or_left, or_right}
use Rattle.blob_directory.specs.declared.edit.Binding.{Binding}
use Rattle.blob_directory.specs.declared.edit.Kind.{Kind}
use Rattle.blob_directory.specs.declared.edit.Kind.TheVariants.{File, Directory}
use Rattle.blob_directory.specs.Names.{IsReached, Names, Reached, Root, Below, Same, Within, changed, directory_at, entry, file}
use Rattle.blob_directory.specs.Trees.{Finds, NamesOnce, is_directory}
use Rattle.blob_directory.proofs.Withins.{nothing_within, reached_same, within_changed, within_same}

-- what is found while the walk has seen these directories
pub record Walked (told found : Names) (seen : ℕ → Bool) : Type 0 where
  pub within : Within found told
  pub root : seen 1 ≡ true
  pub named : (e : List ℕ) (d : ℕ) → found e ≡ Some (directory_at d) → seen d ≡ true
  pub once : (a b : List ℕ) (d : ℕ) → found a ≡ Some (directory_at d) → found b ≡ Some (directory_at d) → a ≡ b
  pub rootless : (e : List ℕ) → found e ≡ Some (directory_at 1) → ⊥
  pub linked : (d : ℕ) → seen d ≡ true → Reached found d

-- a file's name is found, and the directory of another is seen
abbrev pub Kept : Names → (ℕ → Bool) → List ℕ → Binding → Type 0
Kept found seen e to = (to.kind ≡ File → found e ≡ Some to) × (to.kind ≡ Directory → seen to.inode ≡ true)

-- all names of a directory are kept
abbrev pub Closed : Names → Names → (ℕ → Bool) → ℕ → Type 0
Closed told found seen d = (name : List ℕ) (to : Binding) → told (entry d name) ≡ Some to → Kept found seen (entry d name) to

-- nothing is forgotten
pub record Grows (found found' : Names) (seen seen' : ℕ → Bool) : Type 0 where
  pub names : (e : List ℕ) (to : Binding) → found e ≡ Some to → found' e ≡ Some to
  pub directories : (d : ℕ) → seen d ≡ true → seen' d ≡ true

pub kept_grows : (found found' : Names) (seen seen' : ℕ → Bool) (e : List ℕ) (to : Binding) → Grows found found' seen seen' → Kept found seen e to → Kept found' seen' e to
kept_grows found found' seen seen' e to g k = (λ f. g.names e to (k.0 f), λ f. g.directories to.inode (k.1 f))

reached_grows : (a b : Names) (d : ℕ) → ((e : List ℕ) (to : Binding) → a e ≡ Some to → b e ≡ Some to) → Reached a d → Reached b d
reached_grows a b _ more Root = Root
reached_grows a b _ more (Below d name i there has) = Below d name i (reached_grows a b d more there) (more (entry d name) (directory_at i) has)

-- each directory that was seen is reached by all names
pub seen_reached : (told found : Names) (seen : ℕ → Bool) (d : ℕ) → Walked told found seen → seen d ≡ true → Reached told d
seen_reached told found seen d w s = reached_grows found told d (λ e to h. (w.within e to h).0) (w.linked d s)

binding_of : (to : Binding) (k : Kind) → to.kind ≡ k → to ≡ record { inode = to.inode; kind = k }
binding_of to k e = ap (λ x. record { inode = to.inode; kind = x }) e

-- one more name
module _ (told found found' : Names) (seen seen' : ℕ → Bool) (d : ℕ) (name : List ℕ) (to : Binding)
    (same : Same found' (changed found (entry d name, Some to))) (has : told (entry d name) ≡ Some to) (w : Walked told found seen) where
  here : (e : List ℕ) (t : Binding) → found' e ≡ Some t → ((e ≡ entry d name) × (t ≡ to)) ⊎ (found e ≡ Some t)
  here e t h = ⊎_elim
      (λ y.
      let both : Some to ≡ Some t = sym (cond-true (bytes_eq (entry d name) e) (Some to) (found e) y) ∙ sym (same e) ∙ h in
      let one : t ≡ to = cc in
      inl (sym ((bytes_decides (entry d name) e).0 y), one))
      (λ n. inr (sym (cond-false (bytes_eq (entry d name) e) (Some to) (found e) n) ∙ sym (same e) ∙ h))
      (cases_Bool (bytes_eq (entry d name) e))

  pub there : found' (entry d name) ≡ Some to
  there = same (entry d name) ∙ cond-true (bytes_eq (entry d name) (entry d name)) (Some to) (found (entry d name)) ((bytes_decides (entry d name) (entry d name)).1 refl)

  more : (e : List ℕ) (t : Binding) → found e ≡ Some t → found' e ≡ Some t
  more e t h = ⊎_elim
      (λ y.
      let at : told e ≡ Some to = ap told (sym ((bytes_decides (entry d name) e).0 y)) ∙ has in
      same e ∙ cond-true (bytes_eq (entry d name) e) (Some to) (found e) y ∙ sym at ∙ (w.within e t h).0)
      (λ n. same e ∙ cond-false (bytes_eq (entry d name) e) (Some to) (found e) n ∙ h)
      (cases_Bool (bytes_eq (entry d name) e))

  module _ (fresh : (i : ℕ) → to ≡ directory_at i → seen i ≡ false) (up : (i : ℕ) → seen i ≡ true → seen' i ≡ true)
      (mine : (i : ℕ) → to ≡ directory_at i → seen' i ≡ true) (down : (i : ℕ) → seen' i ≡ true → (seen i ≡ true) ⊎ (to ≡ directory_at i)) (at : seen d ≡ true) where
    first : (a b : List ℕ) (i : ℕ) → to ≡ directory_at i → found b ≡ Some (directory_at i) → ⊥
    first a b i is h = false≢true (sym (fresh i is) ∙ w.named b i h)

    one_name : (a b : List ℕ) (i : ℕ) → found' a ≡ Some (directory_at i) → found' b ≡ Some (directory_at i) → a ≡ b
    one_name a b i g h = ⊎_elim
        (λ x. ⊎_elim (λ y. x.0 ∙ sym y.0) (λ y. absurd (first a b i (sym x.1) y)) (here b (directory_at i) h))
        (λ x. ⊎_elim (λ y. absurd (first b a i (sym y.1) x)) (λ y. w.once a b i x y) (here b (directory_at i) h))
        (here a (directory_at i) g)

    pub walked_more : Walked told found' seen'
    walked_more = record {
      within = within_changed found found' told d name to same has (seen_reached told found seen d w at) w.within;
      root = up 1 w.root;
      named = λ e i h. ⊎_elim (λ x. mine i (sym x.1)) (λ x. up i (w.named e i x)) (here e (directory_at i) h);
      once = one_name;
      rootless = λ e h. ⊎_elim (λ x. false≢true (sym (fresh 1 (sym x.1)) ∙ w.root)) (λ x. w.rootless e x) (here e (directory_at 1) h);
      linked = λ i s. ⊎_elim
          (λ x. reached_grows found found' i more (w.linked i x))
          (λ x. Below d name i (reached_grows found found' d more (w.linked d at)) (there ∙ ap Some x))
          (down i s);
    }

    pub grows_more : Grows found found' seen seen'
    grows_more = record { names = more; directories = up }

    pub kept_more : Kept found' seen' (entry d name) to
    kept_more = (λ f. there, λ f. mine to.inode (binding_of to Directory f))

-- what holds after a name was added, which was new or not
pub record Added (told found found' : Names) (seen seen' : ℕ → Bool) (e : List ℕ) (to : Binding) (new : Bool) : Type 0 where
  pub walked : Walked told found' seen'
  pub grows : Grows found found' seen seen'
  pub kept : Kept found' seen' e to
  pub down : (i : ℕ) → seen' i ≡ true → (seen i ≡ true) ⊎ ((i ≡ to.inode) × (new ≡ true))

module _ (told found found' : Names) (seen seen' : ℕ → Bool) (d : ℕ) (name : List ℕ) (to : Binding)
    (has : told (entry d name) ≡ Some to) (w : Walked told found seen) (at : seen d ≡ true) where
  no_file : (i : ℕ) → to.kind ≡ File → to ≡ directory_at i → ⊥
  no_file i f is = let other : File ≡ Directory = sym f ∙ ap (λ (t : Binding). t.kind) is in cc

  by_kind : (k : Kind) (b : Bool) → to.kind ≡ k → seen to.inode ≡ b
      → Same found' (if is_directory k && b then found else changed found (entry d name, Some to))
      → ((i : ℕ) → seen' i ≡ (seen i || (is_directory k && nat_eq to.inode i)))
      → Added told found found' seen seen' (entry d name) to (is_directory k && not b)
  by_kind File b kind was same dirs =
      let up : (i : ℕ) → seen i ≡ true → seen' i ≡ true = λ i s. dirs i ∙ or_left (seen i) false s in
      let back : (i : ℕ) → seen' i ≡ true → seen i ≡ true = λ i s. ⊎_elim (λ x. x) (λ x. absurd (false≢true x)) (or_cases (seen i) false (sym (dirs i) ∙ s)) in
      let fresh : (i : ℕ) → to ≡ directory_at i → seen i ≡ false = λ i is. absurd (no_file i kind is) in
      let mine : (i : ℕ) → to ≡ directory_at i → seen' i ≡ true = λ i is. absurd (no_file i kind is) in
      record {
        walked = walked_more told found found' seen seen' d name to same has w fresh up mine (λ i s. inl (back i s)) at;
        grows = grows_more told found found' seen seen' d name to same has w fresh up mine (λ i s. inl (back i s)) at;
        kept = kept_more told found found' seen seen' d name to same has w fresh up mine (λ i s. inl (back i s)) at;
        down = λ i s. inl (back i s);
      }
  by_kind Directory false kind was same dirs =
      let up : (i : ℕ) → seen i ≡ true → seen' i ≡ true = λ i s. dirs i ∙ or_left (seen i) (nat_eq to.inode i) s in
      let fresh : (i : ℕ) → to ≡ directory_at i → seen i ≡ false = λ i is. ap seen (sym (ap (λ (t : Binding). t.inode) is)) ∙ was in
      let mine : (i : ℕ) → to ≡ directory_at i → seen' i ≡ true = λ i is. dirs i ∙ or_right (seen i) (nat_eq to.inode i) (eq-eqb to.inode i (ap (λ (t : Binding). t.inode) is)) in
      let down : (i : ℕ) → seen' i ≡ true → (seen i ≡ true) ⊎ (to ≡ directory_at i) = λ i s. ⊎_elim (λ x. inl x)
      (λ x. inr (binding_of to Directory kind ∙ ap directory_at (eqb-true to.inode i x)))
      (or_cases (seen i) (nat_eq to.inode i) (sym (dirs i) ∙ s)) in
      record {
        walked = walked_more told found found' seen seen' d name to same has w fresh up mine down at;
        grows = grows_more told found found' seen seen' d name to same has w fresh up mine down at;
        kept = kept_more told found found' seen seen' d name to same has w fresh up mine down at;
        down = λ i s. ⊎_elim (λ x. inl x) (λ x. inr (sym (ap (λ (t : Binding). t.inode) x), refl)) (down i s);
      }
  by_kind Directory true kind was same dirs =
      let up : (i : ℕ) → seen i ≡ true → seen' i ≡ true = λ i s. dirs i ∙ or_left (seen i) (nat_eq to.inode i) s in
      let back : (i : ℕ) → seen' i ≡ true → seen i ≡ true = λ i s. ⊎_elim (λ x. x)
      (λ x. ap seen (sym (eqb-true to.inode i x)) ∙ was)
      (or_cases (seen i) (nat_eq to.inode i) (sym (dirs i) ∙ s)) in
      let grown : (e : List ℕ) (t : Binding) → found e ≡ Some t → found' e ≡ Some t = λ e t h. same e ∙ h in
      record {
        walked = record {
          within = λ e t h. w.within e t (sym (same e) ∙ h);
          root = up 1 w.root;
          named = λ e i h. up i (w.named e i (sym (same e) ∙ h));
          once = λ a b i g h. w.once a b i (sym (same a) ∙ g) (sym (same b) ∙ h);
          rootless = λ e h. w.rootless e (sym (same e) ∙ h);
          linked = λ i s. reached_grows found found' i grown (w.linked i (back i s));
        };
        grows = record { names = grown; directories = up };
        kept = (λ f. absurd (let other : File ≡ Directory = sym f ∙ kind in let none : ⊥ = cc in none), λ f. up to.inode was);
        down = λ i s. inl (back i s);
      }

  pub added_name : Same found' (if is_directory to.kind && seen to.inode then found else changed found (entry d name, Some to))
      → ((i : ℕ) → seen' i ≡ (seen i || (is_directory to.kind && nat_eq to.inode i)))
      → Added told found found' seen seen' (entry d name) to (is_directory to.kind && not (seen to.inode))
  added_name same dirs = by_kind to.kind (seen to.inode) refl refl same dirs

-- the end of a walk that has seen all
module _ (told found : Names) (seen : ℕ → Bool) (w : Walked told found seen) (closed : (d : ℕ) → seen d ≡ true → Closed told found seen d) where
  pub all_seen : (d : ℕ) → Reached told d → seen d ≡ true
  all_seen _ Root = w.root
  all_seen _ (Below d name i there has) = (closed d (all_seen d there) name (directory_at i) has).1 refl

  pub all_found : Finds found told
  all_found = record {
    within = w.within;
    files = λ e i at h. subst (λ l. found l ≡ Some (file i)) (sym at.is)
        ((closed at.directory (all_seen at.directory at.reached) at.name (file i) (ap told (sym at.is) ∙ h)).0 refl);
    directories = λ d there. w.linked d (all_seen d there);
    once = w.once;
    root = w.rootless;
  }

-- the same of names that bind the same
pub finds_same : (found a b : Names) → Same a b → Finds found a → Finds found b
finds_same found a b same f =
    let back : Same b a = λ e. sym (same e) in
    record {
      within = within_same found a b same f.within;
      files = λ e i at h. f.files e i (record { directory = at.directory; name = at.name; is = at.is; reached = reached_same b a at.directory back at.reached }) (same e ∙ h);
      directories = λ d there. f.directories d (reached_same b a d back there);
      once = f.once;
      root = f.root;
    }

-- with no two names of one directory all names that the root reaches are found
module _ (found told : Names) (f : Finds found told) (o : NamesOnce told) where
  one_of : (e : List ℕ) (i d : ℕ) → IsReached told e → told e ≡ Some (directory_at i) → d ≡ i → Reached found d → found e ≡ Some (directory_at i)
  one_of e i _ at h is Root = absurd (o.root e at (h ∙ ap (λ x. Some (directory_at x)) (sym is)))
  one_of e i _ at h is (Below d name j above has) =
      let named : found (entry d name) ≡ Some (directory_at i) = has ∙ ap (λ x. Some (directory_at x)) is in
      let t = f.within (entry d name) (directory_at i) named in
      ap found (o.once e (entry d name) i at t.1 h t.0) ∙ named

  by_binding : (e : List ℕ) (to : Binding) (k : Kind) → to.kind ≡ k → IsReached told e → told e ≡ Some to → found e ≡ Some to
  by_binding e to File kind at h =
      let is : to ≡ file to.inode = binding_of to File kind in
      f.files e to.inode at (h ∙ ap Some is) ∙ ap Some (sym is)
  by_binding e to Directory kind at h =
      let is : to ≡ directory_at to.inode = binding_of to Directory kind in
      let below : Reached told to.inode = Below at.directory at.name to.inode at.reached (ap told (sym at.is) ∙ h ∙ ap Some is) in
      one_of e to.inode to.inode at (h ∙ ap Some is) refl (f.directories to.inode below) ∙ ap Some (sym is)

  by_told : (e : List ℕ) (x y : Option Binding) → told e ≡ x → found e ≡ y → IsReached told e → found e ≡ told e
  by_told e (Some to) y t g at = by_binding e to to.kind refl at t ∙ sym t
  by_told e None None t g at = g ∙ sym t
  by_told e None (Some to) t g at = let both : None ≡ Some to = sym t ∙ (f.within e to g).0 in absurd (cc)

  pub all_names : (e : List ℕ) → IsReached told e → found e ≡ told e
  all_names e at = by_told e (told e) (found e) refl refl at

none_told : {T : Type 0} (t : T) → None ≡ Some t → ⊥
none_told t e = cc

-- the walk begins at the root
pub walk_begins : (told found : Names) (seen : ℕ → Bool) → Same found (λ _. None) → ((d : ℕ) → seen d ≡ nat_eq 1 d) → Walked told found seen
walk_begins told found seen none dirs = record {
  within = nothing_within found told none;
  root = dirs 1;
  named = λ e d h. absurd (none_told (directory_at d) (sym (none e) ∙ h));
  once = λ a b d h _. absurd (none_told (directory_at d) (sym (none a) ∙ h));
  rootless = λ e h. none_told (directory_at 1) (sym (none e) ∙ h);
  linked = λ d s. subst (Reached found) (eqb-true 1 d (sym (dirs d) ∙ s)) Root;
}

pub is_kind : (k : Kind) → is_directory k ≡ true → k ≡ Directory
is_kind File e = absurd (false≢true e)
is_kind Directory e = refl

pub only_one : (x d : ℕ) → Contains (x ∷ []) d → d ≡ x
only_one x d h = All-contains (λ y. y ≡ x) (x ∷ []) d (All-cons (λ y. y ≡ x) x [] refl (All-nil (λ y. y ≡ x))) h

pub not_in_none : (xs : List ℕ) (d : ℕ) → xs ≡ [] → Contains xs d → ⊥
not_in_none xs d e h = All-contains (λ y. ⊥) [] d (All-nil (λ y. ⊥)) (subst (λ l. Contains l d) e h)

-- what was found is found again
module _ (again found told : Names) (f : Finds found told) (g : Finds again found) where
  again_at : (e : List ℕ) (x y : Option Binding) → found e ≡ x → again e ≡ y → again e ≡ found e
  again_at e (Some to) y h a =
      let at = (f.within e to h).1 in
      all_names again found g (record { once = λ p q d _ _. f.once p q d; root = λ p _. f.root p }) e
      (record { directory = at.directory; name = at.name; is = at.is; reached = f.directories at.directory at.reached })
  again_at e None None h a = a ∙ sym h
  again_at e None (Some to) h a = absurd (none_told to (sym h ∙ (g.within e to a).0))

  pub found_again : Same again found
  found_again e = again_at e (found e) (again e) refl refl
