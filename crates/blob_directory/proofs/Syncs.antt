-- The edits that a sync settles: edits up to a position, and the directories above an inode.
use Rattle.std.proofs.Common.{◌≡◌, ◌⊎◌, ℕ, ◌+◌, ◌<◌, ◌≤◌, Bool, true, false, List, [], ◌∷◌, ◌++◌, length, get_or, take, Option, Some, None, inl, inr, ⊎_elim, refl, sym, ap, ◌∙◌, subst, arith, append_assoc, nat_eq, nat_le, nat_lt, map, ◌&&◌, ◌||◌}
use Rattle.std.specs.Prelude.{◌↔◌, IsTrue}
use Rattle.std.specs.List.{Contains}
use Rattle.std.proofs.lemmas.Bool.{and_from, and_parts, both_ways, cases_lt, eq-eqb, eqb-true, false≢true, le-leb, leb-false, leb-true, lt-ltb, ltb-true, or_cases, or_left, or_right}
use Rattle.std.proofs.lemmas.List.{append-nil, map-append, get_or_append_left, get_or_default, take_more}
use Rattle.std.proofs.lemmas.List.Elements.{Contains-append_left, Contains-push, Contains-push_cases}
use Rattle.std.proofs.lemmas.List.Folds.{Any-from_list_any, list_any-from_Any}
use Rattle.blob_directory.specs.declared.edit.Change.{Change}
use Rattle.blob_directory.specs.declared.edit.Edit as rust_edit
use Rattle.blob_directory.specs.Names.{Edit, Names, all_edited, change_of, edit_of, edited, more_of}
use Rattle.blob_directory.specs.declared.unsettled.Unsettled.{Unsettled}
use Rattle.blob_directory.specs.Syncs.{Above, HasEdit, IsAbove, IsUpToLast, IsUpward, Itself, Upward, is_new, is_number, is_of, keeps_name, leaves, leaves_second, makes, named, touches}
use Rattle.blob_directory.specs.Wanted.{Extends, HasAbove, HasDirectories, HasWhen, IsAboveBy, IsLast, is_up_to, is_upward, makes_any}

-- Numbers that stay at their places.

extends_same : (l : List ℕ) → Extends l l
extends_same l = ([], sym (append-nil l))

extends_more : (a b c : List ℕ) → Extends a b → Extends b c → Extends a c
extends_more a b c (m, e) (n, f) = (m ++ n, f ∙ ap (λ l. l ++ n) e ∙ append_assoc a m n)

extends_keeps : (a b : List ℕ) → Extends a b → (n : ℕ) → Contains a n → Contains b n
extends_keeps a b (m, e) n h = subst (λ l. Contains l n) (sym e) (Contains-append_left a m n h)

extends_at : (a b : List ℕ) (k : ℕ) → Extends a b → k < length a → get_or b k 0 ≡ get_or a k 0
extends_at a b k (m, e) low = ap (λ l. get_or l k 0) e ∙ get_or_append_left a m 0 k low

-- A number that was added if a test passed.

when_keeps : (passes : Bool) (old : List ℕ) (number : ℕ) (new : List ℕ) → HasWhen passes old number new → Extends old new
when_keeps true old number new h = h.extends
when_keeps false old number new h = subst (Extends old) (sym h) (extends_same old)

when_there : (passes : Bool) (old : List ℕ) (number : ℕ) (new : List ℕ) → HasWhen passes old number new → passes ≡ true → Contains new number
when_there true old number new h is = h.there
when_there false old number new h is = absurd (false≢true is)

when_only : (passes : Bool) (old : List ℕ) (number : ℕ) (new : List ℕ) → HasWhen passes old number new → (n : ℕ) → Contains new n → Contains old n ⊎ ((n ≡ number) × (passes ≡ true))
when_only true old number new h n c = ⊎_elim (λ x. inl x) (λ e. inr (e, refl)) (h.only n c)
when_only false old number new h n c = inl (subst (λ (l : List ℕ). Contains l n) h c)

-- The directories of one edit.
module _ (edits : List Unsettled) (inode : ℕ) (edit : Unsettled) where
  abbrev Kept : ℕ → Type 0
  Kept d = (keeps_name edits inode d edit ≡ true) × (is_new edits d ≡ true)

  first_kept : (n : ℕ) → edit.about.directory ≡ n → (leaves edits inode edit.edit.first && is_new edits edit.about.directory) ≡ true → Kept n
  first_kept n e h =
      let p = and_parts (leaves edits inode edit.edit.first) (is_new edits edit.about.directory) h in
      (or_left _ _ (and_from (nat_eq edit.about.directory n) _ (eq-eqb edit.about.directory n e) p.0), ap (is_new edits) (sym e) ∙ p.1)

  pub one_directory : (old new : List ℕ) → ((d : ℕ) → (is_number edit.about.other_directory d && leaves_second edits inode edit.edit.second) ≡ false)
      → HasWhen (leaves edits inode edit.edit.first && is_new edits edit.about.directory) old edit.about.directory new → HasDirectories edits inode edit old new
  one_directory old new none h = record {
    extends = when_keeps _ old edit.about.directory new h;
    there = λ d kept fresh. ⊎_elim
        (λ x.
        let p = and_parts (nat_eq edit.about.directory d) (leaves edits inode edit.edit.first) x in
        let e : edit.about.directory ≡ d = eqb-true edit.about.directory d p.0 in
        subst (Contains new) e (when_there _ old edit.about.directory new h (and_from (leaves edits inode edit.edit.first) _ p.1 (ap (is_new edits) e ∙ fresh))))
        (λ y. absurd (both_ways _ (none d) y))
        (or_cases (nat_eq edit.about.directory d && leaves edits inode edit.edit.first) _ kept);
    only = λ n c. ⊎_elim (λ x. inl x) (λ e. inr (first_kept n (sym e.0) e.1)) (when_only _ old edit.about.directory new h n c);
  }

  pub two_directories : (o : ℕ) (second : Change) (old mid new : List ℕ) → edit.about.other_directory ≡ Some o → edit.edit.second ≡ Some second
      → HasWhen (leaves edits inode edit.edit.first && is_new edits edit.about.directory) old edit.about.directory mid
      → HasWhen (leaves edits inode second && is_new edits o) mid o new → HasDirectories edits inode edit old new
  two_directories o second old mid new other two h g = record {
    extends = extends_more old mid new (when_keeps _ old edit.about.directory mid h) (when_keeps _ mid o new g);
    there = λ d kept fresh. ⊎_elim
        (λ x.
        let p = and_parts (nat_eq edit.about.directory d) (leaves edits inode edit.edit.first) x in
        let e : edit.about.directory ≡ d = eqb-true edit.about.directory d p.0 in
        extends_keeps mid new (when_keeps _ mid o new g) d (subst (Contains mid) e (when_there _ old edit.about.directory mid h (and_from (leaves edits inode edit.edit.first) _ p.1 (ap (is_new edits) e ∙ fresh)))))
        (λ y.
        let p = and_parts (is_number edit.about.other_directory d) (leaves_second edits inode edit.edit.second) y in
        let e : o ≡ d = eqb-true o d (subst (λ x. is_number x d ≡ true) other p.0) in
        let left : leaves edits inode second ≡ true = subst (λ x. leaves_second edits inode x ≡ true) two p.1 in
        subst (Contains new) e (when_there _ mid o new g (and_from (leaves edits inode second) _ left (ap (is_new edits) e ∙ fresh))))
        (or_cases (nat_eq edit.about.directory d && leaves edits inode edit.edit.first) _ kept);
    only = λ n c. ⊎_elim
        (λ x. ⊎_elim (λ y. inl y) (λ e. inr (first_kept n (sym e.0) e.1)) (when_only _ old edit.about.directory mid h n x))
        (λ e. inr (second_kept n (sym e.0) e.1))
        (when_only _ mid o new g n c);
  }
    where
      second_kept : (n : ℕ) → o ≡ n → (leaves edits inode second && is_new edits o) ≡ true → Kept n
      second_kept n e h =
          let p = and_parts (leaves edits inode second) (is_new edits o) h in
          let at : is_number edit.about.other_directory n ≡ true = subst (λ y. is_number y n ≡ true) (sym other) (eq-eqb o n e) in
          let left : leaves_second edits inode edit.edit.second ≡ true = subst (λ x. leaves_second edits inode x ≡ true) (sym two) p.0 in
          (or_right _ _ (and_from (is_number edit.about.other_directory n) _ at left), ap (is_new edits) (sym e) ∙ p.1)

-- What one entry is bound to.

all_more : (a : Names) (edits : List Edit) (edit : Edit) (entry : List ℕ) → all_edited a (edits ++ edit ∷ []) entry ≡ edited (all_edited a edits) edit entry
all_more a [] edit entry = refl
all_more a (e ∷ edits) edit entry = all_more (edited a e) edits edit entry

one_entry : (names : Names) (edit : rust_edit.Edit) (entry : List ℕ) → edited names (edit_of edit) entry ≡ edited (λ _. names entry) (edit_of edit) entry
one_entry names edit entry = by_second edit.second
  where
    by_second : (second : Option Change) → edited names (change_of edit.first ∷ more_of second) entry ≡ edited (λ _. names entry) (change_of edit.first ∷ more_of second) entry
    by_second None = refl
    by_second (Some c) = refl

-- One more edit.
module _ (edits : List Unsettled) (k : ℕ) (item : Unsettled) (low : k < length edits) (is : item ≡ get_or edits k item) where
  taken : take (k + 1) edits ≡ take k edits ++ item ∷ []
  taken = take_more edits k item low ∙ ap (λ (x : Unsettled). take k edits ++ x ∷ []) (sym is)

  taken_cases : (x : Unsettled) → Contains (take (k + 1) edits) x → Contains (take k edits) x ⊎ (item ≡ x)
  taken_cases x h = Contains-push_cases (take k edits) item x (subst (λ (l : List Unsettled). Contains l x) taken h)

  taken_kept : (x : Unsettled) → Contains (take k edits) x → Contains (take (k + 1) edits) x
  taken_kept x h = subst (λ (l : List Unsettled). Contains l x) (sym taken) (Contains-append_left (take k edits) (item ∷ []) x h)

  taken_there : Contains (take (k + 1) edits) item
  taken_there = subst (λ (l : List Unsettled). Contains l item) (sym taken) (Contains-push (take k edits) item)

  module _ (alone : Bool) where
    abbrev edit_kept : (n : ℕ) → HasEdit (take k edits) alone n → HasEdit (take (k + 1) edits) alone n
    edit_kept n h = record { edit = h.edit; there = taken_kept h.edit h.there; touches = h.touches }

    abbrev edit_before : (n : ℕ) (h : HasEdit (take (k + 1) edits) alone n) → Contains (take k edits) h.edit → HasEdit (take k edits) alone n
    edit_before n h old = record { edit = h.edit; there = old; touches = h.touches }

    pub last_new : (n : ℕ) (last : Option ℕ) → IsLast (take k edits) alone n last → touches alone n item.about ≡ true → is_up_to last item.number ≡ false
        → IsLast (take (k + 1) edits) alone n (Some item.number)
    last_new n None none here up = (
      record { edit = item; there = taken_there; touches = here },
      refl,
      λ other. ⊎_elim
          (λ old. absurd (none (edit_before n other old)))
          (λ e. subst (λ (x : Unsettled). nat_le x.number item.number ≡ true) e (le-leb item.number item.number (omega arith)))
          (taken_cases other.edit other.there),
    )
    last_new n (Some l) (h, same, all) here up = (
      record { edit = item; there = taken_there; touches = here },
      refl,
      λ other. ⊎_elim
          (λ old.
          let a : other.edit.number ≤ l = leb-true other.edit.number l (all (edit_before n other old)) in
          let b : l < item.number = leb-false item.number l up in
          le-leb other.edit.number item.number (omega arith))
          (λ e. subst (λ (x : Unsettled). nat_le x.number item.number ≡ true) e (le-leb item.number item.number (omega arith)))
          (taken_cases other.edit other.there),
    )

    pub last_up : (n : ℕ) (last : Option ℕ) → IsLast (take k edits) alone n last → is_up_to last item.number ≡ true → IsLast (take (k + 1) edits) alone n last
    last_up n None none up = absurd (false≢true up)
    last_up n (Some l) (h, same, all) up = (
      edit_kept n h,
      same,
      λ other. ⊎_elim
          (λ old. all (edit_before n other old))
          (λ e. subst (λ (x : Unsettled). nat_le x.number l ≡ true) e up)
          (taken_cases other.edit other.there),
    )

    no_edit : (n : ℕ) (h : HasEdit (take (k + 1) edits) alone n) → touches alone n item.about ≡ false → Contains (take k edits) h.edit
    no_edit n h off = ⊎_elim
        (λ old. old)
        (λ e. absurd (both_ways (touches alone n item.about) off (subst (λ (x : Unsettled). touches alone n x.about ≡ true) (sym e) h.touches)))
        (taken_cases h.edit h.there)

    pub last_other : (n : ℕ) (last : Option ℕ) → IsLast (take k edits) alone n last → touches alone n item.about ≡ false → IsLast (take (k + 1) edits) alone n last
    last_other n None none off = λ h. none (edit_before n h (no_edit n h off))
    last_other n (Some l) (h, same, all) off = (edit_kept n h, same, λ other. all (edit_before n other (no_edit n other off)))

  module _ (all : List Unsettled) where
    above_kept : (i d : ℕ) → IsAboveBy all (take k edits) i d → IsAboveBy all (take (k + 1) edits) i d
    above_kept i d a = record { edit = a.edit; there = taken_kept a.edit a.there; of_inode = a.of_inode; in_directory = a.in_directory }

    above_before : (i d : ℕ) (a : IsAboveBy all (take (k + 1) edits) i d) → Contains (take k edits) a.edit → IsAboveBy all (take k edits) i d
    above_before i d a old = record { edit = a.edit; there = old; of_inode = a.of_inode; in_directory = a.in_directory }

    pub above_more : (i : ℕ) (old mid new : List ℕ) → HasAbove all (take k edits) i old mid → is_of i item.about ≡ true → HasDirectories all i item mid new
        → HasAbove all (take (k + 1) edits) i old new
    above_more i old mid new h here g = record {
      extends = extends_more old mid new h.extends g.extends;
      there = λ d a fresh. ⊎_elim
          (λ x. extends_keeps mid new g.extends d (h.there d (above_before i d a x) fresh))
          (λ e. g.there d (subst (λ (x : Unsettled). keeps_name all i d x ≡ true) (sym e) a.in_directory) fresh)
          (taken_cases a.edit a.there);
      only = λ n c. ⊎_elim
          (λ m. ⊎_elim (λ x. inl x) (λ a. inr (above_kept i n a.0, a.1)) (h.only n m))
          (λ x. inr (record { edit = item; there = taken_there; of_inode = here; in_directory = x.0 }, x.1))
          (g.only n c);
    }

    pub above_other : (i : ℕ) (old new : List ℕ) → HasAbove all (take k edits) i old new → is_of i item.about ≡ false → HasAbove all (take (k + 1) edits) i old new
    above_other i old new h off = record {
      extends = h.extends;
      there = λ d a fresh. ⊎_elim
          (λ x. h.there d (above_before i d a x) fresh)
          (λ e. absurd (both_ways (is_of i item.about) off (subst (λ (x : Unsettled). is_of i x.about ≡ true) (sym e) a.of_inode)))
          (taken_cases a.edit a.there);
      only = λ n c. ⊎_elim (λ x. inl x) (λ a. inr (above_kept i n a.0, a.1)) (h.only n c);
    }

  -- the names that one more edit gives
  pub named_more : (entry : List ℕ) → named (take (k + 1) edits) entry ≡ edited (λ _. named (take k edits) entry) (edit_of item.edit) entry
  named_more entry =
      ap (λ (l : List Unsettled). named l entry) taken
      ∙ ap (λ (l : List Edit). all_edited (λ _. None) l entry) (map-append (λ (u : Unsettled). edit_of u.edit) (take k edits) (item ∷ []))
      ∙ all_more (λ _. None) (map (λ (u : Unsettled). edit_of u.edit) (take k edits)) (edit_of item.edit) entry
      ∙ one_entry (named (take k edits)) item.edit entry

no_edits : (x : Unsettled) → Contains [] x → ⊥
no_edits x (k, low, at) = absurd (omega arith)

pub above_none : (edits : List Unsettled) (i : ℕ) (old : List ℕ) → HasAbove edits [] i old old
above_none edits i old = record {
  extends = extends_same old;
  there = λ d a fresh. absurd (no_edits a.edit a.there);
  only = λ n c. inl c;
}

pub above_all : (edits : List Unsettled) (k i : ℕ) (old new : List ℕ) → take k edits ≡ edits → HasAbove edits (take k edits) i old new → HasAbove edits edits i old new
above_all edits k i old new all h = subst (λ (l : List Unsettled). HasAbove edits l i old new) all h

by_all : (edits : List Unsettled) (i d : ℕ) → IsAbove edits i d → IsAboveBy edits edits i d
by_all edits i d a = record { edit = a.edit; there = a.there; of_inode = a.of_inode; in_directory = a.in_directory }

of_all : (edits : List Unsettled) (i d : ℕ) → IsAboveBy edits edits i d → IsAbove edits i d
of_all edits i d a = record { edit = a.edit; there = a.there; of_inode = a.of_inode; in_directory = a.in_directory }

-- Upward.

-- the new directories above the first numbers are there
abbrev pub Closed : List Unsettled → List ℕ → ℕ → Type 0
Closed edits found n = (k d : ℕ) → k < n → IsAbove edits (get_or found k 0) d → is_new edits d ≡ true → Contains found d

pub closed_more : (edits : List Unsettled) (n i : ℕ) (old new : List ℕ) → n < length old → get_or old n 0 ≡ i → Closed edits old n → HasAbove edits edits i old new → Closed edits new (n + 1)
closed_more edits n i old new low at closed h k d under above fresh =
    let same : get_or new k 0 ≡ get_or old k 0 = extends_at old new k h.extends (omega arith) in
    let a : IsAbove edits (get_or old k 0) d = subst (λ j. IsAbove edits j d) same above in
    ⊎_elim
    (λ below. extends_keeps old new h.extends d (closed k d below a fresh))
    (λ over.
    let e : k ≡ n = omega (arith, under, over) in
    h.there d (by_all edits i d (subst (λ j. IsAbove edits j d) (ap (λ m. get_or old m 0) e ∙ at) a)) fresh)
    (cases_lt k n)

pub only_more : (edits : List Unsettled) (inode i : ℕ) (old new : List ℕ) → Contains old i → ((n : ℕ) → Contains old n → Upward edits inode n) → HasAbove edits edits i old new
    → (n : ℕ) → Contains new n → Upward edits inode n
only_more edits inode i old new here only h n c = ⊎_elim (λ x. only n x) (λ a. Above i n (only i here) (of_all edits i n a.0) a.1) (h.only n c)

pub first_more : (edits : List Unsettled) (i n : ℕ) (old new : List ℕ) → HasAbove edits edits i old new → Contains old n → Contains new n
first_more edits i n old new h c = extends_keeps old new h.extends n c

pub all_upward : (edits : List Unsettled) (inode : ℕ) (found : List ℕ) (n : ℕ) → length found ≤ n → Contains found inode → Closed edits found n
    → (i : ℕ) → Upward edits inode i → Contains found i
all_upward edits inode found n all first closed _ Itself = first
all_upward edits inode found n all first closed _ (Above i d up above fresh) =
    let at = all_upward edits inode found n all first closed i up in
    let low : at.0 < length found = at.1 in
    closed at.0 d (omega arith) (subst (λ j. IsAbove edits j d) (sym (get_or_default found at.0 0 i low ∙ at.2)) above) fresh

-- The tests.

module _ (edits : List Unsettled) (inode : ℕ) (found : List ℕ) (e : Unsettled) where
  pub of_upward : ((i : ℕ) → Contains found i → Upward edits inode i) → is_upward inode found e ≡ true → IsUpward edits inode e
  of_upward only h = ⊎_elim
      (λ x. inl x)
      (λ y.
      let a = Any-from_list_any (λ (i : ℕ). makes i e) found y in
      inr (record { above = a.1; upward = only a.1 (a.0, a.2, a.3); makes = a.4 }))
      (or_cases (is_of inode e.about) (makes_any found e) h)

  pub upward_of : ((i : ℕ) → Upward edits inode i → Contains found i) → IsUpward edits inode e → is_upward inode found e ≡ true
  upward_of all u = ⊎_elim
      (λ x. or_left _ _ x)
      (λ y.
      let a = all y.above y.upward in
      or_right (is_of inode e.about) (makes_any found e) (list_any-from_Any (λ (i : ℕ). makes i e) found (a.0, y.above, a.1, a.2, y.makes)))
      u

pub up_to : (edits : List Unsettled) (alone : Bool) (n : ℕ) (last : Option ℕ) (e : Unsettled) → IsLast edits alone n last → is_up_to last e.number ≡ true → IsUpToLast edits alone n e
up_to edits alone n None e none h = absurd (false≢true h)
up_to edits alone n (Some l) e (h, same, all) up = record { last = h; up_to = omega (arith, leb-true e.number l up, same) }

pub is_up : (edits : List Unsettled) (alone : Bool) (n : ℕ) (last : Option ℕ) (e : Unsettled) → IsLast edits alone n last → IsUpToLast edits alone n e → is_up_to last e.number ≡ true
is_up edits alone n None e none u = absurd (none u.last)
is_up edits alone n (Some l) e (h, same, all) u = le-leb e.number l (omega (arith, leb-true u.last.edit.number l (all u.last), u.up_to))

-- up to the last one, or below a number
pub up_to_or_below : (edits : List Unsettled) (alone : Bool) (n : ℕ) (last : Option ℕ) (below : ℕ) (e : Unsettled) → IsLast edits alone n last
    → IsTrue (is_up_to last e.number || nat_lt e.number below) ↔ (IsUpToLast edits alone n e ⊎ (e.number < below))
up_to_or_below edits alone n last below e is = (
  λ h. ⊎_elim (λ x. inl (up_to edits alone n last e is x)) (λ y. inr (ltb-true e.number below y)) (or_cases (is_up_to last e.number) (nat_lt e.number below) h),
  λ s. ⊎_elim (λ x. or_left (is_up_to last e.number) (nat_lt e.number below) (is_up edits alone n last e is x)) (λ y. or_right (is_up_to last e.number) (nat_lt e.number below) (lt-ltb e.number below y)) s,
)

-- up to the last one alone
pub up_to_alone : (edits : List Unsettled) (alone : Bool) (n : ℕ) (last : Option ℕ) (e : Unsettled) → IsLast edits alone n last
    → IsTrue (is_up_to last e.number || nat_lt e.number 0) ↔ IsUpToLast edits alone n e
up_to_alone edits alone n last e is = (
  λ h. ⊎_elim (λ x. up_to edits alone n last e is x) (λ y. absurd (omega (arith, ltb-true e.number 0 y))) (or_cases (is_up_to last e.number) (nat_lt e.number 0) h),
  λ u. or_left (is_up_to last e.number) (nat_lt e.number 0) (is_up edits alone n last e is u),
)
