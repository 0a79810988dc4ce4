-- Exclusive handles after each call, in terms of the directory, the open names and the handles.
use Rattle.std.proofs.Common.{◌≡◌, ℕ, ◌+◌, ◌<◌, ◌≤◌, ◌++◌, List, [], ◌∷◌, set, length, true, cond, Option, Some, None, IfSome, refl, sym, ap, ◌∙◌, subst, ⊎_elim, if◌then◌else◌, ne_eqb, arith}
use Rattle.std.specs.Cmp.Lexicographic.{bytes_decides}
use Rattle.std.specs.Str.{bytes_eq}
use Rattle.std.proofs.lemmas.Bool.{cond_both, false≢true, true_from_ne_false}
use Rattle.std.proofs.lemmas.List.Elements.{All-set, All-push, All-weaker}
use Rattle.std.proofs.lemmas.Option.{none-some, same_Some}
use Rattle.blob_model.specs.Directory.{Directory, File, is_current, is_that, directory_without}
use Rattle.blob_model.specs.Places.{Place}
use Rattle.std.specs.Prelude.{option_and_then}
use Rattle.blob_lab_model.specs.Steps.{close_registration}
use Rattle.blob_lab_model.specs.Answers.{kept_at}
use Rattle.blob_lab_model.specs.Exclusive.{IsOpenBy}
use Rattle.blob_names.specs.Names.{with_name}
use Rattle.blob_opens.specs.OpenNames.{OpenNames, Registration, open_name, release, end_names, unless_number}
use Rattle.blob_lab_model.specs.States.{Held, AreGiven}
use Rattle.blob_lab_model.proofs.GivenHandles.{given_at}
use Rattle.blob_lab_model.proofs.Slots.{kept_set, kept_emptied, kept_push}
use Rattle.blob_lab_model.proofs.Stale.{Ages, AreCurrentGiven}

-- exclusive handles: the name of each current one is open by its own registration, and registrations differ
pub record AreExclusive (d : Directory) (s : OpenNames) (handles : List (Option Held)) : Type 0 where
  pub opens : (i : ℕ) (h : Held) → kept_at handles i ≡ Some h → is_current d h.place ≡ true → IsOpenBy s h.place h.registration
  pub below : (i : ℕ) (h : Held) (r : Registration) → kept_at handles i ≡ Some h → h.registration ≡ Some r → r.number < s.next
  pub apart : (i j : ℕ) (h k : Held) (r t : Registration) → kept_at handles i ≡ Some h → kept_at handles j ≡ Some k → h.registration ≡ Some r → k.registration ≡ Some t → r.number ≡ t.number → i ≡ j
  -- the incarnations of handles, and the current ones, have numbers below the next one
  pub given : AreGiven d.next handles
  pub current : AreCurrentGiven d

-- an incarnation with an earlier number that is current was current before
pub current_before : (d e : Directory) → Ages d e → (o : Place) → o.number < d.next → is_current e o ≡ true → is_current d o ≡ true
current_before d e ages o below now = true_from_ne_false (is_current d o) (λ old. false≢true (sym (ages.stale o below old) ∙ now))

-- A later directory.

aged_given : (d e : Directory) → d.next ≤ e.next → (handles : List (Option Held)) → AreGiven d.next handles → AreGiven e.next handles
aged_given d e more handles given = All-weaker (λ slot. IfSome slot (λ h. h.place.number < d.next)) (λ slot. IfSome slot (λ h. h.place.number < e.next)) weaker handles given
  where
    weaker : (slot : Option Held) → IfSome slot (λ h. h.place.number < d.next) → IfSome slot (λ h. h.place.number < e.next)
    weaker None i = tt
    weaker (Some h) i = let below : h.place.number < d.next = i in omega arith

pub aged : (d e : Directory) (s : OpenNames) (handles : List (Option Held)) → Ages d e → AreExclusive d s handles → AreExclusive e s handles
aged d e s handles ages x = record {
  opens = λ i h here now. x.opens i h here (current_before d e ages h.place (given_at d.next i handles h x.given here) now);
  below = x.below;
  apart = x.apart;
  given = aged_given d e ages.next handles x.given;
  current = ages.given x.current;
}

-- Names.

-- one name's new value, or another's old one
pub with_at_is : {X : Type 0} (f : List ℕ → List ℕ → X) (p n q m : List ℕ) (value x : X) → (bytes_eq p q ≡ true → bytes_eq n m ≡ true → value ≡ x) → f q m ≡ x → with_name f p n value q m ≡ x
with_at_is f p n q m value x new old = cond_both (bytes_eq p q) (cond (bytes_eq n m) value (f q m)) (f q m) (λ y. y ≡ x)
    (λ partition. cond_both (bytes_eq n m) value (f q m) (λ y. y ≡ x) (new partition) (λ _. old))
    (λ _. old)

-- the values of two equal names
at_name : {X : Type 0} (f : List ℕ → List ℕ → X) (p n q m : List ℕ) → bytes_eq p q ≡ true → bytes_eq n m ≡ true → f p n ≡ f q m
at_name f p n q m partition name = ap (λ r. f r n) ((bytes_decides p q).0 partition) ∙ ap (f q) ((bytes_decides n m).0 name)

-- Closing a handle.

-- another name stays open
closed_open : (s : OpenNames) (r : Registration) (o : Place) (registration : Option Registration) (is_open : IsOpenBy s o registration) → (is_open.by.number ≡ r.number → ⊥) → IsOpenBy (release s r) o registration
closed_open s r o registration is_open other = record {
  by = is_open.by;
  held = is_open.held;
  partition = is_open.partition;
  name = is_open.name;
  number = with_at_is s.registered r.partition r.name o.partition o.name (unless_number r.number (s.registered r.partition r.name)) (Some is_open.by.number)
      (λ partition name.
      ap (unless_number r.number) (at_name s.registered r.partition r.name o.partition o.name partition name ∙ is_open.number)
      ∙ ap (λ b. if b then None else Some is_open.by.number) (ne_eqb is_open.by.number r.number other))
      is_open.number;
}

-- a slot is emptied, and the names of the other handles stay open
emptied : (d : Directory) (s t : OpenNames) (handles : List (Option Held)) (number : ℕ) → s.next ≡ t.next
    → ((i : ℕ) (h : Held) → (number ≡ i → ⊥) → kept_at handles i ≡ Some h → IsOpenBy s h.place h.registration → IsOpenBy t h.place h.registration)
    → AreExclusive d s handles → AreExclusive d t (set handles number None)
emptied d s t handles number next stays x = record {
  opens = λ i h here now. let was = kept_emptied handles number i h here in stays i h was.0 was.1 (x.opens i h was.1 now);
  below = λ i h r here by. let was = kept_emptied handles number i h here in subst (λ n. r.number < n) next (x.below i h r was.1 by);
  apart = λ i j h k r u here there by too. x.apart i j h k r u (kept_emptied handles number i h here).1 (kept_emptied handles number j k there).1 by too;
  given = All-set (λ slot. IfSome slot (λ g. g.place.number < d.next)) handles number None tt x.given;
  current = x.current;
}

pub closed_one : (d : Directory) (s : OpenNames) (handles : List (Option Held)) (number : ℕ) (slot : Option Held) → kept_at handles number ≡ slot
    → AreExclusive d s handles → AreExclusive d (close_registration s (option_and_then (λ h. h.registration) slot)) (set handles number None)
closed_one d s handles number None here x = emptied d s s handles number refl (λ i k other was is_open. is_open) x
closed_one d s handles number (Some h) here x = by_registration h.registration refl
  where
    by_registration : (registration : Option Registration) → h.registration ≡ registration → AreExclusive d (close_registration s registration) (set handles number None)
    by_registration None by = emptied d s s handles number refl (λ i k other was is_open. is_open) x
    by_registration (Some r) by =
        emptied d s (release s r) handles number refl
        (λ i k other was is_open. closed_open s r k.place k.registration is_open (λ same. other (x.apart number i h k r is_open.by here was by is_open.held (sym same))))
        x

-- A handle that is set again, with the same incarnation and registration.

record IsAgain (handles : List (Option Held)) (i : ℕ) (k : Held) : Type 0 where
  pub was : Held
  pub here : kept_at handles i ≡ Some was
  pub place : was.place ≡ k.place
  pub registration : was.registration ≡ k.registration

kept_again : (handles : List (Option Held)) (number : ℕ) (h g : Held) → kept_at handles number ≡ Some h → g.place ≡ h.place → g.registration ≡ h.registration
    → (i : ℕ) (k : Held) → kept_at (set handles number (Some g)) i ≡ Some k → IsAgain handles i k
kept_again handles number h g here place registration i k now =
    ⊎_elim
    (λ (new : (number ≡ i) × (Some g ≡ Some k)).
    let same : g ≡ k = same_Some g k new.1 in
    record {
      was = h;
      here = subst (λ n. kept_at handles n ≡ Some h) new.0 here;
      place = sym place ∙ ap (λ (a : Held). a.place) same;
      registration = sym registration ∙ ap (λ (a : Held). a.registration) same;
    })
    (λ (old : (number ≡ i → ⊥) × (kept_at handles i ≡ Some k)). record { was = k; here = old.1; place = refl; registration = refl })
    (kept_set handles number (Some g) i k now)

pub put_back : (d : Directory) (s : OpenNames) (handles : List (Option Held)) (number : ℕ) (h g : Held) → kept_at handles number ≡ Some h → g.place ≡ h.place → g.registration ≡ h.registration
    → AreExclusive d s handles → AreExclusive d s (set handles number (Some g))
put_back d s handles number h g here place registration x =
    let again = kept_again handles number h g here place registration in
    record {
      opens = λ i k now current.
          let a = again i k now in
          let is_open : IsOpenBy s a.was.place a.was.registration = x.opens i a.was a.here (ap (is_current d) a.place ∙ current) in
          subst (λ (o : Place). IsOpenBy s o k.registration) a.place (subst (λ (r : Option Registration). IsOpenBy s a.was.place r) a.registration is_open);
      below = λ i k r now by. let a = again i k now in x.below i a.was r a.here (a.registration ∙ by);
      apart = λ i j k l r t now too by also.
          let a = again i k now in
          let b = again j l too in
          x.apart i j a.was b.was r t a.here b.here (a.registration ∙ by) (b.registration ∙ also);
      given = All-set (λ slot. IfSome slot (λ a. a.place.number < d.next)) handles number (Some g) (subst (λ (o : Place). o.number < d.next) (sym place) (given_at d.next number handles h x.given here)) x.given;
      current = x.current;
    }

-- A removal.

-- a name with a current incarnation afterwards isn't ended
ended_open : (d : Directory) (s : OpenNames) (p : List ℕ) (n : Option (List ℕ)) (o : Place) (registration : Option Registration) → is_current (directory_without d p n) o ≡ true → IsOpenBy s o registration → IsOpenBy (end_names s p n) o registration
ended_open d s p n o registration now is_open = record { by = is_open.by; held = is_open.held; partition = is_open.partition; name = is_open.name; number = number n now }
  where
    number : (n : Option (List ℕ)) → is_current (directory_without d p n) o ≡ true → (end_names s p n).registered o.partition o.name ≡ Some is_open.by.number
    number (Some n) now = with_at_is s.registered p n o.partition o.name None (Some is_open.by.number)
        (λ partition name.
        let file : cond (bytes_eq p o.partition) (cond (bytes_eq n o.name) None (d.file o.partition o.name)) (d.file o.partition o.name) ≡ None =
        ap (λ b. cond b (cond (bytes_eq n o.name) None (d.file o.partition o.name)) (d.file o.partition o.name)) partition ∙ ap (λ b. cond b None (d.file o.partition o.name)) name in
        absurd (false≢true (sym (ap (λ (f : Option File). is_that f o.number o.start) file) ∙ now)))
        is_open.number
    number None now = cond_both (bytes_eq p o.partition) None (s.registered o.partition o.name) (λ y. y ≡ Some is_open.by.number)
        (λ partition. absurd (false≢true (sym (ap (λ b. is_that (cond b None (d.file o.partition o.name)) o.number o.start) partition) ∙ now)))
        (λ _. is_open.number)

pub ended_names : (d : Directory) (s : OpenNames) (handles : List (Option Held)) (p : List ℕ) (n : Option (List ℕ)) → Ages d (directory_without d p n) → AreExclusive d s handles → AreExclusive (directory_without d p n) (end_names s p n) handles
ended_names d s handles p n ages x =
    let y = aged d (directory_without d p n) s handles ages x in
    record {
      opens = λ i h here now. ended_open d s p n h.place h.registration now (y.opens i h here now);
      below = y.below;
      apart = y.apart;
      given = y.given;
      current = y.current;
    }

-- The handle of an accepted open.

-- other names stay open
opened_open : (s : OpenNames) (p n : List ℕ) (o : Place) (registration : Option Registration) → s.registered p n ≡ None → IsOpenBy s o registration → IsOpenBy (open_name s p n) o registration
opened_open s p n o registration free is_open = record {
  by = is_open.by;
  held = is_open.held;
  partition = is_open.partition;
  name = is_open.name;
  number = with_at_is s.registered p n o.partition o.name (Some s.next) (Some is_open.by.number)
      (λ partition name. absurd (none-some is_open.by.number (sym free ∙ at_name s.registered p n o.partition o.name partition name ∙ is_open.number)))
      is_open.number;
}

-- its own name is open by it
opened_here : (s : OpenNames) (p n : List ℕ) (o : Place) (registration : Option Registration) → o.partition ≡ p → o.name ≡ n → registration ≡ Some (record { partition = p; name = n; number = s.next }) → IsOpenBy (open_name s p n) o registration
opened_here s p n o registration partition name held = record {
  by = record { partition = p; name = n; number = s.next };
  held = held;
  partition = sym partition;
  name = sym name;
  number =
      ap (λ q. with_name s.registered p n (Some s.next) q o.name) partition ∙ ap (with_name s.registered p n (Some s.next) p) name
      ∙ ap (λ b. cond b (cond (bytes_eq n n) (Some s.next) (s.registered p n)) (s.registered p n)) ((bytes_decides p p).1 refl)
      ∙ ap (λ b. cond b (Some s.next) (s.registered p n)) ((bytes_decides n n).1 refl);
}

-- the handle of an accepted open, on its name's current incarnation
pub record IsNew (d : Directory) (s : OpenNames) (p n : List ℕ) (h : Held) : Type 0 where
  pub registration : h.registration ≡ Some (record { partition = p; name = n; number = s.next })
  pub partition : h.place.partition ≡ p
  pub name : h.place.name ≡ n
  pub current : is_current d h.place ≡ true

module _ (d : Directory) (s : OpenNames) (handles : List (Option Held)) (p n : List ℕ) (slot : Option Held) (made : (h : Held) → slot ≡ Some h → IsNew d s p n h) (free : s.registered p n ≡ None) (x : AreExclusive d s handles) where
  new_number : (h : Held) (r : Registration) → slot ≡ Some h → h.registration ≡ Some r → r.number ≡ s.next
  new_number h r new by = ap (λ (a : Registration). a.number) (same_Some r (record { partition = p; name = n; number = s.next }) (sym by ∙ (made h new).registration))

  old_number : (i : ℕ) (h : Held) (r : Registration) → kept_at handles i ≡ Some h → h.registration ≡ Some r → r.number ≡ s.next → ⊥
  old_number i h r here by same = let below : r.number < s.next = x.below i h r here by in omega (arith, same, below)

  added_open : (i : ℕ) (h : Held) → kept_at (handles ++ slot ∷ []) i ≡ Some h → is_current d h.place ≡ true → IsOpenBy (open_name s p n) h.place h.registration
  added_open i h here now =
      ⊎_elim
      (λ (new : (i ≡ length handles) × (slot ≡ Some h)). let m = made h new.1 in opened_here s p n h.place h.registration m.partition m.name m.registration)
      (λ (old : kept_at handles i ≡ Some h). opened_open s p n h.place h.registration free (x.opens i h old now))
      (kept_push handles slot i h here)

  added_below : (i : ℕ) (h : Held) (r : Registration) → kept_at (handles ++ slot ∷ []) i ≡ Some h → h.registration ≡ Some r → r.number < s.next + 1
  added_below i h r here by =
      ⊎_elim
      (λ (new : (i ≡ length handles) × (slot ≡ Some h)). let same = new_number h r new.1 by in omega (arith, same))
      (λ (old : kept_at handles i ≡ Some h). let below : r.number < s.next = x.below i h r old by in omega (arith, below))
      (kept_push handles slot i h here)

  added_apart : (i j : ℕ) (h k : Held) (r t : Registration) → kept_at (handles ++ slot ∷ []) i ≡ Some h → kept_at (handles ++ slot ∷ []) j ≡ Some k → h.registration ≡ Some r → k.registration ≡ Some t → r.number ≡ t.number → i ≡ j
  added_apart i j h k r t here there by too same =
      ⊎_elim
      (λ (new : (i ≡ length handles) × (slot ≡ Some h)).
      ⊎_elim
      (λ (also : (j ≡ length handles) × (slot ≡ Some k)). new.0 ∙ sym also.0)
      (λ (old : kept_at handles j ≡ Some k). absurd (old_number j k t old too (sym same ∙ new_number h r new.1 by)))
      (kept_push handles slot j k there))
      (λ (old : kept_at handles i ≡ Some h).
      ⊎_elim
      (λ (new : (j ≡ length handles) × (slot ≡ Some k)). absurd (old_number i h r old by (same ∙ new_number k t new.1 too)))
      (λ (also : kept_at handles j ≡ Some k). x.apart i j h k r t old also by too same)
      (kept_push handles slot j k there))
      (kept_push handles slot i h here)

  slot_given : (o : Option Held) → ((h : Held) → o ≡ Some h → IsNew d s p n h) → IfSome o (λ h. h.place.number < d.next)
  slot_given None all = tt
  slot_given (Some h) all = x.current h.place (all h refl).current

  pub added : AreExclusive d (open_name s p n) (handles ++ slot ∷ [])
  added = record {
    opens = added_open;
    below = added_below;
    apart = added_apart;
    given = All-push (λ o. IfSome o (λ h. h.place.number < d.next)) handles slot x.given (slot_given slot made);
    current = x.current;
  }
