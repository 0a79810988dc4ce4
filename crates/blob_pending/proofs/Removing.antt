-- The list of a name's current incarnation.
use Rattle.std.proofs.Common.{◌≡◌, ⊎_elim, ℕ, Bool, true, false, ◌&&◌, cond, eqb, List, [], ◌∷◌, get_or, Option, Some, None, refl, sym, ◌∙◌, ap, ap₂, arith, true≢false}
use Rattle.std.proofs.lemmas.Bool.{cases_Bool, cond-true, cond-false}
use Rattle.std.specs.Cmp.Lexicographic.{bytes_decides}
use Rattle.std.specs.Prelude.{option_map}
use Rattle.std.specs.Str.{bytes_eq}
use Rattle.blob_header.specs.Header.{data_start}
use Rattle.blob_model.specs.Directory.{Directory, File, Raw, Incarnation as File-Incarnation, place_in, current, is_that, is_current}
use Rattle.blob_model.specs.Files.{is_removed_by}
use Rattle.blob_model.specs.Places.{Place, same_place}
use Rattle.blob_model.specs.SamePlace.{same_place_exact, same_self}
use Rattle.blob_pending.specs.declared.incarnation.Incarnation.{Incarnation}
use Rattle.blob_pending.specs.Lists.{list_of, is_removed_in, AreDistinct, IsListOf, RetiresRemoved, TakesList}
use Rattle.blob_pending.proofs.Taking.{at_of, none_of}

-- whether that is the place
abbrev pub is_place : Option Place → Place → Bool
is_place None a = false
is_place (Some o) a = same_place o a

both_true : (x y z : Bool) → x ≡ true → y ≡ true → (x && (y && z)) ≡ z
both_true x y z e f = ap (λ (b : Bool). b && (y && z)) e ∙ ap (λ (b : Bool). b && z) f

second_false : (x y z : Bool) → y ≡ false → (x && (y && z)) ≡ false
second_false true y z e = ap (λ (b : Bool). b && z) e
second_false false y z e = refl

test_false : (x y z : Bool) → y ≡ false → ((x && y) && z) ≡ false
test_false true y z e = ap (λ (b : Bool). b && z) e
test_false false y z e = refl

other_name : (p n : List ℕ) (a : Place) (x : Option File) → bytes_eq p a.partition ≡ false → is_place (place_in p n x) a ≡ false
other_name p n a None e = refl
other_name p n a (Some (Raw b)) e = refl
other_name p n a (Some (File-Incarnation k layout version)) e = ap (λ (b : Bool). b && (bytes_eq n a.name && (eqb k a.number && eqb (data_start layout) a.start))) e

other_blob : (p n : List ℕ) (a : Place) (x : Option File) → bytes_eq n a.name ≡ false → is_place (place_in p n x) a ≡ false
other_blob p n a None e = refl
other_blob p n a (Some (Raw b)) e = refl
other_blob p n a (Some (File-Incarnation k layout version)) e = second_false (bytes_eq p a.partition) (bytes_eq n a.name) (eqb k a.number && eqb (data_start layout) a.start) e

this_name : (p n : List ℕ) (a : Place) (x : Option File) → bytes_eq p a.partition ≡ true → bytes_eq n a.name ≡ true → is_that x a.number a.start ≡ is_place (place_in p n x) a
this_name p n a None e f = refl
this_name p n a (Some (Raw b)) e f = refl
this_name p n a (Some (File-Incarnation k layout version)) e f = sym (both_true (bytes_eq p a.partition) (bytes_eq n a.name) (eqb k a.number && eqb (data_start layout) a.start) e f)

pub is_current_place : (d : Directory) (p n : List ℕ) (a : Place) → is_removed_by d p (Some n) a ≡ is_place (current d p n) a
is_current_place d p n a = ⊎_elim
    (λ y. ⊎_elim
    (λ z.
    let file : d.file a.partition a.name ≡ d.file p n = ap₂ (λ (q m : List ℕ). d.file q m) (sym ((bytes_decides p a.partition).0 y)) (sym ((bytes_decides n a.name).0 z)) in
    ap (λ (b : Bool). (b && bytes_eq n a.name) && is_current d a) y ∙ ap (λ (b : Bool). b && is_current d a) z ∙ ap (λ (x : Option File). is_that x a.number a.start) file ∙ this_name p n a (d.file p n) y z)
    (λ z. test_false (bytes_eq p a.partition) (bytes_eq n a.name) (is_current d a) z ∙ sym (other_blob p n a (d.file p n) z))
    (cases_Bool (bytes_eq n a.name)))
    (λ y. ap (λ (b : Bool). (b && bytes_eq n a.name) && is_current d a) y ∙ sym (other_name p n a (d.file p n) y))
    (cases_Bool (bytes_eq p a.partition))

-- the incarnation that a removal of a name ends is its current one
removed_current : (d : Directory) (p n : List ℕ) (o : Place) → is_removed_by d p (Some n) o ≡ true → current d p n ≡ Some o
removed_current d p n o removed = at (current d p n) (sym (is_current_place d p n o) ∙ removed)
  where
    at : (x : Option Place) → is_place x o ≡ true → x ≡ Some o
    at None e = absurd (true≢false (sym e))
    at (Some q) e = ap (λ (r : Place). Some r) (same_place_exact q o e)

-- and the only one
removed_alone : (d : Directory) (p n : List ℕ) (o a : Place) → is_removed_by d p (Some n) o ≡ true → is_removed_by d p (Some n) a ≡ same_place o a
removed_alone d p n o a removed = is_current_place d p n a ∙ ap (λ (x : Option Place). is_place x a) (removed_current d p n o removed)

unless : (b : Bool) → (b ≡ true → ⊥) → b ≡ false
unless true never = absurd (never refl)
unless false never = refl

-- another number
pub other_number : (d : Directory) (p n : List ℕ) (o : Place) (number : ℕ) → Some number ≡ option_map (λ (q : Place). q.number) (current d p n) → (o.number ≡ number → ⊥) → is_removed_by d p (Some n) o ≡ false
other_number d p n o number is_its other = unless (is_removed_by d p (Some n) o) (λ removed.
    let there : option_map (λ (q : Place). q.number) (current d p n) ≡ Some o.number = ap (option_map (λ (q : Place). q.number)) (removed_current d p n o removed) in
    other cc)

module _ {O : Type 0} (place : O → Place) (is : List (Incarnation O)) (d : Directory) (p n : List ℕ) where
  -- no list of a name without a current incarnation
  pub unnumbered : (r : Option ℕ) → r ≡ option_map (λ (o : Place). o.number) (current d p n) → r ≡ None → IsListOf place d p n is None
  unnumbered r is_r none k e h = unless (is_removed_in place d p (Some n) (get_or is k e)) (λ removed.
      let there : option_map (λ (o : Place). o.number) (current d p n) ≡ Some (place (get_or is k e).origin).number = ap (option_map (λ (o : Place). o.number)) (removed_current d p n (place (get_or is k e).origin) removed) in cc)

  -- and what its retirement leaves
  pub retires_none : IsListOf place d p n is None → RetiresRemoved place d p (Some n) is is
  retires_none none a = ⊎_elim
      (λ yes. none_of place is a (λ k e h. unless (same_place (place (get_or is k e).origin) a)
      (λ same. true≢false (sym yes ∙ ap (λ (q : Place). is_removed_by d p (Some n) q) (sym (same_place_exact (place (get_or is k e).origin) a same)) ∙ none k e h)))
      ∙ sym (cond-true (is_removed_by d p (Some n) a) [] (list_of place is a) yes))
      (λ no. sym (cond-false (is_removed_by d p (Some n) a) [] (list_of place is a) no))
      (cases_Bool (is_removed_by d p (Some n) a))

retires_with : {O : Type 0} (place : O → Place) (is js : List (Incarnation O)) (i : ℕ) (e : Incarnation O) (d : Directory) (p n : List ℕ) → ((x y : O) → place x ≡ place y → x ≡ y) → AreDistinct is → TakesList place is js i → IsListOf place d p n is (Some i) → RetiresRemoved place d p (Some n) is js
retires_with place is js i e d p n one distinct takes of a =
    let o = place (get_or is i e).origin in
    takes o (at_of place is i e o one distinct of.0 (same_self o)) a
    ∙ ap (λ (b : Bool). cond b [] (list_of place is a)) (sym (removed_alone d p n o a (of.1 e)))

pub retires_some : {O : Type 0} (place : O → Place) (is js : List (Incarnation O)) (i : ℕ) (d : Directory) (p n : List ℕ) → ((x y : O) → place x ≡ place y → x ≡ y) → AreDistinct is → TakesList place is js i → IsListOf place d p n is (Some i) → RetiresRemoved place d p (Some n) is js
retires_some place [] js i d p n one distinct takes of = absurd (omega (arith, of.0))
retires_some place (x ∷ is) js i d p n one distinct takes of = retires_with place (x ∷ is) js i x d p n one distinct takes of
