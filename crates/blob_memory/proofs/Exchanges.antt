-- A store after the bytes of a current incarnation change.
use Rattle.std.proofs.Common.{◌≡◌, ◌≤◌, ℕ, List, Bool, true, false, cond, ◌&&◌, ◌==◌, nat_eq, nat_lt, not, Option, Some, None, IsSome, refl, sym, ap, ◌∙◌, subst, arith}
use Rattle.std.proofs.lemmas.Bool.{false≢true, and_parts}
use Rattle.std.proofs.lemmas.Bool.Decides.{nat_tests}
use Rattle.std.specs.Cmp.Lexicographic.{bytes_decides}
use Rattle.std.specs.Str.{bytes_eq}
use Rattle.blob_header.specs.Header.{data_start}
use Rattle.blob_model.specs.Durable.{Durable, with_at, with_changed}
use Rattle.blob_model.specs.SamePlace.{same_place_exact}
use Rattle.std.specs.Prelude.{option_map}
use Rattle.blob_model.specs.Places.{Place, same_place}
use Rattle.blob_memory.specs.declared.item.Item.{Item}
use Rattle.blob_memory.specs.declared.item.Item.TheVariants.{Raw, Held}
use Rattle.blob_memory.specs.declared.item.Held as held
use Rattle.blob_memory.specs.Contents.{file_of, vec_in, bytes_of, Fits}
use Rattle.blob_memory.specs.Numbers.{item_number}
use Rattle.blob_memory.specs.Partitions.{with_item, with_bytes_in}
use Rattle.blob_pages.specs.Stored.{Stored}

-- the facts about a current incarnation's item
pub record IsCurrent (first : ℕ) (x : Option Item) (k start : ℕ) : Type 0 where
  pub held : held.Held
  pub is : x ≡ Some (Held held)
  pub begun : nat_lt held.number first ≡ false
  pub number : held.number ≡ k
  pub layout : data_start held.layout ≡ start

when_some : {X : Type 0} (b : Bool) (v : X) → IsSome (cond b (Some v) None) → b ≡ true
when_some true v h = refl
when_some false v h = absurd (false≢true h)

not_true : (b : Bool) → not b ≡ true → b ≡ false
not_true false e = refl
not_true true e = absurd (false≢true e)

pub is_current_item : (first : ℕ) (x : Option Item) (k start : ℕ) → IsSome (vec_in first x k start) → IsCurrent first x k start
is_current_item first None k start h = absurd (false≢true h)
is_current_item first (Some (Raw bytes)) k start h = absurd (false≢true h)
is_current_item first (Some (Held i)) k start h =
    let all = and_parts (not (nat_lt i.number first)) ((i.number == k) && (data_start i.layout == start)) (when_some _ i.bytes h) in
    let two = and_parts (i.number == k) (data_start i.layout == start) all.1 in
    record { held = i; is = refl; begun = not_true (nat_lt i.number first) all.0; number = grind (arith, nat_tests); layout = grind (arith, nat_tests) }

module _ (f g : List ℕ → List ℕ → Option Item) (p n : List ℕ) (v : Stored) (after : (q m : List ℕ) → g q m ≡ with_item f p n (with_bytes_in (f p n) v) q m) where
  -- the item at an equal name
  alike : (q m : List ℕ) → bytes_eq p q ≡ true → bytes_eq n m ≡ true → f p n ≡ f q m
  alike q m y z = ap (λ (l : List ℕ). f l n) ((bytes_decides p q).0 y) ∙ ap (f q) ((bytes_decides n m).0 z)

  same_by : {X : Type 0} (view : Option Item → X) → view (with_bytes_in (f p n) v) ≡ view (f p n) → (q m : List ℕ) → view (g q m) ≡ view (f q m)
  same_by view same q m = ap view (after q m) ∙ push (bytes_eq p q) (bytes_eq n m) (alike q m) where
    push : (b d : Bool) → (b ≡ true → d ≡ true → f p n ≡ f q m) → view (cond b (cond d (with_bytes_in (f p n) v) (f q m)) (f q m)) ≡ view (f q m)
    push true true e = same ∙ ap view (e refl refl)
    push true false e = refl
    push false d e = refl

  number_kept : (x : Option Item) → item_number (with_bytes_in x v) ≡ item_number x
  number_kept None = refl
  number_kept (Some (Raw bytes)) = refl
  number_kept (Some (Held i)) = refl

  pub numbers_still : (q m : List ℕ) → item_number (g q m) ≡ item_number (f q m)
  numbers_still = same_by item_number (number_kept (f p n))

  pub files_still : (first k start : ℕ) → IsSome (vec_in first (f p n) k start) → (q m : List ℕ) → file_of first (g q m) ≡ file_of first (f q m)
  files_still first k start h = same_by (file_of first) (kept (is_current_item first (f p n) k start h)) where
    kept : IsCurrent first (f p n) k start → file_of first (with_bytes_in (f p n) v) ≡ file_of first (f p n)
    kept c = ap (λ x. file_of first (with_bytes_in x v)) c.is ∙ both c.held c.begun ∙ sym (ap (file_of first) c.is) where
      both : (i : held.Held) → nat_lt i.number first ≡ false → file_of first (with_bytes_in (Some (Held i)) v) ≡ file_of first (Some (Held i))
      both i e = rw e refl

pub vecs_after : (f g : List ℕ → List ℕ → Option Item) (v : Stored) (first : ℕ) (o : Place) → ((q m : List ℕ) → g q m ≡ with_item f o.partition o.name (with_bytes_in (f o.partition o.name) v) q m)
    → IsSome (vec_in first (f o.partition o.name) o.number o.start)
    → (a : Place) → vec_in first (g a.partition a.name) a.number a.start ≡ with_at (λ (b : Place). vec_in first (f b.partition b.name) b.number b.start) o (Some v) a
vecs_after f g v first o after h a =
    ap (λ x. vec_in first x a.number a.start) (after a.partition a.name) ∙ push (bytes_eq o.partition a.partition) (bytes_eq o.name a.name) (λ y z. ap (λ (l : List ℕ). f l o.name) ((bytes_decides o.partition a.partition).0 y) ∙ ap (f a.partition) ((bytes_decides o.name a.name).0 z))
  where
    c : IsCurrent first (f o.partition o.name) o.number o.start
    c = is_current_item first (f o.partition o.name) o.number o.start h

    two : (b : Bool) (x y : Option Stored) → cond b x None ≡ cond b x (cond b y None)
    two true x y = refl
    two false x y = refl

    at : (i : held.Held) → nat_lt i.number first ≡ false → i.number ≡ o.number → data_start i.layout ≡ o.start
        → vec_in first (with_bytes_in (Some (Held i)) v) a.number a.start ≡ cond (nat_eq o.number a.number && nat_eq o.start a.start) (Some v) (vec_in first (Some (Held i)) a.number a.start)
    at i e k s = (λ t. cond (not (e t) && ((k t == a.number) && (s t == a.start))) (Some v) None)
        ∙ two (nat_eq o.number a.number && nat_eq o.start a.start) (Some v) (Some i.bytes)
        ∙ ap (λ r. cond (nat_eq o.number a.number && nat_eq o.start a.start) (Some v) r) (sym (λ t. cond (not (e t) && ((k t == a.number) && (s t == a.start))) (Some i.bytes) None))

    push : (b d : Bool) → (b ≡ true → d ≡ true → f o.partition o.name ≡ f a.partition a.name)
        → vec_in first (cond b (cond d (with_bytes_in (f o.partition o.name) v) (f a.partition a.name)) (f a.partition a.name)) a.number a.start
        ≡ cond (b && (d && (nat_eq o.number a.number && nat_eq o.start a.start))) (Some v) (vec_in first (f a.partition a.name) a.number a.start)
    push true true e = ap (λ x. vec_in first (with_bytes_in x v) a.number a.start) c.is ∙ at c.held c.begun c.number c.layout
        ∙ ap (λ x. cond (nat_eq o.number a.number && nat_eq o.start a.start) (Some v) (vec_in first x a.number a.start)) (sym c.is ∙ e refl refl)
    push true false e = refl
    push false d e = refl

-- A change of the bytes of one place.
module _ (f h : Place → Option Stored) (o : Place) (v w : Stored) (here : f o ≡ Some v) (after : (a : Place) → h a ≡ with_at f o (Some w) a) where
  at_same : (a : Place) → same_place o a ≡ true → f a ≡ Some v
  at_same a y = ap f (sym (same_place_exact o a y)) ∙ here

  pub changed_by : (k : List ℕ → List ℕ) → w.items ≡ k v.items → ◌≡◌ {A = Durable} (λ (a : Place). bytes_of (h a)) (with_changed (λ (a : Place). bytes_of (f a)) o k)
  changed_by k e = λ i a. (ap bytes_of (after a) ∙ push a (same_place o a) (at_same a)) i where
    push : (a : Place) (b : Bool) → (b ≡ true → f a ≡ Some v) → bytes_of (cond b (Some w) (f a)) ≡ cond b (option_map k (bytes_of (f a))) (bytes_of (f a))
    push a true is = ap (λ x. Some x) e ∙ sym (ap (λ r. option_map k (bytes_of r)) (is refl))
    push a false is = refl

  pub unchanged_by : w.items ≡ v.items → ◌≡◌ {A = Durable} (λ (a : Place). bytes_of (h a)) (λ (a : Place). bytes_of (f a))
  unchanged_by e = λ i a. (ap bytes_of (after a) ∙ push a (same_place o a) (at_same a)) i where
    push : (a : Place) (b : Bool) → (b ≡ true → f a ≡ Some v) → bytes_of (cond b (Some w) (f a)) ≡ bytes_of (f a)
    push a true is = ap (λ x. Some x) e ∙ sym (ap bytes_of (is refl))
    push a false is = refl

  pub room_by : v.capacity ≤ w.capacity → (a : Place) (n : ℕ) → Fits (f a) n → Fits (h a) n
  room_by le a n fits = subst (λ r. Fits r n) (sym (after a)) (push (same_place o a) (at_same a)) where
    push : (b : Bool) → (b ≡ true → f a ≡ Some v) → Fits (cond b (Some w) (f a)) n
    push true is = let k : n ≤ v.capacity = subst (λ r. Fits r n) (is refl) fits in omega arith
    push false is = fits

-- a change at a place without bytes has no effect
pub changed_none : (f : Durable) (o : Place) → f o ≡ None → (k : List ℕ → List ℕ) → f ≡ with_changed f o k
changed_none f o none k = λ i a. push a (same_place o a) (λ y. ap f (sym (same_place_exact o a y)) ∙ none) i where
  push : (a : Place) (b : Bool) → (b ≡ true → f a ≡ None) → f a ≡ cond b (option_map k (f a)) (f a)
  push a true is = is refl ∙ sym (ap (option_map k) (is refl))
  push a false is = refl
