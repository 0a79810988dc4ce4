-- A store after a borrow of its bytes ends.
use Rattle.std.proofs.Common.{◌≡◌, ◌≤◌, ◌∙◌, refl, sym, ap, subst, ℕ, List, Option, Some, None, Result, Ok, Err}
use Rattle.std.specs.Prelude.{IfSome, is_some}
use Rattle.std.specs.Borrow.{MutBor}
use Rattle.std.specs.Option.{OnSome, option_copied_mut}
use Rattle.std.specs.Result.{IsErr}
use Rattle.std.proofs.lemmas.Bool.{false≢true, cond-true}
use Rattle.blob_header.specs.declared.error.Error.{Error}
use Rattle.blob_model.specs.Durable.{with_at, with_changed}
use Rattle.blob_model.specs.Places.{Place, same_place}
use Rattle.blob_model.specs.SamePlace.{same_self}
use Rattle.blob_memory.specs.declared.contents.Contents.{Contents}
use Rattle.blob_memory.specs.declared.storage.Storage.{Storage}
use Rattle.blob_model.specs.Directory.{is_current}
use Rattle.blob_memory.specs.Laws.{currents}
use Rattle.blob_memory.specs.Contents.{directory_of, durable_of, vec_at, bytes_of, Fits}
use Rattle.blob_memory.specs.ContentsLends.{HasVecs}
use Rattle.blob_memory.specs.Retained.{KeepsRoom, Retains, Retakes}
use Rattle.blob_memory.proofs.Exchanges.{changed_by, unchanged_by, room_by, changed_none}
use Rattle.blob_memory.proofs.Lent.{where_some}
use Rattle.blob_pages.specs.Stored.{Stored}

abbrev pub done : Result (Unit {0}) Error
done = Ok (tt {0})

-- the bytes b of an incarnation were borrowed, and are w after the borrow
pub record Lent (s t : Contents) (o : Place) (b w : Stored) : Type 0 where
  pub here : vec_at s o ≡ Some b
  pub now : HasVecs s t (with_at (vec_at s) o (Some w))

pub lent : (s t : Contents) (o : Place) (r : Option (MutBor Stored)) (b : MutBor Stored) (w : Stored) → r ≡ Some b → option_copied_mut r ≡ vec_at s o
    → OnSome r (HasVecs s t (with_at (vec_at s) o (Some w))) → Lent s t o b.now w
lent s t o r b w is value ends = record { here = sym value ∙ ap option_copied_mut is; now = where_some r b is ends }

module _ {s t : Contents} {o : Place} {b w : Stored} (l : Lent s t o b w) where
  pub alters : (k : List ℕ → List ℕ) → w.items ≡ k b.items → durable_of t ≡ with_changed (durable_of s) o k
  alters = changed_by (vec_at s) (vec_at t) o b w l.here l.now.vecs

  pub stays : w.items ≡ b.items → durable_of t ≡ durable_of s
  stays = unchanged_by (vec_at s) (vec_at t) o b w l.here l.now.vecs

  pub rooms : b.capacity ≤ w.capacity → (a : Place) (n : ℕ) → Fits (vec_at s a) n → Fits (vec_at t a) n
  rooms = room_by (vec_at s) (vec_at t) o b w l.here l.now.vecs

  pub fits_lent : (n : ℕ) → n ≤ w.capacity → Fits (vec_at t o) n
  fits_lent n fits = rw (l.now.vecs o, cond-true (same_place o o) (Some w) (vec_at s o) (same_self o)) fits

module _ (s t : Storage) {o : Place} {b w : Stored} (l : Lent s.contents t.contents o b w) (more : b.capacity ≤ w.capacity) where
  pub kept : KeepsRoom s t
  kept = record { directory = l.now.directory; room = rooms l more }

  pub retained : (k : List ℕ → List ℕ) → w.items ≡ k b.items → Retains done s t o k
  retained k made = record { ok = alters l k made; err = tt; kept = kept }

  pub refused_retained : (r : Result (Unit {0}) Error) (k : List ℕ → List ℕ) → IsErr r → w.items ≡ b.items → Retains r s t o k
  refused_retained (Ok x) k is same = absurd (false≢true is)
  refused_retained (Err e) k is same = record { ok = tt; err = stays l same; kept = kept }

-- there were no bytes to borrow
module _ (s t : Contents) (ends : HasVecs s t (vec_at s)) where
  pub still : durable_of t ≡ durable_of s
  still = λ i o. bytes_of (ends.vecs o i)

  pub rooms_still : (a : Place) (n : ℕ) → Fits (vec_at s a) n → Fits (vec_at t a) n
  rooms_still a n fits = rw (ends.vecs a) fits

  pub alters_none : (o : Place) (r : Option (MutBor Stored)) → r ≡ None → option_copied_mut r ≡ vec_at s o → (k : List ℕ → List ℕ) → durable_of t ≡ with_changed (durable_of s) o k
  alters_none o r is value k = still ∙ changed_none (durable_of s) o (ap bytes_of (sym value ∙ ap option_copied_mut is)) k

  pub fits_none : (o : Place) (r : Option (MutBor Stored)) → r ≡ None → option_copied_mut r ≡ vec_at s o → (n : ℕ) → Fits (vec_at t o) n
  fits_none o r is value n = rw (ends.vecs o ∙ sym value ∙ ap option_copied_mut is) tt

module _ (s t : Storage) (ends : HasVecs s.contents t.contents (vec_at s.contents)) where
  pub kept_none : KeepsRoom s t
  kept_none = record { directory = ends.directory; room = rooms_still s.contents t.contents ends }

  pub retained_none : (o : Place) (r : Option (MutBor Stored)) → r ≡ None → option_copied_mut r ≡ vec_at s.contents o → (k : List ℕ → List ℕ) → Retains done s t o k
  retained_none o r is value k = record { ok = alters_none s.contents t.contents ends o r is value k; err = tt; kept = kept_none }

-- what a borrow says of the store
pub retakes : (s t : Storage) (o : Place) (r : Option (MutBor Stored)) (w : Stored) → option_copied_mut r ≡ vec_at s.contents o
    → OnSome r (HasVecs s.contents t.contents (with_at (vec_at s.contents) o (Some w))) → IfSome r (λ b. Retakes s t o b.now w)
retakes s t o None w value ends = tt
retakes s t o (Some b) w value ends =
    let l = lent s.contents t.contents o (Some b) b w refl value ends in
    record { durable = alters l; kept = kept s t l }

pub lent_room : (s : Contents) (o : Place) (r : Option (MutBor Stored)) → option_copied_mut r ≡ vec_at s o → (n : ℕ) → Fits (vec_at s o) n → IfSome r (λ b. n ≤ b.now.capacity)
lent_room s o None value n fits = tt
lent_room s o (Some b) value n fits = subst (λ (v : Option Stored). Fits v n) (sym value) fits

pub lent_current : (s : Contents) (o : Place) (r : Option (MutBor Stored)) → option_copied_mut r ≡ vec_at s o → is_some r ≡ is_current (directory_of s) o
lent_current s o r value = there r ∙ ap (λ (v : Option Stored). is_some (bytes_of v)) value ∙ currents s o where
  there : (x : Option (MutBor Stored)) → is_some x ≡ is_some (bytes_of (option_copied_mut x))
  there None = refl
  there (Some b) = refl
