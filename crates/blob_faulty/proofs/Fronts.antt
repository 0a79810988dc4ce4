-- Runs that were written up to one that was refused.
use Rattle.std.proofs.Common.{◌≡◌, ◌⊎◌, ⊎_elim, ℕ, Bool, true, false, List, [], ◌∷◌, ◌++◌, Option, Some, None, cond, inl, inr, refl, sym, ◌∙◌, ap, ap₂, subst, append_assoc}
use Rattle.std.specs.Prelude.{IsSome}
use Rattle.std.proofs.lemmas.Bool.{cond-true, false≢true}
use Rattle.blob_base.specs.HandleCalls.{HandleCall, Write, Reserve}
use Rattle.blob_base.specs.declared.storage.Blob as handles
use Rattle.blob_header.specs.Refusals.{Refusal, Memory, OffsetOverflow, WriteFailed}
use Rattle.blob_model.specs.Durable.{with_at}
use Rattle.blob_model.specs.Order.{held_at}
use Rattle.blob_model.specs.Pending.{Pending, apply_durable}
use Rattle.blob_model.specs.Places.{Place, same_place}
use Rattle.blob_model.specs.Runs.{Run, all_behind}
use Rattle.blob_model.specs.SamePlace.{same_at, same_self}
use Rattle.blob_draws.specs.Changes.{size_of_runs}
use Rattle.blob_draws.specs.Answers.{last_end, or_memory}
use Rattle.blob_faulty.specs.declared.blob.Blob.{Blob}
use Rattle.blob_faulty.specs.declared.storage.Storage.{Storage}
use Rattle.blob_faulty.specs.Asked.{Asks, Made, Then, RefusedBehind, run_calls}
use Rattle.blob_faulty.specs.Writes.{View, SameRecords, Unchanged, Lays, LaysUpTo, LaysFront}
use Rattle.blob_faulty.proofs.Asking.{once, then_made}

-- runs one after another
behind_both : (q : List Pending) (rs ss : List Run) → all_behind q (rs ++ ss) ≡ all_behind (all_behind q rs) ss
behind_both q [] ss = refl
behind_both q (r ∷ rs) ss = behind_both (apply_durable r.0 r.1 q) rs ss

size_both : (n : ℕ) (rs ss : List Run) → size_of_runs n (rs ++ ss) ≡ size_of_runs (size_of_runs n rs) ss
size_both n [] ss = refl
size_both n (r ∷ rs) ss = size_both (size_of_runs n (r ∷ [])) rs ss

-- a list that is changed twice
set_twice : (f g h : Place → List Pending) (o p : Place) (x : List Pending) (change : List Pending → List Pending) → p ≡ o → ((a : Place) → g a ≡ with_at f o x a) → ((a : Place) → h a ≡ with_at g p (change (g p)) a) →
    (a : Place) → h a ≡ with_at f o (change x) a
set_twice f g h o p x change here first second a =
    second a ∙ ap (λ (q : Place). cond (same_place q a) (change (g q)) (g a)) here
    ∙ ap₂ (λ (y : List Pending) (z : List Pending). cond (same_place o a) (change y) z) (first o ∙ cond-true (same_place o o) _ _ (same_self o)) (first a)
    ∙ go (same_place o a) (change x) x (f a)
  where
    go : (t : Bool) (y z v : List Pending) → cond t y (cond t z v) ≡ cond t y v
    go true y z v = refl
    go false y z v = refl

lays_none : {R : Type 0} (old new : View R) → SameRecords old new → Lays old new []
lays_none old new k = record {
  size = k.size;
  pending = λ o. k.pending o ∙ same_at (held_at old.held) old.place o;
  next_write = k.next_write;
  next_marker = k.next_marker;
}

lays_both : {R : Type 0} (old mid new : View R) (rs ss : List Run) → mid.place ≡ old.place → Lays old mid rs → Lays mid new ss → Lays old new (rs ++ ss)
lays_both old mid new rs ss place l k = record {
  size = k.size ∙ ap (λ (n : ℕ). size_of_runs n ss) l.size ∙ sym (size_both old.size rs ss);
  pending = λ a. set_twice (held_at old.held) (held_at mid.held) (held_at new.held) old.place mid.place (all_behind (held_at old.held old.place) rs) (λ q. all_behind q ss) place l.pending k.pending a
      ∙ ap (λ (q : List Pending). with_at (held_at old.held) old.place q a) (sym (behind_both (held_at old.held old.place) rs ss));
  next_write = k.next_write ∙ l.next_write;
  next_marker = k.next_marker ∙ l.next_marker;
}

lays_then_same : {R : Type 0} (old mid new : View R) (rs : List Run) → Lays old mid rs → SameRecords mid new → Lays old new rs
lays_then_same old mid new rs l k = record {
  size = k.size ∙ l.size;
  pending = λ a. k.pending a ∙ l.pending a;
  next_write = k.next_write ∙ l.next_write;
  next_marker = k.next_marker ∙ l.next_marker;
}

-- The calls of the inner blob.

-- a call after others that all returned Ok
made_more : {B S : Type 0} (leaves : HandleCall → B → S → Option Refusal → B → S → Type 0) (rs : List Run) (r : Run) (b : B) (s : S) (x : B) (y : S) (c : B) (t : S) →
    Made leaves (run_calls rs) None b s x y → leaves (Write r.0 r.1 true) x y None c t → Made leaves (run_calls (rs ++ (r ∷ []))) None b s c t
made_more {B} {S} leaves [] r b s x y c t m h =
    once leaves (Write r.0 r.1 true) None b s c t (subst (λ (z : B). leaves (Write r.0 r.1 true) z s None c t) m.1 (subst (λ (z : S). leaves (Write r.0 r.1 true) x z None c t) m.2 h))
made_more leaves (q ∷ rs) r b s x y c t (inl refused) h = absurd (false≢true refused.0)
made_more leaves (q ∷ rs) r b s x y c t (inr m) h = inr (record { blob = m.blob; store = m.store; done = m.done; behind = made_more leaves rs r m.blob m.store x y c t m.behind h })

-- the first run was refused
pub refused_first : {B S : Type 0} (leaves : HandleCall → B → S → Option Refusal → B → S → Type 0) (r : Run) (left : List Run) (refusal : Refusal) (b : B) (s : S) (c : B) (t : S) →
    leaves (Write r.0 r.1 true) b s (Some refusal) c t → RefusedBehind leaves [] (r ∷ left) b s c t
refused_first leaves r left refusal b s c t h = record { blob = b; store = s; done = (refl, refl, refl); behind = record { refusal = refusal; is = h } }

-- a run before those
refused_later : {B S : Type 0} (leaves : HandleCall → B → S → Option Refusal → B → S → Type 0) (r : Run) (front left : List Run) (b : B) (s : S) (x : B) (y : S) (c : B) (t : S) →
    leaves (Write r.0 r.1 true) b s None x y → RefusedBehind leaves front left x y c t → RefusedBehind leaves (r ∷ front) left b s c t
refused_later leaves r front [] b s x y c t h k = absurd k
refused_later leaves r front (q ∷ left) b s x y c t h k = record { blob = k.blob; store = k.store; done = then_made leaves (Write r.0 r.1 true) (run_calls front) None b s x y k.blob k.store h k.done; behind = k.behind }

-- The runs that were written.

-- before the first run
pub up_to_first : {R B S : Type 0} (leaves : HandleCall → B → S → Option Refusal → B → S → Type 0) (b : B) (s : S) (old : View R) (all : List Run) →
    LaysUpTo (λ front left. Made leaves (run_calls front) None b s b s) old old all all
up_to_first leaves b s old all = record { front = []; parts = refl; lays = lays_none old old (record { size = refl; pending = λ o. refl; next_write = refl; next_marker = refl }); is = (refl, refl, refl) }

-- one more
pub up_to_next : {R B S : Type 0} (leaves : HandleCall → B → S → Option Refusal → B → S → Type 0) (b : B) (s : S) (x : B) (y : S) (c : B) (t : S) (old mid new : View R) (all : List Run) (r : Run) (left : List Run) → mid.place ≡ old.place →
    LaysUpTo (λ front left. Made leaves (run_calls front) None b s x y) old mid all (r ∷ left) → Lays mid new (r ∷ []) → leaves (Write r.0 r.1 true) x y None c t →
    LaysUpTo (λ front left. Made leaves (run_calls front) None b s c t) old new all left
up_to_next leaves b s x y c t old mid new all r left place u l h = record {
  front = u.front ++ (r ∷ []);
  parts = u.parts ∙ sym (append_assoc u.front (r ∷ []) left);
  lays = lays_both old mid new u.front (r ∷ []) place u.lays l;
  is = made_more leaves u.front r b s x y c t u.is h;
}

-- the next one was refused
pub front_refused : {R B S : Type 0} (leaves : HandleCall → B → S → Option Refusal → B → S → Type 0) (b : B) (s : S) (x : B) (y : S) (c : B) (t : S) (old mid new : View R) (all : List Run) (r : Run) (left : List Run) (refusal : Refusal) →
    LaysUpTo (λ front left. Made leaves (run_calls front) None b s x y) old mid all (r ∷ left) → SameRecords mid new → leaves (Write r.0 r.1 true) x y (Some refusal) c t →
    LaysFront (λ front left. RefusedBehind leaves front left b s c t) old new all
front_refused leaves b s x y c t old mid new all r left refusal u k h =
    (r ∷ left, record { front = u.front; parts = u.parts; lays = lays_then_same old mid new u.front u.lays k; is = record { blob = x; store = y; done = u.is; behind = record { refusal = refusal; is = h } } })

-- no run was written
pub front_none : {R B S : Type 0} (leaves : HandleCall → B → S → Option Refusal → B → S → Type 0) (b : B) (s : S) (c : B) (t : S) (old new : View R) (r : Run) (left : List Run) (refusal : Refusal) → SameRecords old new → leaves (Write r.0 r.1 true) b s (Some refusal) c t →
    LaysFront (λ front left. RefusedBehind leaves front left b s c t) old new (r ∷ left)
front_none leaves b s c t old new r left refusal k h =
    (r ∷ left, record { front = []; parts = refl; lays = lays_none old new k; is = refused_first leaves r left refusal b s c t h })

-- after a run that was written
pub front_behind : {R B S : Type 0} (leaves : HandleCall → B → S → Option Refusal → B → S → Type 0) (b : B) (s : S) (x : B) (y : S) (c : B) (t : S) (old mid new : View R) (r : Run) (rs : List Run) → mid.place ≡ old.place → Lays old mid (r ∷ []) →
    leaves (Write r.0 r.1 true) b s None x y → LaysFront (λ front left. RefusedBehind leaves front left x y c t) mid new rs → LaysFront (λ front left. RefusedBehind leaves front left b s c t) old new (r ∷ rs)
front_behind leaves b s x y c t old mid new r rs place l h f = (
  f.0,
  record {
    front = r ∷ f.1.front;
    parts = ap (λ (q : List Run). r ∷ q) f.1.parts;
    lays = lays_both old mid new (r ∷ []) f.1.front place l f.1.lays;
    is = refused_later leaves r f.1.front f.0 b s x y c t h f.1.is;
  },
)

-- after a reservation, which changes nothing
pub front_in_room : {R B S : Type 0} (leaves : HandleCall → B → S → Option Refusal → B → S → Type 0) (b : B) (s : S) (x : B) (y : S) (c : B) (t : S) (old mid new : View R) (rs : List Run) → Unchanged old mid → leaves (Reserve (last_end 0 rs)) b s None x y →
    LaysFront (λ front left. RefusedBehind leaves front left x y c t) mid new rs →
    LaysFront (λ front left. Then (leaves (Reserve (last_end 0 rs)) b s None) (λ u v. RefusedBehind leaves front left u v c t)) old new rs
front_in_room leaves b s x y c t old mid new rs u h f = (
  f.0,
  record {
    front = f.1.front;
    parts = f.1.parts;
    lays = lays_both old mid new [] f.1.front u.place (lays_none old mid u.records) f.1.lays;
    is = record { blob = x; store = y; done = h; behind = f.1.is };
  },
)

pub some_refusal : (answer : Option Refusal) (refusal : Refusal) → answer ≡ Some refusal → IsSome answer
some_refusal None refusal is = absurd (cc)
some_refusal (Some other) refusal is = refl

-- a reservation never returns WriteFailed
pub never_failed : (P : Option Refusal → Type 0) (answer : Option Refusal) → ((refusal : Refusal) → P (Some refusal) → (refusal ≡ OffsetOverflow) ⊎ (refusal ≡ Memory)) → answer ≡ Some WriteFailed → or_memory P answer → ⊥
never_failed P answer only is (inl memory) = cc
never_failed P answer only is (inr h) = ⊎_elim (λ e. cc) (λ e. cc) (only WriteFailed (subst P is h))

-- a call that returned Ok was asked
pub asked_of : {S R O B : Type 0} (handle : handles.Ghosts B S O) (b : Blob B) (w : Storage S R O) (c : Blob B) (w' : Storage S R O) {call : HandleCall} → Asks handle b w c w' call None → handle.leaves call b.inner w.inner None c.inner w'.inner
asked_of handle b w c w' (inl u) = absurd (false≢true u.0)
asked_of handle b w c w' (inr h) = h
