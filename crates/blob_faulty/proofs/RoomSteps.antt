-- Capacity is reserved in a list, the inner store does the call, and an entry is pushed into that capacity.
use Rattle.std.proofs.Common.{◌≡◌, ◌++◌, ◌∷◌, [], ℕ, refl, sym, subst}
use Rattle.blob_model.specs.Durable.{with_at}
use Rattle.blob_model.specs.Pending.{Pending}
use Rattle.blob_model.specs.Places.{Place}
use Rattle.blob_pending.specs.declared.lists.Lists.{Lists}
use Rattle.blob_faulty.specs.declared.storage.Storage.{Storage}
use Rattle.blob_pending.specs.Lists.{lists_of, list_of, IsAt}
use Rattle.blob_faulty.specs.Wrapper.{pending_of}
use Rattle.blob_faulty.proofs.Pushing.{after_room}

-- an entry that is pushed into reserved capacity
pub pushed_at : {S R O : Type 0} (place : O → Place) (old mid done : Storage S R O) (inner : S) (new : Lists S O) (i : ℕ) (o : Place) (e : Pending) →
    ((a : Place) → pending_of place mid a ≡ pending_of place old a) → IsAt (lists_of place mid.lists.all.lists.items) i o → done ≡ record mid { inner = inner } →
    ((p : Place) → IsAt (lists_of place done.lists.all.lists.items) i p → (a : Place) → list_of place new.all.lists.items a ≡ with_at (list_of place done.lists.all.lists.items) p (list_of place done.lists.all.lists.items p ++ e ∷ []) a) →
    (a : Place) → list_of place new.all.lists.items a ≡ with_at (pending_of place old) o (pending_of place old o ++ e ∷ []) a
pushed_at {S} {R} {O} place old mid done inner new i o e room at rest pushed = after_room (pending_of place old) (pending_of place mid) (list_of place new.all.lists.items) o o (λ q. q ++ e ∷ []) room
    (subst (λ (w : Storage S R O). (a : Place) → list_of place new.all.lists.items a ≡ with_at (pending_of place w) o (pending_of place w o ++ e ∷ []) a) rest
    (pushed o (subst (λ (w : Storage S R O). IsAt (lists_of place w.lists.all.lists.items) i o) (sym rest) at)))
    refl
