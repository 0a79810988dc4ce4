-- What is asked of an inner blob, call by call.
use Rattle.std.proofs.Common.{◌≡◌, ◌≢◌, ◌⊎◌, inl, inr, refl, sym, ◌∙◌, ap, List, ◌∷◌, [], length, reverse, Option, Some, None}
use Rattle.std.specs.Prelude.{IsSome}
use Rattle.std.proofs.lemmas.Bool.{false≢true}
use Rattle.std.proofs.lemmas.List.{length-map, length-reverse}
use Rattle.blob_base.specs.HandleCalls.{HandleCall, Reserve}
use Rattle.blob_header.specs.Refusals.{Refusal, Injected}
use Rattle.blob_model.specs.Runs.{Run}
use Rattle.blob_draws.specs.Answers.{Allowed, injected_for, last_end}
use Rattle.blob_faulty.specs.declared.write_runs.Piece.{Piece}
use Rattle.blob_base.specs.declared.storage.Blob as handles
use Rattle.blob_faulty.specs.declared.blob.Blob.{Blob}
use Rattle.blob_faulty.specs.declared.storage.Storage.{Storage}
use Rattle.blob_faulty.specs.Asked.{Made, Unasked, InnerMade, Asks, AsksRuns, or_failed, run_calls, kept_calls}
use Rattle.blob_faulty.specs.Pieces.{run_of, runs_in}

-- one call
pub once : {B S : Type 0} (leaves : HandleCall → B → S → Option Refusal → B → S → Type 0) (call : HandleCall) (answer : Option Refusal) (b : B) (s : S) (c : B) (t : S) →
    leaves call b s answer c t → Made leaves (call ∷ []) answer b s c t
once leaves call None b s c t h = inr (record { blob = c; store = t; done = h; behind = (refl, refl, refl) })
once leaves call (Some r) b s c t h = inl (refl, h)

-- a call that returned Ok, and those after it
pub then_made : {B S : Type 0} (leaves : HandleCall → B → S → Option Refusal → B → S → Type 0) (call : HandleCall) (calls : List HandleCall) (answer : Option Refusal) (b : B) (s : S) (x : B) (y : S) (c : B) (t : S) →
    leaves call b s None x y → Made leaves calls answer x y c t → Made leaves (call ∷ calls) answer b s c t
then_made leaves call calls answer b s x y c t h m = inr (record { blob = x; store = y; done = h; behind = m })

pub then_failed : {B S : Type 0} (leaves : HandleCall → B → S → Option Refusal → B → S → Type 0) (call : HandleCall) (calls : List HandleCall) (answer : Option Refusal) (b : B) (s : S) (x : B) (y : S) (c : B) (t : S) →
    leaves call b s None x y → or_failed (λ a. Made leaves calls a x y c t) answer → or_failed (λ a. Made leaves (call ∷ calls) a b s c t) answer
then_failed leaves call calls answer b s x y c t h (inl m) = inl (then_made leaves call calls answer b s x y c t h m)
then_failed leaves call calls answer b s x y c t h (inr m) = inr (m.0, record { refusal = m.1.refusal; is = then_made leaves call calls _ b s x y c t h m.1.is })

-- a reservation, and then the runs
pub behind_room : {B S : Type 0} (leaves : HandleCall → B → S → Option Refusal → B → S → Type 0) (rs : List Run) (answer : Option Refusal) (b : B) (s : S) (x : B) (y : S) (c : B) (t : S) → rs ≢ [] →
    leaves (Reserve (last_end 0 rs)) b s None x y → or_failed (λ a. Made leaves (run_calls rs) a x y c t) answer → or_failed (λ a. Made leaves (kept_calls rs) a b s c t) answer
behind_room leaves [] answer b s x y c t some h m = absurd (some refl)
behind_room leaves (r ∷ rs) answer b s x y c t some h m = then_failed leaves (Reserve (last_end 0 (r ∷ rs))) (run_calls (r ∷ rs)) answer b s x y c t h m

-- a refused reservation
pub without_room : {B S : Type 0} (leaves : HandleCall → B → S → Option Refusal → B → S → Type 0) (rs : List Run) (answer : Option Refusal) (b : B) (s : S) (c : B) (t : S) → rs ≢ [] → IsSome answer →
    leaves (Reserve (last_end 0 rs)) b s answer c t → Made leaves (kept_calls rs) answer b s c t
without_room leaves [] answer b s c t some refusal h = absurd (some refl)
without_room leaves (r ∷ rs) answer b s c t some refusal h = inl (refusal, h)

-- a call that was asked or refused before
module _ {S R O B : Type 0} (handle : handles.Ghosts B S O) (b : Blob B) (w : Storage S R O) (c : Blob B) (w' : Storage S R O) where
  pub asked_once : (call : HandleCall) (answer : Option Refusal) → Asks handle b w c w' call answer → Unasked handle b w c w' answer ⊎ InnerMade handle b w c w' (call ∷ []) answer
  asked_once call answer (inl u) = inl u
  asked_once call answer (inr m) = inr (once handle.leaves call answer b.inner w.inner c.inner w'.inner m)

  -- a fault in place of Ok, and a refusal that stays
  pub faulted : (made : Allowed) → Unasked handle b w c w' None ⊎ made None → Unasked handle b w c w' (Some Injected) ⊎ injected_for made (Some Injected)
  faulted made (inl u) = absurd (false≢true u.0)
  faulted made (inr m) = inr (inl (refl, m))

  pub refused_too : (made : Allowed) (answer : Option Refusal) → IsSome answer → Unasked handle b w c w' answer ⊎ made answer → Unasked handle b w c w' answer ⊎ injected_for made answer
  refused_too made answer some (inl u) = inl u
  refused_too made answer some (inr m) = inr (inr (some, m))

  -- runs, after a reservation for them was asked for
  pub laid_behind : (x : Blob B) (y : Storage S R O) (rs : List Run) (answer : Option Refusal) → rs ≢ [] → Asks handle b w x y (Reserve (last_end 0 rs)) None → or_failed (InnerMade handle x y c w' (run_calls rs)) answer → AsksRuns handle b w c w' rs answer
  laid_behind x y rs answer some (inl u) m = absurd (false≢true u.0)
  laid_behind x y rs answer some (inr h) m = inr (behind_room handle.leaves rs answer b.inner w.inner x.inner y.inner c.inner w'.inner some h m)

  pub refused_room : (rs : List Run) (answer : Option Refusal) → rs ≢ [] → IsSome answer → Asks handle b w c w' (Reserve (last_end 0 rs)) answer → AsksRuns handle b w c w' rs answer
  refused_room rs answer some refusal (inl u) = inl u
  refused_room rs answer some refusal (inr h) = inr (inl (without_room handle.leaves rs answer b.inner w.inner c.inner w'.inner some refusal h))

-- no run, no piece
pub no_pieces : (ps : List Piece) → runs_in ps ≡ [] → length ps ≡ 0
no_pieces ps e = sym (length-map (reverse ps) run_of ∙ length-reverse ps) ∙ ap length e
