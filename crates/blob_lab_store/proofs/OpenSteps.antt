-- Opens of a laboratory, from what the wrapper and the open names promise.
use Rattle.std.proofs.Common.{◌≡◌, ℕ, ◌<◌, ◌++◌, List, [], ◌∷◌, Option, Some, None, IfSome, sym, ap, ◌∙◌, subst, length, arith}
use Rattle.std.specs.Prelude.{is_some, option_map}
use Rattle.std.proofs.lemmas.List.Elements.{All-push, All-weaker}
use Rattle.blob_model.specs.Directory.{Directory, current}
use Rattle.blob_model.specs.Durable.{Durable}
use Rattle.blob_model.specs.Files.{Files, durable_at, log_of}
use Rattle.blob_model.specs.Opening.{opening, IsOpened, Continued, Begun}
use Rattle.blob_model.specs.Places.{Place}
use Rattle.blob_model.specs.Stands.{StandsAt}
use Rattle.blob_model.proofs.NameSteps.{read_by_open}
use Rattle.blob_model.proofs.Opened.{next_opened}
use Rattle.blob_faulty.specs.Wrapper.{inner_of as store_of, pending_of}
use Rattle.blob_memory.specs.Laws.{currents, current_below_next}
use Rattle.blob_memory.specs.Store.{directory, durable}
use Rattle.blob_lab_model.specs.Answers.{opened_size, opened_version}
use Rattle.blob_lab_store.specs.LabStands.{Wrapper}
use Rattle.blob_faulty.specs.Keeps.{IsFor}
use Rattle.blob_opens.specs.OpenNames.{Registration}
use Rattle.blob_lab_model.specs.States.{Held, AreGiven, held_on}

-- what is durable of a current incarnation is so of the files
pub live_is : (w : Wrapper) (f : Files) (o : Place) (live : List ℕ) → IsFor w f → durable (store_of w) o ≡ Some live → live ≡ durable_at f o
live_is w f o live s holds = (subst (λ (b : Option (List ℕ)). StandsAt b (pending_of (λ a. a) w o) (f.base o) (log_of f.log o)) holds (s.at o)).durable

-- the handle that is added
pub held_opened : (w : Wrapper) (f : Files) (p n : List ℕ) (o : Place) (live : List ℕ) (h : Held) (registration : Option Registration) → IsFor w f → current (directory (store_of w)) p n ≡ Some o → durable (store_of w) o ≡ Some live
    → h.place ≡ o → h.live ≡ live → h.size ≡ length live → h.registration ≡ registration → Some h ≡ option_map (held_on f registration) (current f.directory p n)
held_opened w f p n o live h registration s here holds place bytes size register =
    let at : current f.directory p n ≡ Some o = sym (ap (λ (d : Directory). current d p n) s.directory) ∙ here in
    let is : live ≡ durable_at f o = live_is w f o live s holds in
    let same : h ≡ held_on f registration o = λ i. record { place = place i; live = (bytes ∙ is) i; size = (size ∙ ap length is) i; registration = register i } in
    ap Some same ∙ sym (ap (option_map (held_on f registration)) at)

-- its size and version are those of what the open finds
pub size_found : (w : Wrapper) (f : Files) (d' : Directory) (bytes' : Durable) (p n : List ℕ) (first last : ℕ) (o : Place) (live : List ℕ) (version : ℕ) → IsFor w f → IsOpened (directory (store_of w)) (durable (store_of w)) d' bytes' p n first last o live version
    → length live ≡ opened_size f p n (opening p n ((directory (store_of w)).file p n) first last)
size_found w f d' bytes' p n first last o live version s (Continued number layout opens place holds same kept) =
    ap length (live_is w f o live s holds) ∙ ap (λ (a : Place). length (durable_at f a)) place ∙ sym (ap (opened_size f p n) opens)
size_found w f d' bytes' p n first last o live version s (Begun layout opens place made kept) = sym (ap (opened_size f p n) opens)

pub version_found : (d d' : Directory) (bytes bytes' : Durable) (p n : List ℕ) (first last : ℕ) (o : Place) (live : List ℕ) (version : ℕ) → IsOpened d bytes d' bytes' p n first last o live version → version ≡ opened_version (opening p n (d.file p n) first last)
version_found d d' bytes bytes' p n first last o live version (Continued number layout opens place holds same kept) = sym (ap opened_version opens)
version_found d d' bytes bytes' p n first last o live version (Begun layout opens place made kept) = sym (ap opened_version opens)

-- an incarnation with durable bytes has a number that was given
number_given : (w : Wrapper) (o : Place) (live : List ℕ) → durable (store_of w) o ≡ Some live → o.number < (directory (store_of w)).next
number_given w o live holds = current_below_next (store_of w).contents o (sym (currents (store_of w).contents o) ∙ ap is_some holds)

-- with it all handles are on incarnations that were made
pub given_opened : (w w' : Wrapper) (p n : List ℕ) (first last : ℕ) (o : Place) (live : List ℕ) (version : ℕ) (handles : List (Option Held)) (h : Held) → IsOpened (directory (store_of w)) (durable (store_of w)) (directory (store_of w')) (durable (store_of w')) p n first last o live version
    → h.place ≡ o → AreGiven (directory (store_of w)).next handles → AreGiven (directory (store_of w')).next (handles ++ Some h ∷ [])
given_opened w w' p n first last o live version handles h opens place before =
    let holds : durable (store_of w') o ≡ Some live = read_by_open (directory (store_of w)) (directory (store_of w')) (durable (store_of w)) (durable (store_of w')) p n first last o live version opens in
    All-push (λ slot. IfSome slot (λ g. g.place.number < (directory (store_of w')).next)) handles (Some h)
    (All-weaker (λ slot. IfSome slot (λ g. g.place.number < (directory (store_of w)).next)) (λ slot. IfSome slot (λ g. g.place.number < (directory (store_of w')).next)) weaker handles before)
    (subst (λ (a : Place). a.number < (directory (store_of w')).next) (sym place) (number_given w' o live holds))
  where
    weaker : (slot : Option Held) → IfSome slot (λ g. g.place.number < (directory (store_of w)).next) → IfSome slot (λ g. g.place.number < (directory (store_of w')).next)
    weaker None i = tt
    weaker (Some g) i = omega (arith, i, next_opened (directory (store_of w)) (directory (store_of w')) (durable (store_of w)) (durable (store_of w')) p n first last o live version opens)

-- existing handles stay on incarnations that were made
pub given_kept : (d d' : Directory) (bytes bytes' : Durable) (p n : List ℕ) (first last : ℕ) (o : Place) (live : List ℕ) (version : ℕ) (handles : List (Option Held)) → IsOpened d bytes d' bytes' p n first last o live version → AreGiven d.next handles → AreGiven d'.next handles
given_kept d d' bytes bytes' p n first last o live version handles opens before =
    All-weaker (λ slot. IfSome slot (λ g. g.place.number < d.next)) (λ slot. IfSome slot (λ g. g.place.number < d'.next)) weaker handles before
  where
    weaker : (slot : Option Held) → IfSome slot (λ g. g.place.number < d.next) → IfSome slot (λ g. g.place.number < d'.next)
    weaker None i = tt
    weaker (Some g) i = omega (arith, i, next_opened d d' bytes bytes' p n first last o live version opens)
