-- Steps of the open names that leave them, and what holds of all that are reached.
use Rattle.std.proofs.Common.{◌≡◌, ℕ, ◌-◌, ◌^◌, ◌⊎◌, List, true, false, Option, Some, None, is_some, refl, sym, ap, ◌∙◌, if◌then◌else◌, nat_eq, ⊎_elim}
use Rattle.std.specs.Option.{option_eq}
use Rattle.blob_model.specs.Directory.{Directory}
use Rattle.blob_model.specs.Durable.{Durable}
use Rattle.blob_model.specs.Opening.{IsOpened}
use Rattle.blob_model.specs.Places.{Place}
use Rattle.blob_names.specs.Names.{with_name}
use Rattle.std.proofs.lemmas.Bool.{false≢true}
use Rattle.hex.specs.Hex.{encode_lower}
use Rattle.blob_header.specs.Refusals.{Refusal, BlobAlreadyOpen, GenerationsExhausted, Memory}
use Rattle.blob_opens.specs.OpenNames.{OpenNames, Registration, release, end_names, unless_number, OpenAnswer, Held, NoMemory, NoNumber}
use Rattle.blob_opens.specs.Opens.{IsMade}
use Rattle.blob_names.proofs.NameMaps.{with_at_same, with_at_twice}

unless_other : (k : ℕ) (o : Option ℕ) → option_eq nat_eq o (Some k) ≡ false → unless_number k o ≡ o
unless_other k None e = refl
unless_other k (Some m) e = ap (λ b. if b then None else Some m) e

-- the close of a handle after its open was ended
pub closed_other : (s : OpenNames) (r : Registration) → option_eq nat_eq (s.registered r.partition r.name) (Some r.number) ≡ false → release s r ≡ s
closed_other s r e = ap (λ f. record s { registered = f }) (ap (with_name s.registered r.partition r.name) (unless_other r.number (s.registered r.partition r.name) e) ∙ with_at_same s.registered r.partition r.name)

-- a registration that is taken back
pub taken_back : (s : OpenNames) (p n : List ℕ) (x : Option ℕ) → s.registered p n ≡ None → end_names (record s { registered = with_name s.registered p n x }) p (Some n) ≡ s
taken_back s p n x e = ap (λ f. record s { registered = f }) (with_at_twice s.registered p n x None ∙ sym (ap (with_name s.registered p n) e) ∙ with_at_same s.registered p n)

module _ (s : OpenNames) (p n : List ℕ) (asked : Option Refusal → Type 0) (made kept untouched : Type 0) where
  is_held : (o : Option ℕ) → is_some o ≡ true → s.registered p n ≡ o → asked None → made → OpenAnswer s p n asked made kept untouched (Some (BlobAlreadyOpen p (encode_lower n)))
  is_held None e h a m = absurd (false≢true e)
  is_held (Some k) e h a m = Held k h a m

  -- the store accepted an open of a name that is open
  pub held : (refusal : Refusal) → is_some (s.registered p n) ≡ true → refusal ≡ BlobAlreadyOpen p (encode_lower n) → asked None → made → OpenAnswer s p n asked made kept untouched (Some refusal)
  held refusal e is a m = rw is (is_held (s.registered p n) e refl a m)

  -- no registration could be made
  pub unregistered : (refusal : Refusal) → (refusal ≡ Memory) ⊎ ((refusal ≡ GenerationsExhausted) × (s.next ≡ 2 ^ 64 - 1)) → s.registered p n ≡ None → untouched → OpenAnswer s p n asked made kept untouched (Some refusal)
  unregistered refusal why free u = ⊎_elim (λ e. rw e (NoMemory u)) (λ (e, last). rw e (NoNumber (record { free = free; last = last }) u)) why

pub is_made : {d d' : Directory} {durable durable' : Durable} {p n : List ℕ} {first last : ℕ} {place : Place} {live : List ℕ} {version : ℕ}
    → IsOpened d durable d' durable' p n first last place live version → IsMade d durable d' durable' p n first last
is_made {place} {live} {version} is = record { place = place; live = live; version = version; is = is }
