-- The open names of blobs, by the history of calls. In a list of calls the newest comes first.
use Rattle.std.specs.Prelude.{◌≡◌, ◌≢◌, ℕ, ◌+◌, ◌-◌, ◌^◌, List, [], ◌∷◌, ◌==◌, if◌then◌else◌, Option, Some, None, ◌<◌}
use Rattle.hex.specs.Hex.{encode_lower}
use Rattle.blob_header.specs.Refusals.{Refusal, BlobAlreadyOpen, GenerationsExhausted, Memory}
use Rattle.blob_names.specs.Names.{with_name, with_all_names}

-- an accepted open: the name, and a number that no other open gets
pub record Registration : Type 0 where
  pub partition : List ℕ
  pub name : List ℕ
  pub number : ℕ

pub record OpenNames : Type 0 where
  pub registered : List ℕ → List ℕ → Option ℕ  -- the number of the open that a name is held by
  pub next : ℕ  -- the next open's number

pub data Deed : Type 0 where
  Opened : List ℕ → List ℕ → Deed  -- an open of a name was accepted
  Closed : Registration → Deed  -- the handle of that open was closed
  Ended : List ℕ → Option (List ℕ) → Deed  -- a removal or replacement of a name succeeded, or with none of a whole partition
  Rebuilt : Deed  -- the store was rebuilt

-- a name held by the next number, which isn't counted yet
abbrev pub with_registration : OpenNames → List ℕ → List ℕ → OpenNames
with_registration s p n = record s { registered = with_name s.registered p n (Some s.next) }

abbrev pub open_name : OpenNames → List ℕ → List ℕ → OpenNames
open_name s p n = record { registered = with_name s.registered p n (Some s.next); next = s.next + 1 }

-- what holds a name, unless it is this open
abbrev pub unless_number : ℕ → Option ℕ → Option ℕ
unless_number k None = None
unless_number k (Some m) = if m == k then None else Some m

abbrev pub release : OpenNames → Registration → OpenNames
release s r = record { registered = with_name s.registered r.partition r.name (unless_number r.number (s.registered r.partition r.name)); next = s.next }

abbrev pub end_names : OpenNames → List ℕ → Option (List ℕ) → OpenNames
end_names s p n = record s { registered = elim n [ Some m ↦ with_name s.registered p m None | None ↦ with_all_names s.registered None p ] }

-- no name is open; numbers that were given aren't given again
abbrev pub none_open : ℕ → OpenNames
none_open next = record { registered = λ p n. None; next = next }

-- A name is open if an open of it was accepted and since then its handle wasn't closed, neither the name nor its
-- partition was ended, and the store wasn't rebuilt.
abbrev pub after_deeds : List Deed → OpenNames
after_deeds [] = none_open 0
after_deeds (Opened p n ∷ h) = open_name (after_deeds h) p n
after_deeds (Closed r ∷ h) = release (after_deeds h) r
after_deeds (Ended p n ∷ h) = end_names (after_deeds h) p n
after_deeds (Rebuilt ∷ h) = none_open (after_deeds h).next

-- no number is left for an open of a name that isn't open: the greatest is never given
pub record IsExhausted (s : OpenNames) (p n : List ℕ) : Type 0 where
  pub free : s.registered p n ≡ None
  pub last : s.next ≡ 2 ^ 64 - 1

-- What an open of a name may return. `asked` says that the store's own open returned this, `made` how an accepted one leaves
-- the store's files, `kept` how a rejected one does, and `untouched` that the store wasn't called.
pub data OpenAnswer (s : OpenNames) (p n : List ℕ) (asked : Option Refusal → Type 0) (made kept untouched : Type 0) : Option Refusal → Type 0 where
  Accepted : s.registered p n ≡ None → s.next < 2 ^ 64 - 1 → asked None → made → OpenAnswer s p n asked made kept untouched None
  -- the store is asked first, and what its open made stays
  Held : (number : ℕ) → s.registered p n ≡ Some number → asked None → made → OpenAnswer s p n asked made kept untouched (Some (BlobAlreadyOpen p (encode_lower n)))
  Declined : (refusal : Refusal) → (IsExhausted s p n → ⊥) → asked (Some refusal) → kept → OpenAnswer s p n asked made kept untouched (Some refusal)
  NoMemory : untouched → OpenAnswer s p n asked made kept untouched (Some Memory)
  NoNumber : IsExhausted s p n → untouched → OpenAnswer s p n asked made kept untouched (Some GenerationsExhausted)

-- the number of each open name is less than the next open's number
abbrev pub OpenNumbersAreBelowNext : Type 0
OpenNumbersAreBelowNext = (h : List Deed) (p n : List ℕ) (number : ℕ) → (after_deeds h).registered p n ≡ Some number
    → number < (after_deeds h).next

-- the close of a handle ends no open but its own
abbrev pub ClosesNoOther : Type 0
ClosesNoOther = (h : List Deed) (r : Registration) (p n : List ℕ) (number : ℕ) → (after_deeds h).registered p n ≡ Some number → number ≢ r.number
    → (after_deeds (Closed r ∷ h)).registered p n ≡ Some number
