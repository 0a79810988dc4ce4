-- What calls leave of a store's current incarnations.
use Rattle.std.specs.Prelude.{◌≡◌, ◌&&◌, ◌<◌, ◌≤◌, [], List, ℕ, None, Option, Some, false, option_map, true}
use Rattle.std.specs.Str.{bytes_eq}
use Rattle.blob_model.specs.Directory.{is_current}
use Rattle.blob_model.specs.Files.{Files}
use Rattle.blob_model.specs.Log.{Choices}
use Rattle.blob_model.specs.Pending.{Pending}
use Rattle.blob_model.specs.Places.{Place, same_place}
use Rattle.blob_memory.specs.Store.{directory, durable}
use Rattle.blob_faulty.specs.Keeps.{IsFor, OverMemory}
use Rattle.blob_faulty.specs.Leaves.{LeavesOnly, Test}
use Rattle.blob_faulty.specs.Outcomes.{left_of}
use Rattle.blob_faulty.specs.Wrapper.{inner_of, pending_of}

-- an incarnation that was current still is
abbrev pub KeepsCurrent : {R : Type 0} → OverMemory R → OverMemory R → Type 0
KeepsCurrent before after = (o : Place) → is_current (directory (inner_of before)) o ≡ true → is_current (directory (inner_of after)) o ≡ true

-- one of any other name, too
abbrev pub KeepsOthers : {R : Type 0} → List ℕ → List ℕ → OverMemory R → OverMemory R → Type 0
KeepsOthers p n before after = (o : Place) → (bytes_eq p o.partition && bytes_eq n o.name) ≡ false
    → is_current (directory (inner_of before)) o ≡ true → is_current (directory (inner_of after)) o ≡ true

-- the same names have the same incarnations
abbrev pub SameDirectory : {R : Type 0} → OverMemory R → OverMemory R → Type 0
SameDirectory before after = directory (inner_of after) ≡ directory (inner_of before)

-- there is no blob of this name
abbrev pub HasNoBlob : {R : Type 0} → List ℕ → List ℕ → OverMemory R → Type 0
HasNoBlob p n store = (directory (inner_of store)).file p n ≡ None

-- a blob that begins gets the store's next number
abbrev pub BeginsNext : {R : Type 0} → List ℕ → List ℕ → OverMemory R → Place → Type 0
BeginsNext p n before o = HasNoBlob p n before → o.number ≡ (directory (inner_of before)).next

-- the durable bytes of any other name stay
abbrev pub KeepsBytes : {R : Type 0} → List ℕ → List ℕ → OverMemory R → OverMemory R → Type 0
KeepsBytes p n before after = (o : Place) → (bytes_eq p o.partition && bytes_eq n o.name) ≡ false → durable (inner_of after) o ≡ durable (inner_of before) o

-- an incarnation without durable bytes has these from then on
abbrev pub BeginsAs : {R : Type 0} → Place → List ℕ → OverMemory R → OverMemory R → Type 0
BeginsAs o bytes before after = durable (inner_of before) o ≡ Some [] → durable (inner_of after) o ≡ Some bytes

-- the store represents some files
abbrev pub Represents : {R : Type 0} → OverMemory R → Type 0
Represents store = (files : Files) × IsFor store files

-- if it did, it still does
abbrev pub KeepsFiles : {R : Type 0} → OverMemory R → OverMemory R → Type 0
KeepsFiles before after = Represents before → Represents after

-- the number of an incarnation was given in this store
abbrev pub IsGiven : {R : Type 0} → OverMemory R → Place → Type 0
IsGiven store o = o.number < (directory (inner_of store)).next

-- what is pending of an incarnation
abbrev pub pending_at : {R : Type 0} → OverMemory R → Place → List Pending
pending_at store o = pending_of (λ o. o) store o

-- nothing is pending that was not, and nothing is settled
abbrev pub SamePending : {R : Type 0} → OverMemory R → OverMemory R → Type 0
SamePending before after = (o : Place) → pending_at after o ≡ pending_at before o

-- the same of any other name
abbrev pub KeepsPending : {R : Type 0} → List ℕ → List ℕ → OverMemory R → OverMemory R → Type 0
KeepsPending p n before after = (o : Place) → (bytes_eq p o.partition && bytes_eq n o.name) ≡ false → pending_at after o ≡ pending_at before o

-- what a crash with these choices leaves of an incarnation
abbrev pub left_at : {R : Type 0} → OverMemory R → Choices → Place → Option (List ℕ)
left_at store t o = left_of (λ o. o) durable store t o

-- whatever a crash leaves of the incarnation is what it would have left before, changed so
abbrev pub LeftAs : {R : Type 0} → OverMemory R → OverMemory R → Place → (List ℕ → List ℕ) → Type 0
LeftAs before after o change = (t : Choices) → left_at after t o ≡ option_map change (left_at before t o)

-- these bytes are durable, and every crash leaves them
pub record IsFixed {R : Type 0} (store : OverMemory R) (o : Place) (bytes : List ℕ) : Type 0 where
  pub durable : durable (inner_of store) o ≡ Some bytes
  pub left : (t : Choices) → left_at store t o ≡ Some bytes

-- an incarnation with nothing durable and nothing pending
pub record IsEmpty {R : Type 0} (store : OverMemory R) (o : Place) : Type 0 where
  pub current : is_current (directory (inner_of store)) o ≡ true
  pub durable : durable (inner_of store) o ≡ Some []
  pub pending : pending_at store o ≡ []

-- has these bytes from then on
abbrev pub FixesBytes : {R : Type 0} → Place → List ℕ → OverMemory R → OverMemory R → Type 0
FixesBytes o bytes before after = Represents before → IsEmpty before o → IsFixed after o bytes

-- all that may be found of an incarnation, now or after any crash that the wrapper may draw, passes the test
abbrev pub FindsOnly : {R : Type 0} → OverMemory R → Place → Test → Type 0
FindsOnly store o test = LeavesOnly (λ o. o) directory durable store o test

-- of each incarnation no more may be found than before
abbrev pub FindsNoMore : {R : Type 0} → OverMemory R → OverMemory R → Type 0
FindsNoMore before after = (o : Place) (test : Test) → FindsOnly before o test → FindsOnly after o test

-- of each of any other name
abbrev pub FindsNoMoreBeside : {R : Type 0} → List ℕ → List ℕ → OverMemory R → OverMemory R → Type 0
FindsNoMoreBeside p n before after = (o : Place) (test : Test) → (bytes_eq p o.partition && bytes_eq n o.name) ≡ false → FindsOnly before o test → FindsOnly after o test

-- of each incarnation but this one, whose number was given
abbrev pub FindsNoMoreBut : {R : Type 0} → Place → OverMemory R → OverMemory R → Type 0
FindsNoMoreBut a before after = IsGiven before a → (o : Place) (test : Test) → same_place a o ≡ false → FindsOnly before o test → FindsOnly after o test

-- no number that was given is given again
abbrev pub KeepsNext : {R : Type 0} → OverMemory R → OverMemory R → Type 0
KeepsNext before after = (directory (inner_of before)).next ≤ (directory (inner_of after)).next
