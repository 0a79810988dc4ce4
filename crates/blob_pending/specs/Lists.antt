-- The pending lists of the incarnations, each by its place.
use Rattle.std.specs.Prelude.{◌≡◌, ◌≢◌, AllPairs, ℕ, ◌<◌, List, [], ◌∷◌, ◌++◌, cond, Bool, true, false, length, map, Option, None, Some, vec_len, vec_capacity}
use Rattle.std.proofs.Common.{get_or}
use Rattle.blob_model.specs.Directory.{Directory}
use Rattle.blob_model.specs.Durable.{with_at}
use Rattle.blob_model.specs.Places.{Place, same_place}
use Rattle.blob_model.specs.Pending.{Pending, finish, has_barrier, apply_durable}
use Rattle.blob_model.specs.Order.{ListAt, held_at}
use Rattle.blob_model.specs.Files.{is_removed_by}
use Rattle.blob_model.specs.Holes.{Holes}
use Rattle.blob_pending.specs.Rooms.{AreWithin, HasRoomsFor}
use Rattle.blob_pending.specs.Views.{left_in}
use Rattle.blob_pending.specs.declared.entry.Entry.{Entry}
use Rattle.blob_pending.specs.declared.incarnation.Incarnation.{Incarnation}
use Rattle.blob_pending.specs.declared.room.Room.{Room}
use Rattle.blob_pending.specs.declared.room.Room.TheVariants as room

abbrev pub held_by : {O : Type 0} → (O → Place) → Incarnation O → ListAt
held_by place i = (place i.origin, left_in i.entries.items)

abbrev pub lists_of : {O : Type 0} → (O → Place) → List (Incarnation O) → List ListAt
lists_of place is = map (held_by place) is

-- the pending list of an incarnation, empty if it has none
abbrev pub list_of : {O : Type 0} → (O → Place) → List (Incarnation O) → Place → List Pending
list_of place is = held_at (lists_of place is)

abbrev pub is_list_of : Place → ListAt → Bool
is_list_of o h = same_place h.0 o

-- a list that queues a durable range of these bytes is handed them
abbrev pub IsCopyFor : List ℕ → List Pending → List ℕ → Type 0
IsCopyFor copy list bytes = has_barrier list ≡ true → copy ≡ bytes

-- the list at i is the first of an incarnation
pub record IsAt (hs : List ListAt) (i : ℕ) (o : Place) : Type 0 where
  pub inside : i < length hs
  pub here : (d : ListAt) → is_list_of o (get_or hs i d) ≡ true
  pub before : (k : ℕ) (d : ListAt) → k < i → is_list_of o (get_or hs k d) ≡ false

-- no two lists have one origin
abbrev pub AreDistinct : {O : Type 0} → List (Incarnation O) → Type 0
AreDistinct is = AllPairs (λ a b. a.origin ≢ b.origin) is

-- an incarnation's list can take this
abbrev pub HasRoom : {O : Type 0} → Room → Incarnation O → Type 0
HasRoom room.Entry i = vec_len i.entries < vec_capacity i.entries
HasRoom room.Mark i = (vec_len i.entries < vec_capacity i.entries) × (vec_len i.marks.numbers < vec_capacity i.marks.numbers)
HasRoom (room.Ranges start end count) i = (hs : Holes) → AreWithin start end count hs → HasRoomsFor hs i.entries

-- this is left in it, and it is of the same incarnation
pub record Becomes {O : Type 0} (old new : Incarnation O) (q : List Pending) : Type 0 where
  pub origin : new.origin ≡ old.origin
  pub noted : new.ends ≡ old.ends
  pub entries : left_in new.entries.items ≡ q

-- the same of an incarnation's list
abbrev pub LaysInto : {O : Type 0} → ℕ → ℕ → List ℕ → Incarnation O → Incarnation O → Type 0
LaysInto offset n copy old new = (bytes : List ℕ) → length bytes ≡ n → IsCopyFor copy (left_in old.entries.items) bytes → Becomes old new (apply_durable offset bytes (left_in old.entries.items))

-- there is a list at i, and it has this capacity
pub record HasRoomIn {O : Type 0} (is : List (Incarnation O)) (i : ℕ) (what : Room) : Type 0 where
  pub inside : i < length is
  pub room : (d : Incarnation O) → HasRoom what (get_or is i d)

-- it is that of an incarnation
pub record IsRoomAt {O : Type 0} (place : O → Place) (is : List (Incarnation O)) (i : ℕ) (o : Place) (what : Room) : Type 0 where
  pub at : IsAt (lists_of place is) i o
  pub here : HasRoomIn is i what

-- what is pending of each incarnation stays
abbrev pub SameLists : {O : Type 0} → (O → Place) → List (Incarnation O) → List (Incarnation O) → Type 0
SameLists place old new = (o : Place) → list_of place new o ≡ list_of place old o

-- the list at i alone is another, by whichever incarnation it is of
abbrev pub ChangesAt : {O : Type 0} → (O → Place) → List (Incarnation O) → List (Incarnation O) → ℕ → (List Pending → List Pending) → Type 0
ChangesAt place old new i change = (o : Place) → IsAt (lists_of place old) i o → (a : Place) → list_of place new a ≡ with_at (list_of place old) o (change (list_of place old o)) a

-- what is left of an entry is appended to the list there
abbrev pub AppendsAt : {O : Type 0} → (O → Place) → List (Incarnation O) → List (Incarnation O) → ℕ → Entry → Type 0
AppendsAt place old new i entry = ChangesAt place old new i (λ q. q ++ left_in (entry ∷ []))

-- the list at i, of any incarnation, gets these bytes if it queues a durable range of them
abbrev pub IsCopyAt : {O : Type 0} → (O → Place) → List (Incarnation O) → ℕ → List ℕ → List ℕ → Type 0
IsCopyAt place is i bytes copy = (o : Place) → IsAt (lists_of place is) i o → IsCopyFor copy (list_of place is o) bytes

-- the lists after a durable range in the list at i; `copy` has its bytes if it is queued there
abbrev pub LaysAt : {O : Type 0} → (O → Place) → List (Incarnation O) → List (Incarnation O) → ℕ → ℕ → ℕ → List ℕ → Type 0
LaysAt place old new i offset len copy = (o : Place) → IsAt (lists_of place old) i o → (bytes : List ℕ) → length bytes ≡ len → IsCopyFor copy (list_of place old o) bytes
    → (a : Place) → list_of place new a ≡ with_at (list_of place old) o (apply_durable offset bytes (list_of place old o)) a

-- the list at i is of the same incarnation as before
abbrev pub StaysAt : {O : Type 0} → (O → Place) → List (Incarnation O) → List (Incarnation O) → ℕ → Type 0
StaysAt place old new i = (o : Place) → IsAt (lists_of place old) i o → IsAt (lists_of place new) i o

-- the list at i can take these durable ranges
abbrev pub HasRangesAt : {O : Type 0} → List (Incarnation O) → ℕ → Holes → Type 0
HasRangesAt {O} is i hs = (d : Incarnation O) → HasRoomsFor hs (get_or is i d).entries

-- one list after a started sync is finished
abbrev pub finished_in : ℕ → ListAt → ListAt
finished_in marker h = (h.0, finish marker h.1)

-- nothing is pending of this incarnation, and of the others the same
abbrev pub RetiresList : {O : Type 0} → (O → Place) → List (Incarnation O) → List (Incarnation O) → Place → Type 0
RetiresList place old new o = (a : Place) → list_of place new a ≡ with_at (list_of place old) o [] a

-- nothing is pending of the incarnation of the list at i, and of the others the same
abbrev pub TakesList : {O : Type 0} → (O → Place) → List (Incarnation O) → List (Incarnation O) → ℕ → Type 0
TakesList place old new i = (o : Place) → IsAt (lists_of place old) i o → RetiresList place old new o

-- the started sync with this marker is finished in each list
abbrev pub FinishesLists : {O : Type 0} → (O → Place) → List (Incarnation O) → List (Incarnation O) → ℕ → Type 0
FinishesLists place old new marker = (o : Place) → list_of place new o ≡ finish marker (list_of place old o)

-- nothing is pending of the incarnations that a removal of this name ends, or with None of this partition; of others the same
abbrev pub RetiresRemoved : {O : Type 0} → (O → Place) → Directory → List ℕ → Option (List ℕ) → List (Incarnation O) → List (Incarnation O) → Type 0
RetiresRemoved place d p n old new = (a : Place) → list_of place new a ≡ cond (is_removed_by d p n a) [] (list_of place old a)

-- whether a removal ends a list's incarnation
abbrev pub is_removed_in : {O : Type 0} → (O → Place) → Directory → List ℕ → Option (List ℕ) → Incarnation O → Bool
is_removed_in place d p n i = is_removed_by d p n (place i.origin)

-- the list at i is of the incarnation that a removal of this name ends, or with None no list is
abbrev pub IsListOf : {O : Type 0} → (O → Place) → Directory → List ℕ → List ℕ → List (Incarnation O) → Option ℕ → Type 0
IsListOf {O} place d p n is (Some i) = (i < length is) × ((e : Incarnation O) → is_removed_in place d p (Some n) (get_or is i e) ≡ true)
IsListOf {O} place d p n is None = (k : ℕ) (e : Incarnation O) → k < length is → is_removed_in place d p (Some n) (get_or is k e) ≡ false

-- nothing is pending of the incarnation of this name whose list that is, if a list is; of the others the same
abbrev pub RetiresName : {O : Type 0} → (O → Place) → List (Incarnation O) → List (Incarnation O) → Option ℕ → Type 0
RetiresName place old new list = (d : Directory) (p n : List ℕ) → IsListOf place d p n old list → RetiresRemoved place d p (Some n) old new

-- the list at i is of an incarnation and can take these durable ranges
pub record HasRoomAt {O : Type 0} (place : O → Place) (is : List (Incarnation O)) (i : ℕ) (o : Place) (hs : Holes) : Type 0 where
  pub at : IsAt (lists_of place is) i o
  pub inside : i < length is
  pub ranges : HasRangesAt is i hs
