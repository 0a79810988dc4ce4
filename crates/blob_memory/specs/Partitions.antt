-- The partitions of a store, their names and items.
use Rattle.std.specs.Prelude.{◌≡◌, ℕ, List, map, Bool, cond, Option, None, Some, is_some, Vec}
use Rattle.std.specs.BTreeMap.{BTreeMap}
use Rattle.std.specs.Global.{Global}
use Rattle.std.specs.Str.{bytes_eq}
use Rattle.std.specs.String.{string_bytes}
use Rattle.blob_memory.specs.declared.item.Item.{Item}
use Rattle.blob_memory.specs.declared.item.Item.TheVariants.{Raw, Held}
use Rattle.blob_memory.specs.declared.partitions.Partitions.{Partitions}
use Rattle.blob_base.specs.Names.{AreNames}
use Rattle.blob_model.specs.Directory.{with_partition}
use Rattle.blob_names.specs.Names.{value_at, below}
use Rattle.blob_pages.specs.Stored.{Stored}

-- the item of a name in a partition
abbrev pub item_at : Partitions → List ℕ → List ℕ → Option Item
item_at s p n = below (value_at (λ k. k.items)) (value_at string_bytes s.names p) n

-- whether a partition exists
abbrev pub is_there : Partitions → List ℕ → Bool
is_there s p = is_some (value_at string_bytes s.names p)

-- the items after one name's item is set, or removed by None
abbrev pub with_item : (List ℕ → List ℕ → Option Item) → List ℕ → List ℕ → Option Item → List ℕ → List ℕ → Option Item
with_item f p n item q m = cond (bytes_eq p q) (cond (bytes_eq n m) item (f q m)) (f q m)

-- the items after a partition is removed
abbrev pub without_partition : (List ℕ → List ℕ → Option Item) → List ℕ → List ℕ → List ℕ → Option Item
without_partition f p q m = cond (bytes_eq p q) None (f q m)

-- an item with these logical bytes, if it is an incarnation
abbrev pub with_bytes : Item → Stored → Item
with_bytes (Raw bytes) new = Raw bytes
with_bytes (Held h) new = Held (record { number = h.number; layout = h.layout; version = h.version; bytes = new })

-- the same, if there is an item
abbrev pub with_bytes_in : Option Item → Stored → Option Item
with_bytes_in None new = None
with_bytes_in (Some item) new = Some (with_bytes item new)

-- a table has exactly these items and partitions
pub record HasItems (s : Partitions) (item : List ℕ → List ℕ → Option Item) (there : List ℕ → Bool) : Type 0 where
  pub items : (p n : List ℕ) → item_at s p n ≡ item p n
  pub partitions : (p : List ℕ) → is_there s p ≡ there p

-- one name's item is set, or removed by None; all others are unchanged
abbrev pub SetsItem : Partitions → Partitions → List ℕ → List ℕ → Option Item → Type 0
SetsItem s t p n item = (q m : List ℕ) → item_at t q m ≡ with_item (item_at s) p n item q m

-- one partition is added or removed; all others are unchanged
abbrev pub SetsPartition : Partitions → Partitions → List ℕ → Bool → Type 0
SetsPartition s t p there = (q : List ℕ) → is_there t q ≡ with_partition (is_there s) p there q

-- all names of a partition, sorted
abbrev pub AreItemNames : Partitions → List ℕ → List (Vec ℕ Global) → Type 0
AreItemNames s p names = AreNames (map (λ n. n.items) names) (λ n. is_some (item_at s p n))

-- all keys of a map, sorted
abbrev pub AreKeys : BTreeMap (Vec ℕ Global) Item → List (Vec ℕ Global) → Type 0
AreKeys m keys = AreNames (map (λ n. n.items) keys) (λ n. is_some (value_at (λ k. k.items) m n))
