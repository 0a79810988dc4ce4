-- The numbers of incarnations.
use Rattle.std.specs.Prelude.{◌≡◌, ℕ, ◌<◌, List, [], ◌∷◌, Contains, Option, None, Some, Vec}
use Rattle.std.specs.BTreeMap.{BTreeMap}
use Rattle.std.specs.Global.{Global}
use Rattle.blob_names.specs.Names.{value_at}
use Rattle.blob_memory.specs.declared.item.Item.{Item}
use Rattle.blob_memory.specs.declared.item.Item.TheVariants.{Raw, Held}
use Rattle.blob_memory.specs.declared.partitions.Partitions.{Partitions}
use Rattle.blob_memory.specs.Partitions.{item_at}

-- the number of an item's incarnation
abbrev pub item_number : Option Item → Option ℕ
item_number None = None
item_number (Some (Raw bytes)) = None
item_number (Some (Held h)) = Some h.number

-- each incarnation, current or ended, has a number below the next one
abbrev pub AreBelow : Partitions → ℕ → Type 0
AreBelow s next = (p n : List ℕ) (k : ℕ) → item_number (item_at s p n) ≡ Some k → k < next

-- the numbers of the incarnations among items
abbrev pub numbers_held : List Item → List ℕ
numbers_held [] = []
numbers_held (Raw bytes ∷ items) = numbers_held items
numbers_held (Held h ∷ items) = h.number ∷ numbers_held items

-- among these are the numbers of a map's incarnations
abbrev pub HasNumbersIn : BTreeMap (Vec ℕ Global) Item → List ℕ → Type 0
HasNumbersIn m numbers = (n : List ℕ) (k : ℕ) → item_number (value_at (λ k. k.items) m n) ≡ Some k → Contains numbers k

-- among these are the numbers of a partition's incarnations
abbrev pub HasItemNumbers : Partitions → List ℕ → List ℕ → Type 0
HasItemNumbers s p numbers = (n : List ℕ) (k : ℕ) → item_number (item_at s p n) ≡ Some k → Contains numbers k
