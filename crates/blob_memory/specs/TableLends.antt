-- A table after a borrow of a name's item or of its bytes ends.
use Rattle.std.specs.Prelude.{ℕ, List, Option, Some}
use Rattle.std.specs.Option.{OnSome}
use Rattle.std.specs.Borrow.{LendsSo, MutBor, Fml}
use Rattle.blob_memory.specs.declared.item.Item.{Item}
use Rattle.blob_memory.specs.contracts.item.Item.{the_row as item_row}
use Rattle.blob_memory.specs.declared.partitions.Partitions.{Partitions}
use Rattle.blob_memory.specs.contracts.partitions.Partitions.{the_row}
use Rattle.blob_memory.specs.ItemLends.{bytes_row}
use Rattle.blob_memory.specs.Partitions.{item_at, is_there, with_item, with_bytes_in, HasItems}
use Rattle.blob_pages.specs.Stored.{Stored}

-- the name has the last item written through r; all else is unchanged
abbrev pub LendsItem : MutBor Partitions → List ℕ → List ℕ → Option (MutBor Item) → Fml
LendsItem s p n r = LendsSo the_row item_row s r
    (λ t w. OnSome r (HasItems t (with_item (item_at s.now) p n (Some w)) (is_there s.now)))
    (λ t. HasItems t (item_at s.now) (is_there s.now))

-- the same for the logical bytes of its item
abbrev pub LendsBytesAt : MutBor Partitions → List ℕ → List ℕ → Option (MutBor Stored) → Fml
LendsBytesAt s p n r = LendsSo the_row bytes_row s r
    (λ t w. HasItems t (with_item (item_at s.now) p n (with_bytes_in (item_at s.now p n) w)) (is_there s.now))
    (λ t. HasItems t (item_at s.now) (is_there s.now))
