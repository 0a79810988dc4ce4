-- An item after a borrow of its logical bytes ends.
use denote.RattleType.{RattleType}
use Rattle.std.specs.Prelude.{Option}
use Rattle.std.specs.Borrow.{LendsIf, MutBor, Fml}
use Rattle.blob_pages.specs.contracts.bytes.Bytes as bytes
use Rattle.blob_memory.specs.declared.item.Item.{Item}
use Rattle.blob_memory.specs.contracts.item.Item.{the_row}
use Rattle.blob_memory.specs.Partitions.{with_bytes}
use Rattle.blob_pages.specs.Stored.{Stored}

-- the type of bytes in the logic
abbrev pub bytes_row : RattleType
bytes_row = bytes.the_row

-- the item has the last bytes written through r, or is unchanged
abbrev pub LendsBytes : MutBor Item → Option (MutBor Stored) → Fml
LendsBytes s r = LendsIf the_row bytes_row s r (with_bytes s.now) s.now
