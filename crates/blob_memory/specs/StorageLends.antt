-- A memory store after a borrow of durable bytes ends.
use Rattle.std.specs.Prelude.{Option, IfSome}
use Rattle.std.specs.Borrow.{LendsSo, MutBor, Fml}
use Rattle.blob_model.specs.Places.{Place}
use Rattle.blob_memory.specs.declared.storage.Storage.{Storage}
use Rattle.blob_memory.specs.contracts.storage.Storage.{the_row}
use Rattle.blob_memory.specs.ItemLends.{bytes_row}
use Rattle.blob_memory.specs.Retained.{Retakes, IsAsBefore}
use Rattle.blob_pages.specs.Stored.{Stored}

-- the incarnation has the last bytes written through r; all else is unchanged
abbrev pub LendsKept : MutBor Storage → Place → Option (MutBor Stored) → Fml
LendsKept s o r = LendsSo the_row bytes_row s r (λ t w. IfSome r (λ b. Retakes s.now t o b.now w)) (λ t. IsAsBefore s.now t)
