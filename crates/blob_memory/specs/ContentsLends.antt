-- The contents after a borrow of durable bytes ends.
use Rattle.std.specs.Prelude.{◌≡◌, Option, Some}
use Rattle.std.specs.Option.{OnSome}
use Rattle.std.specs.Borrow.{LendsSo, MutBor, Fml}
use Rattle.blob_model.specs.Durable.{with_at}
use Rattle.blob_model.specs.Places.{Place}
use Rattle.blob_memory.specs.declared.contents.Contents.{Contents}
use Rattle.blob_memory.specs.contracts.contents.Contents.{the_row}
use Rattle.blob_memory.specs.Contents.{directory_of, vec_at}
use Rattle.blob_memory.specs.ItemLends.{bytes_row}
use Rattle.blob_pages.specs.Stored.{Stored}

-- the same files, with these durable bytes
pub record HasVecs (s t : Contents) (vec : Place → Option Stored) : Type 0 where
  pub vecs : (o : Place) → vec_at t o ≡ vec o
  pub directory : directory_of t ≡ directory_of s

-- the incarnation has the last bytes written through r; all else is unchanged
abbrev pub LendsDurable : MutBor Contents → Place → Option (MutBor Stored) → Fml
LendsDurable s o r = LendsSo the_row bytes_row s r
    (λ t w. OnSome r (HasVecs s.now t (with_at (vec_at s.now) o (Some w))))
    (λ t. HasVecs s.now t (vec_at s.now))
