-- The numbers of journals and of their blobs.
use Rattle.std.proofs.Common.{◌≡◌, ◌≤◌, ap, arith}
use Rattle.blob_model.specs.Places.{Place}
use Rattle.blob_memory.specs.Store.{place}
use Rattle.blob_faulty.specs.Wrapper.{inside}
use Rattle.blob_journal.specs.declared.journal.Journal.{Journal}

-- a journal with the same blob and the same generation
pub still_numbered : (before after : Journal) → place (inside after.blob) ≡ place (inside before.blob) → after.generation ≡ before.generation
    → before.generation ≤ (place (inside before.blob)).number → after.generation ≤ (place (inside after.blob)).number
still_numbered before after at same below =
    let number : (place (inside after.blob)).number ≡ (place (inside before.blob)).number = ap (λ (o : Place). o.number) at in
    omega (arith, number, same, below)
