use Rattle.std.proofs.Common.{◌≡◌, refl, List, ℕ}
use Rattle.blob_model.specs.Places.{Place}
use Rattle.blob_memory.specs.Store.{directory, durable}
use Rattle.blob_faulty.specs.Keeps.{OverMemory, LosesNothing}
use Rattle.blob_faulty.specs.Names.{Steps}
use Rattle.blob_faulty.specs.Wrapper.{KeepsRecords, inner_of}
use Rattle.blob_faulty.proofs.Adding.{keeps_stands}
use Rattle.blob_faulty.proofs.Keeping.{keeps_same}
use Rattle.blob_faulty.proofs.fork.Storage+blob_memory+Storage+R.fork.Goals as goal

-- two wrappers over the same files, with the same records
module _ {R : Type 0} (old new : OverMemory R) (names : directory (inner_of new) ≡ directory (inner_of old)) (same : durable (inner_of new) ≡ durable (inner_of old)) (records : KeepsRecords (λ (a : Place). a) old new) where
  stands : Steps (λ (a : Place). a) directory durable old new (λ files. files)
  stands files f = keeps_stands (λ (a : Place). a) _ _ _ _ old new files names same records f

  keeps : LosesNothing old new
  keeps o bytes k = keeps_same (λ (a : Place). a) directory durable old new o bytes names k stands

pub returns-clause-records : goal.returns-clause-records
returns-clause-records g c = record { pending = c.in_ok-copy.ensures; numbers = record { next_write = refl; next_marker = refl; config = refl } }

pub returns-clause-files : goal.returns-clause-files
returns-clause-files g c = stands c.args.self.now _ c.in_ok-fork.ensures.directory c.in_ok-fork.ensures.durable (returns-clause-records g c)

pub returns-clause-keeps : goal.returns-clause-keeps
returns-clause-keeps g c = keeps c.args.self.now _ c.in_ok-fork.ensures.directory c.in_ok-fork.ensures.durable (returns-clause-records g c)
