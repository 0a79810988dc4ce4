use Rattle.std.proofs.Common.{refl, Some, ap}
use Rattle.blob_memory.specs.declared.item.Item.TheVariants.{Raw}
use Rattle.blob_memory.specs.Partitions.{item_at}
use Rattle.blob_memory.specs.Contents.{file_of}
use Rattle.blob_memory.proofs.ByBytes.{on_err}
use Rattle.blob_memory.proofs.Directories.{same_directory, file_after, durable_placed, durable_same}
use Rattle.blob_memory.proofs.contents.Contents.set_raw.Goals as goal

pub returns-in_err-put-clause-err : goal.returns-in_err-put-clause-err
returns-in_err-put-clause-err c = on_err _ (same_directory _ _ c.in_err-put.ensures.unmade (λ q m. ap (file_of c.args.self.now.first) (c.in_err-put.ensures.err q m)) refl)

pub returns-clause-directory : goal.returns-clause-directory
returns-clause-directory c = same_directory _ _ c.in_ok-put.ensures.made
    (file_after c.args.self.now.first (item_at c.args.self.now.partitions) (item_at c.put.new.self) c.args.partition.now c.args.name.now (Some (Raw c.args.bytes)) c.in_ok-put.ensures.ok) refl

pub returns-in_err-put-clause-err_durable : goal.returns-in_err-put-clause-err_durable
returns-in_err-put-clause-err_durable c = on_err _ (durable_same c.args.self.now.first (item_at c.args.self.now.partitions) (item_at c.put.new.self) c.in_err-put.ensures.err)

pub returns-clause-durable : goal.returns-clause-durable
returns-clause-durable c = durable_placed c.args.self.now.first (item_at c.args.self.now.partitions) (item_at c.put.new.self) c.args.partition.now c.args.name.now (Some (Raw c.args.bytes)) c.in_ok-put.ensures.ok (λ _ _. refl)
