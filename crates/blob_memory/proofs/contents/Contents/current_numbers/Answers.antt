use Rattle.std.proofs.Common.{Vec, ℕ}
use Rattle.std.specs.Prelude.{Result, Ok, Err, IfOk}
use Rattle.std.specs.Global.{Global}
use Rattle.std.specs.declared.alloc.AllocError.{AllocError}
use Rattle.blob_base.specs.Names.{HasNumbers}
use Rattle.blob_memory.specs.Contents.{directory_of}
use Rattle.blob_memory.specs.Numbers.{HasItemNumbers}
use Rattle.blob_memory.proofs.Numbered.{has_numbers}
use Rattle.blob_memory.proofs.contents.Contents.current_numbers.Goals as goal

pub returns : goal.returns
returns c = at c.numbers.result c.numbers.ensures
  where
    at : (r : Result (Vec ℕ Global) AllocError) → IfOk r (λ numbers. HasItemNumbers c.args.self.now.partitions c.args.partition.now numbers.items) → IfOk r (λ numbers. HasNumbers (directory_of c.args.self.now) c.args.partition.now numbers.items)
    at (Ok numbers) has = has_numbers c.args.self.now c.args.partition.now numbers.items has
    at (Err e) has = has
