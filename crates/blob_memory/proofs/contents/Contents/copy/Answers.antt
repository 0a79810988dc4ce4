use Rattle.std.proofs.Common.{◌∙◌, refl, sym}
use Rattle.blob_memory.specs.Partitions.{item_at}
use Rattle.blob_memory.proofs.Directories.{same_directory}
use Rattle.blob_memory.proofs.Forks.{number_copied, file_copied, bytes_copied}
use Rattle.blob_memory.proofs.contents.Contents.copy.Goals as goal

pub invariant_of-result-clause-numbered : goal.invariant_of-result-clause-numbered
invariant_of-result-clause-numbered c = λ p n k e.
    let s = c.args.self.now in
    s.numbered p n k (sym (number_copied (item_at s.partitions p n) (item_at c.in_ok-copy.field-0 p n) (c.in_ok-copy.ensures.items p n)) ∙ e)

pub returns-clause-directory : goal.returns-clause-directory
returns-clause-directory c =
    let s = c.args.self.now in
    same_directory _ _ c.in_ok-copy.ensures.partitions (λ p n. file_copied s.first (item_at s.partitions p n) (item_at c.in_ok-copy.field-0 p n) (c.in_ok-copy.ensures.items p n)) refl

pub returns-clause-durable : goal.returns-clause-durable
returns-clause-durable c = λ i o.
    let s = c.args.self.now in
    bytes_copied s.first (item_at s.partitions o.partition o.name) (item_at c.in_ok-copy.field-0 o.partition o.name) o.number o.start (c.in_ok-copy.ensures.items o.partition o.name) i
