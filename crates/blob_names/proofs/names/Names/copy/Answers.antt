use Rattle.blob_names.proofs.Copies.{same_at}
use Rattle.blob_names.proofs.names.Names.copy.Goals as goal

pub returns : goal.returns
returns g c = λ i p n. same_at g.V.Clone.is_clone c.requires c.args.self.now.partitions c.in_ok-clone.field-0 c.in_ok-clone.ensures.cases p n i
