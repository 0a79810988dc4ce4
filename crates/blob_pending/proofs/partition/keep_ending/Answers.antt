use Rattle.std.proofs.Common.{rules}
use Rattle.std.proofs.lemmas.Fn.{filter_same}
use Rattle.blob_pending.specs.Partition.{ends_number}
use Rattle.blob_pending.proofs.partition.keep_ending.Goals as goal

pub returns : goal.returns
returns g c = filter_same _ (ends_number g.S.Durable.place (g.S.Durable.directory c.args.store.now) c.args.partition.now c.args.lists.now) _ (λ x b f' h. search (rules, c.requires)) _ _ c.retain.ensures.filtered
