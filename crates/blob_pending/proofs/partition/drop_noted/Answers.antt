use Rattle.std.proofs.Common.{rules, not}
use Rattle.std.proofs.lemmas.Fn.{filter_same}
use Rattle.blob_pending.proofs.partition.drop_noted.Goals as goal

pub returns : goal.returns
returns g c = filter_same _ (λ i. not i.ends) _ (λ x b f' h. search rules) _ _ c.retain.ensures.filtered
