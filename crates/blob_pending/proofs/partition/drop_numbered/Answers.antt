use Rattle.std.proofs.Common.{rules, not, nat_eq}
use Rattle.std.proofs.lemmas.Fn.{filter_same}
use Rattle.blob_pending.proofs.partition.drop_numbered.Goals as goal

pub returns : goal.returns
returns g c = filter_same _ (λ i. not (nat_eq (g.S.Durable.place i.origin).number c.args.number)) _ (λ x b f' h. search rules) _ _ c.retain.ensures.filtered
