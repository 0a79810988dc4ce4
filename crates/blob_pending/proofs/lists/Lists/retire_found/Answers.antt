use Rattle.std.proofs.Common.{Option, ℕ, subst}
use Rattle.blob_pending.specs.Lists.{IsListOf}
use Rattle.blob_pending.proofs.Removing.{retires_some, retires_none}
use Rattle.blob_pending.proofs.lists.Lists.retire_found.Goals as goal

pub returns-in-Some : goal.returns-in-Some
returns-in-Some g c d p n of = retires_some g.S.Durable.place c.args.self.now.all.lists.items c.take.new.self.all.lists.items c.in-Some.i d p n g.met.S.Durable.one_origin c.args.self.now.all.distinct c.take.ensures
    (subst (λ (list : Option ℕ). IsListOf g.S.Durable.place d p n c.args.self.now.all.lists.items list) c.in-Some.is of)

pub returns-in_default : goal.returns-in_default
returns-in_default g c d p n of = retires_none g.S.Durable.place c.args.self.now.all.lists.items d p n
    (subst (λ (list : Option ℕ). IsListOf g.S.Durable.place d p n c.args.self.now.all.lists.items list) c.in_default.is of)
