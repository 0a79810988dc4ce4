use Rattle.blob_pending.specs.Lists.{lists_of}
use Rattle.blob_pending.proofs.Taking.{no_list}
use Rattle.blob_pending.proofs.lists.Lists.retire.Goals as goal

pub returns-in-Some : goal.returns-in-Some
returns-in-Some g c = c.take.ensures (g.S.Durable.place c.args.origin.now) c.in-Some.ensures.some

pub returns-in_default : goal.returns-in_default
returns-in_default g c a = no_list (lists_of g.S.Durable.place c.args.self.now.all.lists.items) (g.S.Durable.place c.args.origin.now) a c.in_default.ensures.none
