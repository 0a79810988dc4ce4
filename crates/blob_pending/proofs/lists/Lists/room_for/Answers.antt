use Rattle.blob_pending.proofs.Owning.{found_map}
use Rattle.blob_pending.proofs.lists.Lists.room_for.Goals as goal

pub invariant_of-self : goal.invariant_of-self
invariant_of-self g c = found_map g.S.Durable.place c.self.inside.all.lists.items c.self.inside.numbers.keys c.self.inside.searched _ _ c.self.inside.unmapped c.reserve_owner.ensures c.self.invariant

pub invariant_of-self-2 : goal.invariant_of-self-2
invariant_of-self-2 g c = found_map g.S.Durable.place c.self.inside.all.lists.items c.self.inside.numbers.keys c.self.inside.searched _ _ c.self.inside.unmapped c.reserve_owner.ensures c.self.invariant
