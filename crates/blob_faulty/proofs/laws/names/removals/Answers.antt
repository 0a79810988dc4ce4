use Rattle.std.proofs.Common.{refl}
use Rattle.blob_faulty.proofs.Naming.{removed_steps, same_steps}
use Rattle.blob_faulty.proofs.laws.names.removals.Goals as goal

pub returns-clause-accepted : goal.returns-clause-accepted
returns-clause-accepted g c = λ before after p n named kept left.
    removed_steps g.S.Durable.place g.S.Durable.directory g.S.Durable.durable before after p n (g.met.S.Durable.currents (before.inner)) named kept (left.retired refl) left.numbers

pub returns-clause-refused : goal.returns-clause-refused
returns-clause-refused g c = λ before after p n r named kept left.
    same_steps g.S.Durable.place g.S.Durable.directory g.S.Durable.durable before after named kept (record { pending = left.kept refl; numbers = left.numbers })
