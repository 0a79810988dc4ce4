use Rattle.blob_memory.proofs.Kept.{lent, retained, refused_retained, retained_none}
use Rattle.blob_memory.proofs.storage.Storage.retain_write.Goals as goal

pub returns-in_err-write_chosen-clause-retained : goal.returns-in_err-write_chosen-clause-retained
returns-in_err-write_chosen-clause-retained c = refused_retained c.args.self.now _ (lent c.args.self.now.contents _ c.args.origin.now _ _ c.write_chosen.new.bytes c.in-Some.is c.bytes_mut.ensures.value (c.bytes_mut.follows.holds c.write_chosen.new.bytes))
    c.write_chosen.ensures.capacity _ _ c.from_residual-in_err-write_chosen.ensures.0 c.in_err-write_chosen.ensures.err

pub returns-in_default-clause-retained : goal.returns-in_default-clause-retained
returns-in_default-clause-retained c = retained_none c.args.self.now _ c.bytes_mut.follows.holds-at-none c.args.origin.now _ c.in_default.is c.bytes_mut.ensures.value _

pub returns-clause-retained : goal.returns-clause-retained
returns-clause-retained c = retained c.args.self.now _ (lent c.args.self.now.contents _ c.args.origin.now _ _ c.write_chosen.new.bytes c.in-Some.is c.bytes_mut.ensures.value (c.bytes_mut.follows.holds c.write_chosen.new.bytes))
    c.write_chosen.ensures.capacity _ c.in_ok-write_chosen.ensures.ok
