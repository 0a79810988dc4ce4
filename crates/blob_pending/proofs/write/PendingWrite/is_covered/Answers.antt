use Rattle.std.proofs.Common.{arith}
use Rattle.blob_pending.specs.Views.{write_of}
use Rattle.blob_pending.proofs.Covered.{slice_one, slice_not, slice_other}
use Rattle.blob_pending.proofs.write.PendingWrite.is_covered.Goals as goal

pub returns-then-hole-self : goal.returns-then-hole-self
returns-then-hole-self c = slice_one (write_of c.args.self.now) _ _ _ _ c.args.self.now.some c.args.self.now.apart c.as_slice.ensures.value (omega arith) c.in-len1.len_at_least c.in-len1.len_below c.if-hole-self.true

pub returns-else-hole-self : goal.returns-else-hole-self
returns-else-hole-self c = slice_not (write_of c.args.self.now) _ _ _ c.args.self.now.some c.args.self.now.apart c.as_slice.ensures.value c.in-len1.len_at_least c.in-len1.len_below c.if-hole-self.false

pub returns-in_default-2 : goal.returns-in_default-2
returns-in_default-2 c = slice_other (write_of c.args.self.now) _ _ c.args.self.now.some c.args.self.now.apart c.as_slice.ensures.value c.in_default.len_at_least
