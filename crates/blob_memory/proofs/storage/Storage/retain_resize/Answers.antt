use Rattle.std.proofs.Common.{◌≡◌, ◌∙◌, ap, arith}
use Rattle.blob_model.specs.Bytes.{resize}
use Rattle.blob_memory.proofs.Kept.{lent, retained, refused_retained, retained_none}
use Rattle.blob_memory.proofs.storage.Storage.retain_resize.Goals as goal

pub returns-in_err-resize-clause-retained : goal.returns-in_err-resize-clause-retained
returns-in_err-resize-clause-retained c = refused_retained c.args.self.now _ (lent c.args.self.now.contents _ c.args.origin.now _ _ c.resize.new.bytes c.in-Some.is c.bytes_mut.ensures.value (c.bytes_mut.follows.holds c.resize.new.bytes))
    c.resize.ensures.capacity _ _ c.from_residual-in_err-resize.ensures.0 c.in_err-resize.ensures.err

pub returns-in_default-clause-retained : goal.returns-in_default-clause-retained
returns-in_default-clause-retained c = retained_none c.args.self.now _ c.bytes_mut.follows.holds-at-none c.args.origin.now _ c.in_default.is c.bytes_mut.ensures.value _

pub returns-clause-retained : goal.returns-clause-retained
returns-clause-retained c =
    let len : c.in_ok-len.len ≡ c.args.len = omega (arith, c.in_ok-len.ensures.end) in
    retained c.args.self.now _ (lent c.args.self.now.contents _ c.args.origin.now _ _ c.resize.new.bytes c.in-Some.is c.bytes_mut.ensures.value (c.bytes_mut.follows.holds c.resize.new.bytes))
    c.resize.ensures.capacity _ (c.in_ok-resize.ensures.ok ∙ ap (resize c.in-Some.durable.now.items) len)
