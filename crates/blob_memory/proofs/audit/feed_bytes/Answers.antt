use Rattle.std.proofs.Common.{◌≡◌, ◌∙◌, ◌++◌, ◌+◌, ℕ, drop, ap, arith, length, take, subst, append_assoc}
use Rattle.blob_header.specs.Register.{HasTaken}
use Rattle.blob_memory.proofs.Parts.{part_behind}
use Rattle.blob_memory.proofs.audit.feed_bytes.Goals as goal

from : (d : ℕ) → d ≡ 0 + d
from d = omega arith

pub loop-done-preserved : goal.loop-done-preserved
loop-done-preserved c = record {
  within = omega arith;
  fed = λ before h. subst (HasTaken c.update.new.self)
      (append_assoc before (take c.loop-done.done c.args.bytes.now.items) c.part-part.result.now ∙ ap (λ l. before ++ l) (part_behind c.args.bytes.now.items c.part-part.result.now 0 c.loop-done.done (length c.part-part.result.now) (c.part-part.ensures.part ∙ ap (λ k. take (length c.part-part.result.now) (drop k c.args.bytes.now.items)) (from c.loop-done.done))))
      (c.update.ensures (before ++ take c.loop-done.done c.args.bytes.now.items) (c.loop-done.invariant.fed before h));
}
