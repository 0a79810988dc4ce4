use Rattle.std.proofs.Common.{rules, arith}
use Rattle.blob_pending.specs.Views.{views}
use Rattle.blob_pending.proofs.Bounded.{none_by}
use Rattle.blob_pending.proofs.incarnation.Incarnation.new.Goals as goal

pub invariant_of-result : goal.invariant_of-result
invariant_of-result g c =
    let q = views c.new.result.items in
    record {
      dropped = λ k p l. absurd (omega arith);
      marked = search rules;
      barred = search rules;
      queued = search rules;
      bounded = (none_by 64 c.new-3.result.items q c.new-3.ensures.items, none_by 4096 c.new-4.result.items q c.new-4.ensures.items);
      counted = search rules;
    }
