use Rattle.std.proofs.Common.{◌≡◌, ◌<◌, ℕ, get_or, false}
use Rattle.blob_model.specs.Order.{ListAt}
use Rattle.blob_pending.specs.Lists.{lists_of, is_list_of}
use Rattle.blob_pending.proofs.lists.find_by_steps.Given as goal

abbrev pub invariant-loop-i : goal.invariant-loop-i
invariant-loop-i g l = (k : ℕ) (d : ListAt) → k < l.i → is_list_of (g.S.Durable.place l.origin) (get_or (lists_of g.S.Durable.place l.lists) k d) ≡ false
