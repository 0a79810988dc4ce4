use Rattle.std.proofs.Common.{◌≡◌, ◌<◌, ℕ, get_or, false, Some}
use Rattle.blob_pending.specs.declared.incarnation.Incarnation.{Incarnation}
use Rattle.blob_pending.specs.Lists.{is_removed_in}
use Rattle.blob_pending.proofs.naming.find_name_by_steps.Given as goal

abbrev pub invariant-loop-i : goal.invariant-loop-i
invariant-loop-i g l = (k : ℕ) (d : Incarnation g.row.S-Origin.Denot) → k < l.i → is_removed_in g.S.Durable.place (g.S.Durable.directory l.store) l.partition (Some l.name) (get_or l.lists k d) ≡ false
