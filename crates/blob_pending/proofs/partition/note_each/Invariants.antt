use Rattle.std.proofs.Common.{◌≡◌, ◌<◌, ℕ, get_or, None}
use Rattle.blob_pending.specs.Lists.{lists_of, is_removed_in}
use Rattle.blob_pending.specs.declared.incarnation.Incarnation.{Incarnation}
use Rattle.blob_pending.proofs.partition.note_each.Given as goal

abbrev pub invariant-loop-list : goal.invariant-loop-list
invariant-loop-list g l = record {
  held : lists_of g.S.Durable.place l.lists ≡ lists_of g.S.Durable.place l.fn.lists;
  noted : (k : ℕ) (d : Incarnation g.row.S-Origin.Denot) → k < l.list-index → (get_or l.lists k d).ends ≡ is_removed_in g.S.Durable.place (g.S.Durable.directory l.store) l.partition None (get_or l.lists k d);
}
