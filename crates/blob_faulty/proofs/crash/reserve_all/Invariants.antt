use Rattle.std.proofs.Common.{◌≡◌, ℕ, ◌<◌, max, drop, get_or}
use Rattle.blob_model.specs.Places.{Place}
use Rattle.blob_pending.specs.declared.incarnation.Incarnation.{Incarnation}
use Rattle.blob_pending.specs.Lists.{held_by, lists_of}
use Rattle.blob_pending.specs.Replays.{most_zeros_of_all, widest_of_all}
use Rattle.blob_faulty.specs.Ready.{IsReady}
use Rattle.blob_memory.specs.Store.{directory, durable}
use Rattle.blob_faulty.proofs.crash.reserve_all.Given as goal

abbrev pub invariant-loop-list : goal.invariant-loop-list
invariant-loop-list l = record {
  ready : (k : ℕ) (d : Incarnation Place) → k < l.list-index → IsReady l.inner (held_by (λ o. o) (get_or l.lists k d));
  wide : max l.choices (widest_of_all (lists_of (λ o. o) (drop l.list-index l.lists))) ≡ widest_of_all (lists_of (λ o. o) l.lists);
  zeros : max l.zeros (most_zeros_of_all (lists_of (λ o. o) (drop l.list-index l.lists))) ≡ most_zeros_of_all (lists_of (λ o. o) l.lists);
  durable : durable l.inner ≡ durable l.fn.inner;
  directory : directory l.inner ≡ directory l.fn.inner;
}
