use Rattle.std.proofs.Common.{◌≡◌, drop, false}
use Rattle.blob_model.specs.Draws.{chosen_by}
use Rattle.blob_model.specs.Order.{ArePlacesApart}
use Rattle.blob_model.specs.Pending.{has_marker, replay}
use Rattle.blob_model.specs.Places.{Place}
use Rattle.blob_pending.specs.Views.{left_in}
use Rattle.blob_model.specs.Stands.{replayed_at}
use Rattle.blob_pending.specs.Lists.{lists_of, list_of}
use Rattle.std.specs.Prelude.{◌≤◌, vec_capacity}
use Rattle.blob_memory.specs.Retained.{KeepsRoom}
use Rattle.blob_draws.specs.Rows.{rows_in}
use Rattle.blob_memory.specs.Store.{durable}
use Rattle.blob_faulty.proofs.replay.replay_all.Given as goal

abbrev pub invariant-loop-list : goal.invariant-loop-list
invariant-loop-list l = record {
  apart : ArePlacesApart (lists_of (λ o. o) l.lists) → ArePlacesApart (lists_of (λ o. o) (drop l.list-index l.lists));
  durable : ArePlacesApart (lists_of (λ o. o) l.lists) → (o : Place) → replayed_at (chosen_by (rows_in l.rows)) (list_of (λ o. o) (drop l.list-index l.lists) o) (durable l.inner o) ≡ replayed_at (chosen_by (rows_in l.rows)) (list_of (λ o. o) l.lists o) (durable l.fn.inner o);
  kept : KeepsRoom l.fn.inner l.inner;
  capacity : vec_capacity l.fn.buffers.chosen ≤ vec_capacity l.chosen;
}

abbrev pub invariant-loop-entry : goal.invariant-loop-entry
invariant-loop-entry l = record {
  unmarked : has_marker (left_in (drop l.entry-index l.entry-items)) ≡ false;
  bytes : replay (left_in (drop l.entry-index l.entry-items)) (chosen_by (rows_in l.rows)) l.bytes.items ≡ replay (left_in l.entry-items) (chosen_by (rows_in l.rows)) l.initial.bytes.items;
  room : l.initial.bytes.capacity ≤ l.bytes.capacity;
  capacity : vec_capacity l.fn.buffers.chosen ≤ vec_capacity l.chosen;
}
