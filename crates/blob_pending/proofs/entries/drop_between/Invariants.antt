use Rattle.std.proofs.Common.{◌≡◌, ◌≤◌, ◌+◌, drop, vec_len}
use Rattle.blob_pending.specs.Blocks.{AreBounded}
use Rattle.blob_pending.specs.Marks.{barriers_in}
use Rattle.blob_pending.specs.Views.{views, AreDropped}
use Rattle.blob_pending.specs.declared.bounds.BlockBounds.{BlockBounds}
use Rattle.blob_pending.proofs.entries.drop_between.Given as goal

abbrev pub invariant-loop-i : goal.invariant-loop-i
invariant-loop-i l = record {
  few : l.barriers ≤ l.i;
  len : vec_len l.entries ≡ vec_len l.fn.entries;
  dropped : AreDropped l.i (views l.entries.items);
  rest : drop l.end l.entries.items ≡ drop l.end l.fn.entries.items;
  count : barriers_in (views l.entries.items) + l.barriers ≡ barriers_in (views l.fn.entries.items);
  bounded : (bounds : BlockBounds) → AreBounded bounds (views l.fn.entries.items) → AreBounded bounds (views l.entries.items);
}
