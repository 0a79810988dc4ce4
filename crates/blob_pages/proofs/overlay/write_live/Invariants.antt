use Rattle.std.proofs.Common.{◌≡◌, ◌≤◌, ◌+◌, length, take}
use Rattle.std.specs.List.{flat_map}
use Rattle.blob_model.specs.Bytes.{overlay}
use Rattle.blob_pages.proofs.overlay.write_live.Given as goal

abbrev pub invariant-loop-piece : goal.invariant-loop-piece
invariant-loop-piece l = record {
  all : flat_map (λ p. p.items) l.piece-items ≡ l.run;
  at : l.at ≡ l.offset + length (flat_map (λ p. p.items) (take l.piece-index l.piece-items));
  from : l.offset ≤ length l.initial.bytes.items;
  laid : l.bytes.items ≡ overlay l.initial.bytes.items l.offset (flat_map (λ p. p.items) (take l.piece-index l.piece-items));
  capacity : l.initial.bytes.capacity ≤ l.bytes.capacity;
}
