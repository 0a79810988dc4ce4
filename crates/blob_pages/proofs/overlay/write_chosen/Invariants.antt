use Rattle.std.proofs.Common.{◌≡◌, ◌≤◌, length, take}
use Rattle.std.specs.List.{flat_map}
use Rattle.blob_model.specs.Bytes.{overlay_by, reach}
use Rattle.blob_model.specs.Runs.{is_chosen}
use Rattle.blob_pages.proofs.overlay.write_chosen.Given as goal

abbrev pub invariant-loop-piece : goal.invariant-loop-piece
invariant-loop-piece l = record {
  all : flat_map (λ p. p.items) l.piece-items ≡ l.run;
  done : l.done ≡ length (flat_map (λ p. p.items) (take l.piece-index l.piece-items));
  laid : l.bytes.items ≡ overlay_by l.initial.bytes.items l.offset (flat_map (λ p. p.items) (take l.piece-index l.piece-items)) (is_chosen l.keep);
  room : reach l.offset (length l.run) (is_chosen l.keep) ≤ l.bytes.capacity;
  capacity : l.initial.bytes.capacity ≤ l.bytes.capacity;
}
