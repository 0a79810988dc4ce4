-- The parts of a pending list, blocks and groups of blocks, with bounds of where their writes lie.
use Rattle.std.specs.Prelude.{◌≡◌, ◌⊎◌, ℕ, ◌+◌, ◌/◌, ◌<◌, Bool, true, ◌&&◌, ◌||◌, ◌==◌, List, length, nat_le}
use Rattle.std.proofs.Common.{get_or}
use Rattle.blob_model.specs.Pending.{Pending, Waiting, Cut, Again, Marker}
use Rattle.blob_pending.specs.declared.extent.Extent.{Extent}
use Rattle.blob_pending.specs.declared.bounds.BlockBounds.{BlockBounds}

-- a write lies within the bounds if it has bytes
abbrev pub is_within : Extent → Pending → Bool
is_within b (Waiting m) = length m.write.bytes == 0 || nat_le b.start m.write.offset && nat_le (m.write.offset + length m.write.bytes) b.end
is_within b (Cut n) = true
is_within b (Again o x) = true
is_within b (Marker k) = true

-- the entries of each part that has bounds lie within them; a part has `size` entries
abbrev pub AreBoundedBy : ℕ → List Extent → List Pending → Type 0
AreBoundedBy size bs q = (k : ℕ) (b : Extent) (e : Pending) → k / size < length bs → (k < length q) × (is_within (get_or bs (k / size) b) (get_or q k e) ≡ true)

-- so do those of each block of 64 entries and of each group of 64 blocks
abbrev pub AreBounded : BlockBounds → List Pending → Type 0
AreBounded bs q = AreBoundedBy 64 bs.blocks.items q × AreBoundedBy 4096 bs.groups.items q

-- bounds of the old entries are bounds of the new ones
abbrev pub KeepsBounded : List Pending → List Pending → Type 0
KeepsBounded old new = (bs : BlockBounds) → AreBounded bs old → AreBounded bs new

-- nothing within these bounds lies from `start` up to `end`
abbrev pub is_apart : ℕ → ℕ → Extent → Bool
is_apart start end b = nat_le b.end start || nat_le end b.start

-- nor within those of the part at an index
abbrev pub LiesApart : List Extent → ℕ → ℕ → ℕ → Type 0
LiesApart bs index start end = (b : Extent) → (index < length bs) × (is_apart start end (get_or bs index b) ≡ true)

-- the entry at k is in a group or a block with bounds that don't overlap the range
abbrev pub IsPassed : BlockBounds → ℕ → ℕ → ℕ → Type 0
IsPassed bs k start end = LiesApart bs.groups.items (k / 4096) start end ⊎ LiesApart bs.blocks.items (k / 64) start end
