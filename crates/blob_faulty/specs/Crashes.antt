-- What a crash of a wrapper over the memory store leaves, and the durable bytes after its replay.
use Rattle.std.specs.Prelude.{◌≡◌, ◌<◌, ◌+◌, ℕ, List, Bool, false, not, ◌&&◌, length, slice_index_or, Vec}
use Rattle.std.specs.Global.{Global}
use Rattle.rand_core.specs.Stream.{Stream}
use Rattle.blob_model.specs.Draws.{draw_rows, chosen_by}
use Rattle.blob_model.specs.Durable.{Durable}
use Rattle.blob_model.specs.Files.{Files, all_needs, after_crash}
use Rattle.blob_model.specs.Holes.{in_holes}
use Rattle.blob_model.specs.Log.{Choices}
use Rattle.blob_model.specs.Order.{ArePlacesApart}
use Rattle.blob_model.specs.Places.{Place}
use Rattle.blob_model.specs.Stands.{replayed_at}
use Rattle.blob_pending.specs.Lists.{lists_of, list_of}
use Rattle.blob_pending.specs.Ranges.{ranges}
use Rattle.blob_draws.specs.Rows.{rows_in, table_of}
use Rattle.blob_pending.specs.declared.incarnation.Incarnation.{Incarnation}
use Rattle.blob_draws.specs.declared.selections.Selections.{Selections}
use Rattle.blob_pending.specs.declared.write.PendingWrite.{PendingWrite}
use Rattle.blob_faulty.specs.Keeps.{OverMemory, IsFor}
use Rattle.blob_faulty.specs.Wrapper.{inner_of, rng_of, pending_of}
use Rattle.blob_memory.specs.Store.{durable}

-- the choices of a table of rows
abbrev pub chosen_in : List (ℕ × Vec Bool Global) → Choices
chosen_in rows = chosen_by (rows_in rows)

-- if the wrapper represented files, the generator drew these rows, for the writes that need a draw in their logs
abbrev pub CrashDraws : {R : Type 0} → (R → Stream) → OverMemory R → OverMemory R → Selections → Type 0
CrashDraws stream before after kept = (files : Files) → IsFor before files → (table_of kept, stream (rng_of after)) ≡ draw_rows (stream (rng_of before)) (all_needs files.log)

-- and it represents the files after a crash that keeps these
abbrev pub CrashLeaves : {R : Type 0} → OverMemory R → OverMemory R → Selections → Type 0
CrashLeaves before after kept = (files : Files) → IsFor before files → IsFor after (after_crash files (chosen_by (table_of kept)))

-- what was pending of each incarnation is replayed over its durable bytes by these
abbrev pub ReplaysPending : {R : Type 0} → OverMemory R → OverMemory R → Selections → Type 0
ReplaysPending before after kept = (o : Place) → durable (inner_of after) o ≡ replayed_at (chosen_by (table_of kept)) (pending_of (λ o. o) before o) (durable (inner_of before) o)

-- the same of the lists of the code, and their rows
abbrev pub ReplaysLists : List (Incarnation Place) → List (ℕ × Vec Bool Global) → Durable → Durable → Type 0
ReplaysLists lists rows before after = ArePlacesApart (lists_of (λ o. o) lists) → (o : Place) → after o ≡ replayed_at (chosen_by (rows_in rows)) (list_of (λ o. o) lists o) (before o)

-- for each byte of a write the row's choice, except those that a later durable range covers
abbrev pub ChoosesUncovered : List Bool → PendingWrite → List Bool → Type 0
ChoosesUncovered chosen write row = (i : ℕ) → i < length write.bytes
    → slice_index_or chosen i false ≡ (not (in_holes (ranges write.holes.items) (write.offset + i)) && slice_index_or row i false)
