-- How what a crash draws fits the modes of writes, and what the entries of a call leave of a blob.
use Rattle.std.specs.Prelude.{◌≡◌, ◌⊎◌, ℕ, ◌<◌, min, List, Bool, Option, ◌↔◌}
use Rattle.rand_core.specs.Stream.{Stream}
use Rattle.blob_header.specs.Refusals.{Refusal}
use Rattle.blob_model.specs.Bytes.{resize}
use Rattle.blob_model.specs.Draws.{draw_rows, chosen_by}
use Rattle.blob_model.specs.Files.{Files, Logged, Rising, all_logged, all_needs, crashed_at, durable_at, publish}
use Rattle.blob_model.specs.Log.{Choices, Entry, durable_after, replay_log}
use Rattle.blob_model.specs.Places.{Place}
use Rattle.blob_draws.specs.declared.config.Config.{Config}
use Rattle.blob_draws.specs.declared.config.ResizeConfig.{ResizeConfig}
use Rattle.blob_draws.specs.Faults.{resize_fate}
use Rattle.blob_draws.specs.Recorded.{recorded_resize, recorded_write}
use Rattle.blob_faulty.specs.Fits.{FitsAll, FitsLog, LaysFitting}

-- What a crash draws fits the modes of the log. By `draws::selections`, `draws::sectors` and the rising numbers.
abbrev pub DrawsFit : Type 0
DrawsFit = (log : List Logged) (next : ℕ) (stream : Stream) → Rising 0 log next → FitsLog (chosen_by (draw_rows stream (all_needs log)).0) log

-- Entries that are added to the log of an incarnation are applied after it.
abbrev pub EntriesFollow : Type 0
EntriesFollow = (files : Files) (o : Place) (entries : List Entry) (t : Choices) →
    (crashed_at (all_logged files o entries) t o ≡ replay_log (crashed_at files t o) entries t)
    × (durable_at (all_logged files o entries) o ≡ durable_after (durable_at files o) entries)
    × (FitsLog t (all_logged files o entries).log ↔ (FitsLog t files.log × FitsAll t entries))

-- Those of a write, whatever it returned, lay some of its bytes, as its mode allows: in a crash, and durably.
abbrev pub WritesLayFitting : Type 0
WritesLayFitting = (config : Config) (number : ℕ) (stream : Stream) (sync : Bool) (offset : ℕ) (bytes x : List ℕ) (answer : Option Refusal) (t : Choices) →
    FitsAll t (recorded_write config number stream sync offset bytes answer) →
    LaysFitting config offset bytes x (replay_log x (recorded_write config number stream sync offset bytes answer) t)
    × LaysFitting config offset bytes x (durable_after x (recorded_write config number stream sync offset bytes answer))

-- Those of a resize make no byte durable. In a crash they do nothing, or cut or extend to the requested length or, if it
-- fails in part, to one above the lesser of the tracked size and that.
abbrev pub ResizesReach : Type 0
ResizesReach = (config : Option ResizeConfig) (size len : ℕ) (stream : Stream) (x : List ℕ) (answer : Option Refusal) (t : Choices) →
    (durable_after x (recorded_resize (resize_fate config size len stream).0 len answer) ≡ x)
    × ((replay_log x (recorded_resize (resize_fate config size len stream).0 len answer) t ≡ x)
    ⊎ ((n : ℕ) × (replay_log x (recorded_resize (resize_fate config size len stream).0 len answer) t ≡ resize x n) × ((n ≡ len) ⊎ (min size len < n))))

-- Published bytes are all that is found.
abbrev pub PublishedIsFound : Type 0
PublishedIsFound = (files : Files) (o : Place) (bytes : List ℕ) (t : Choices) →
    (crashed_at (publish files o bytes) t o ≡ bytes) × (durable_at (publish files o bytes) o ≡ bytes) × (FitsLog t files.log → FitsLog t (publish files o bytes).log)
