-- What a crash of a file over the fault wrapper draws, leaves and returns.
use Rattle.std.specs.Prelude.{◌≡◌, ◌⊎◌, ℕ, Bool, List, Option, Some, None}
use Rattle.rand_core.specs.Stream.{Stream}
use Rattle.blob_header.specs.Refusals.{Refusal, Memory}
use Rattle.blob_model.specs.Draws.{Row, draw_rows, chosen_by}
use Rattle.blob_model.specs.Files.{Files, all_needs}
use Rattle.blob_model.specs.Stands.{replayed_at}
use Rattle.blob_draws.specs.Answers.{injected_or}
use Rattle.blob_draws.specs.Faults.{draw}
use Rattle.blob_faulty.specs.Keeps.{OverMemory, IsFor}
use Rattle.blob_faulty.specs.Wrapper.{rng_of, config_of}
use Rattle.blob_disk.specs.Outcomes.{Opened, durable_at, pending_at}

-- the rows that a crash draws for the writes that it may lose, and the rest of the stream
abbrev pub crash_draws : {R : Type 0} → (R → Stream) → OverMemory R → Files → List Row × Stream
crash_draws stream w files = draw_rows (stream (rng_of w)) (all_needs files.log)

-- what these rows leave of the blob that a handle is on
abbrev pub IsLeft : {R : Type 0} → (R → Stream) → Opened → OverMemory R → List ℕ → Type 0
IsLeft stream b w c = (files : Files) → IsFor w files →
    replayed_at (chosen_by (crash_draws stream w files).0) (pending_at b w) (durable_at b w) ≡ Some c

-- whether the open after a crash fails, by the next draw
abbrev pub open_fails : {R : Type 0} → (R → Stream) → OverMemory R → Files → Bool
open_fails stream w files = (draw (config_of w).open_rate (crash_draws stream w files).1).0

-- what a crash may return: that memory ran out, or what the draw of the open after it says
abbrev pub MayCrash : {R : Type 0} → (R → Stream) → OverMemory R → Option Refusal → Type 0
MayCrash stream w answer = (answer ≡ Some Memory) ⊎ ((files : Files) → IsFor w files → injected_or (open_fails stream w files) (λ a. a ≡ None) answer)

-- what the open of a name that can be opened may answer
abbrev pub MayReopen : {R : Type 0} → (R → Stream) → OverMemory R → Option Refusal → Type 0
MayReopen stream w = injected_or (draw (config_of w).open_rate (stream (rng_of w))).0 (λ answer. (answer ≡ Some Memory) ⊎ (answer ≡ None))
