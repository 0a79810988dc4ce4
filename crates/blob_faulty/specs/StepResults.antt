-- What the steps of a write and of a resize ensure, by their results.
use Rattle.std.specs.Prelude.{ℕ, Bool, false, List, [], ◌∷◌, Result}
use Rattle.blob_base.specs.HandleCalls.{HandleCall}
use Rattle.blob_base.specs.declared.storage.Blob as handles
use Rattle.blob_base.specs.declared.storage.Durable as stores
use Rattle.blob_header.specs.Refusals.{error_of}
use Rattle.blob_header.specs.declared.error.Error.{Error}
use Rattle.blob_model.specs.Log.{Resized}
use Rattle.blob_model.specs.Runs.{Run, runs}
use Rattle.blob_draws.specs.Fates.{write_fate_of, resize_fate_of}
use Rattle.blob_draws.specs.Faults.{Failed}
use Rattle.blob_draws.specs.declared.faults.ResizeFate.{ResizeFate}
use Rattle.blob_draws.specs.declared.faults.WriteFate.{WriteFate}
use Rattle.blob_faulty.specs.declared.blob.Blob.{Blob}
use Rattle.blob_faulty.specs.declared.storage.Storage.{Storage}
use Rattle.blob_faulty.specs.declared.write_runs.Piece.{Piece}
use Rattle.blob_faulty.specs.Asked.{Asks, AsksRuns, AsksWrite}
use Rattle.blob_faulty.specs.Pieces.{runs_in}
use Rattle.blob_faulty.specs.Wrapper.{inner_of, inside}
use Rattle.blob_faulty.specs.Writes.{FailsBy, LaysAll, ReachesBy, Records, RecordsRuns, ResizesBy, Writes, WritesBy, resize_effect, laid_runs, plain, unrecorded_write}

-- The calls of the inner blob, of a handle and its wrapper before a step and after it.

module _ {S R O B T : Type 0} (handle : handles.Ghosts B S O) (b : Blob B) (before : Storage S R O) (c : Blob B) (after : Storage S R O) where
  -- it was called, with this result
  abbrev pub CallsInner : HandleCall → Result T Error → Type 0
  CallsInner call result = handle.leaves call (inside b) (inner_of before) (error_of result) (inside c) (inner_of after)

  -- it was, or the step was refused before
  abbrev pub MayCallInner : HandleCall → Result T Error → Type 0
  MayCallInner call result = Asks handle b before c after call (error_of result)

  -- the runs of a failed write
  abbrev pub AsksKept : ℕ → List ℕ → List Bool → Result T Error → Type 0
  AsksKept offset bytes kept result = AsksRuns handle b before c after (runs offset bytes kept) (error_of result)

  -- a write, by its drawn outcome
  abbrev pub AsksAs : WriteFate → Bool → ℕ → List ℕ → Result T Error → Type 0
  AsksAs fate sync offset bytes result = AsksWrite handle b before c after (write_fate_of fate) sync offset bytes (error_of result)

-- What they record.

module _ {S R O B T : Type 0} (store : stores.Ghosts S O) (handle : handles.Ghosts B S O) (b : Blob B) (before : Storage S R O) (c : Blob B) (after : Storage S R O) where
  -- a write without SYNC of which nothing is recorded
  abbrev pub WritesUnrecorded : ℕ → List ℕ → Result T Error → Type 0
  WritesUnrecorded offset bytes result = Writes store handle b before c after (unrecorded_write false offset bytes) (error_of result)

  -- one that is pending if retention is set
  abbrev pub RecordsPlain : ℕ → List ℕ → Result T Error → Type 0
  RecordsPlain offset bytes result = Records store handle b before c after (plain offset bytes) (error_of result)

  -- a durable range
  abbrev pub RecordsRun : Run → Result T Error → Type 0
  RecordsRun run result = Records store handle b before c after (laid_runs (run ∷ [])) (error_of result)

  -- a resize that survives a crash
  abbrev pub RecordsResize : ℕ → Result T Error → Type 0
  RecordsResize len result = Records store handle b before c after (resize_effect len (Resized len ∷ [])) (error_of result)

  -- the kept runs of a failed write
  abbrev pub LaysKept : ℕ → List ℕ → List Bool → Result T Error → Type 0
  LaysKept offset bytes kept result = RecordsRuns store handle b before c after (runs offset bytes kept) (error_of result)

  -- the runs that pieces are: the calls of the inner blob too
  abbrev pub LaysPieces : List Piece → Result T Error → Type 0
  LaysPieces pieces result = LaysAll store handle b before c after (runs_in pieces) (error_of result)

  -- some of them, if a run after the first was rejected
  abbrev pub LaysPart : ℕ → List ℕ → List Bool → Result T Error → Type 0
  LaysPart offset bytes kept result = FailsBy store handle b before c after (Failed kept) offset bytes (error_of result)

  -- a write, by its drawn outcome, and what it records if it returns WriteFailed
  abbrev pub WroteAs : WriteFate → Bool → ℕ → List ℕ → Result T Error → Type 0
  WroteAs fate sync offset bytes result = WritesBy store handle b before c after (write_fate_of fate) sync offset bytes (error_of result)

  abbrev pub FailsAs : WriteFate → ℕ → List ℕ → Result T Error → Type 0
  FailsAs fate offset bytes result = FailsBy store handle b before c after (write_fate_of fate) offset bytes (error_of result)

  -- a resize, by its drawn outcome, and what it records if it returns Injected
  abbrev pub ResizesAs : ResizeFate → ℕ → Result T Error → Type 0
  ResizesAs fate len result = ResizesBy store handle b before c after (resize_fate_of fate) len (error_of result)

  abbrev pub ReachesAs : ResizeFate → Result T Error → Type 0
  ReachesAs fate result = ReachesBy store handle b before c after (resize_fate_of fate) (error_of result)
