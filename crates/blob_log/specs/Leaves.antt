-- What the calls of a log leave of the files of its wrapper: of the log's own file, and of all others.
use Rattle.std.specs.Prelude.{◌≡◌, ◌⊎◌, ℕ, true, false, List, length}
use Rattle.blob_model.specs.Bytes.{lies}
use Rattle.blob_model.specs.Directory.{is_current}
use Rattle.blob_model.specs.Files.{Files, log_entry, all_logged}
use Rattle.blob_model.specs.Live.{live_written}
use Rattle.blob_model.specs.Log.{Entry, Kept}
use Rattle.blob_model.specs.Persistence.{any_touches}
use Rattle.blob_faulty.specs.Admitted.{OpensAdmitted, StaysSame}
use Rattle.blob_faulty.specs.Keeps.{OverMemory, IsFor}
use Rattle.blob_faulty.specs.Wrapper.{inner_of, inside}
use Rattle.blob_memory.specs.Store.{directory, durable, live}
use Rattle.blob_log.specs.declared.log.Log.{Log}
use Rattle.blob_log.specs.Frames.{frame}
use Rattle.blob_log.specs.Held.{log_place, log_blob, log_end}

-- the live bytes of the log's handle
abbrev pub log_live : Log → List ℕ
log_live log = live (inside (log_blob log))

-- the live bytes with the frame of a record written at the log's end
abbrev pub live_appended : Log → List ℕ → List ℕ
live_appended log entry = live_written true (log_live log) (log_end log) (frame entry)

-- an admitted open of a log's blob, or nothing
abbrev pub MayOpenLog : {R : Type 0} → OverMemory R → OverMemory R → List ℕ → List ℕ → Type 0
MayOpenLog before after p n = StaysSame before after ⊎ OpensAdmitted before after p n 0 0

-- the frame is written once, at the log's end, and all of it is kept; no other entry is recorded, retired or made
-- durable
abbrev pub AppendsFrame : {R : Type 0} → Log → List ℕ → OverMemory R → OverMemory R → Type 0
AppendsFrame log entry before after = (files : Files) → IsFor before files → IsFor after (log_entry files (log_place log) (Kept (log_end log) (frame entry)))

-- entries that touch nothing but these n bytes
abbrev pub LieIn : ℕ → ℕ → List Entry → Type 0
LieIn offset n entries = (p : ℕ) → lies offset n p ≡ false → any_touches p entries ≡ false

-- entries may be recorded there, and they touch no bytes outside the frame's range
abbrev pub TriesFrame : {R : Type 0} → Log → List ℕ → OverMemory R → OverMemory R → Type 0
TriesFrame log entry before after = (files : Files) → IsFor before files → is_current (directory (inner_of before)) (log_place log) ≡ true →
    (entries : List Entry) × LieIn (log_end log) (length (frame entry)) entries × IsFor after (all_logged files (log_place log) entries)

-- the live bytes of the log's handle, and the durable bytes of every file, are unchanged
abbrev pub SameBytes : {R : Type 0} → Log → OverMemory R → Log → OverMemory R → Type 0
SameBytes log before log' after = (log_live log' ≡ log_live log) × (durable (inner_of after) ≡ durable (inner_of before))
