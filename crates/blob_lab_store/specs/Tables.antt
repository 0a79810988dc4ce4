-- The tables of a laboratory, as its states see them.
use Rattle.std.specs.Prelude.{◌≡◌, ℕ, List, map, Option, None, option_map, Vec, String, string_bytes}
use Rattle.std.specs.Global.{Global}
use Rattle.std.specs.Range.{range_inclusive_start, range_inclusive_end}
use Rattle.std.specs.declared.ops.RangeInclusive.{RangeInclusive}
use Rattle.blob_base.specs.Handles.{outcome_of, marker_of}
use Rattle.blob_header.specs.Refusals.{error_of}
use Rattle.blob_header.specs.declared.version.BlobVersion.{BlobVersion}
use Rattle.blob_base.specs.declared.handle.Handle as base
use Rattle.blob_faulty.specs.Wrapper.{inside, size_of}
use Rattle.blob_memory.specs.Store.{place, live}
use Rattle.blob_lab_store.specs.declared.lab.handles.Handle.{Handle}
use Rattle.blob_lab_store.specs.declared.lab.handles.Handles.{Handles}
use Rattle.blob_lab_store.specs.declared.lab.syncs.Syncs.{Syncs}
use Rattle.blob_lab_store.specs.Slots.{values_of, HasRoom}
use Rattle.blob_lab_model.specs.States.{Held, Started}
pub use Rattle.blob_script.specs.Preambles.{images_of}

abbrev pub as_held : Handle → Held
as_held h = record { place = place (inside h.blob); live = live (inside h.blob); size = size_of h.blob; registration = h.registration }

abbrev pub handles_of : Handles → List (Option Held)
handles_of handles = map (option_map as_held) (values_of handles.slots)

abbrev pub started_by : base.Handle → Started
started_by h = record { outcome = error_of (outcome_of h) }

-- the copy of a started sync that didn't fail has its marker
abbrev pub KeepsMarker : base.Handle → base.Handle → Type 0
KeepsMarker h copy = error_of (outcome_of h) ≡ None → marker_of copy ≡ marker_of h

abbrev pub syncs_of : Syncs → List (Option Started)
syncs_of syncs = map (option_map started_by) (values_of syncs.slots)

-- the first and the last version of a range
abbrev pub version_bounds : RangeInclusive BlobVersion → ℕ × ℕ
version_bounds versions = ((range_inclusive_start versions).0, (range_inclusive_end versions).0)

-- capacity and a number for one more
abbrev pub HasFreeSlot : Handles → Type 0
HasFreeSlot handles = HasRoom handles.slots

abbrev pub HasSyncRoom : Syncs → Type 0
HasSyncRoom syncs = HasRoom syncs.slots
