-- How a call through a handle changes the store, apart from its files.
use Rattle.std.specs.Prelude.{◌≡◌, true, false}
use Rattle.blob_base.specs.HandleCalls.{HandleCall, Read, Write, Resize, Sync, StartSync, Reserve}
use Rattle.blob_memory.specs.declared.storage.Storage.{Storage}

-- only calls that change durable bytes or their capacity change the store
abbrev pub Leaves : HandleCall → Storage → Storage → Type 0
Leaves (Read offset len) before after = after ≡ before
Leaves (Write offset bytes true) before after = Unit {0}
Leaves (Write offset bytes false) before after = after ≡ before
Leaves (Resize len) before after = after ≡ before
Leaves Sync before after = Unit {0}
Leaves (StartSync marker) before after = Unit {0}
Leaves (Reserve end) before after = Unit {0}
