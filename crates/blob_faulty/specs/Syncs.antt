-- The files that a wrapper represents after a sync.
use Rattle.std.specs.Prelude.{ℕ, ◌<◌, List}
use Rattle.blob_model.specs.Directory.{Directory}
use Rattle.blob_model.specs.Durable.{Durable}
use Rattle.blob_model.specs.Files.{Files, start_sync, publish}
use Rattle.blob_model.specs.Places.{Place}
use Rattle.blob_faulty.specs.declared.storage.Storage.{Storage}
use Rattle.blob_faulty.specs.Wrapper.{Stands}

-- if a wrapper represented files, it now represents them with these live bytes as an incarnation's base, and its log empty
abbrev pub Publishes : {S R O : Type 0} → (O → Place) → Directory → Durable → Durable → Storage S R O → Storage S R O → Place → List ℕ → Type 0
Publishes place names bytes bytes' old new o live = (files : Files) → Stands place names bytes old files → Stands place names bytes' new (publish files o live)

-- the same by a started sync, which takes the next marker
abbrev pub Starts : {S R O : Type 0} → (O → Place) → Directory → Durable → Durable → Storage S R O → Storage S R O → Place → List ℕ → Type 0
Starts place names bytes bytes' old new o live = (files : Files) → o.number < names.next → Stands place names bytes old files → Stands place names bytes' new (start_sync files o live)
