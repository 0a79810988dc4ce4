-- The memory store and its handles, as the ones inside a wrapper.
use Rattle.std.specs.Prelude.{◌≡◌, ℕ}
use Rattle.rand_core.specs.Stream.{Stream}
use Rattle.blob_base.specs.declared.storage.Blob as handles
use Rattle.blob_base.specs.declared.storage.Durable as stores
use Rattle.blob_model.specs.Places.{Place}
use Rattle.blob_memory.specs.declared.blob.Blob as memory_blob
use Rattle.blob_memory.specs.declared.storage.Storage as memory
use Rattle.blob_memory.specs.Answers.{read_refusal}
use Rattle.blob_memory.specs.Store.{place, live}
use Rattle.blob_draws.specs.Answers.{Allowed, injected_or}
use Rattle.blob_draws.specs.Faults.{draw}
use Rattle.blob_faulty.specs.declared.blob.Blob.{Blob}
use Rattle.blob_faulty.specs.declared.storage.Storage.{Storage}
use Rattle.blob_faulty.specs.Wrapper.{rng_of, config_of, inside}
use Rattle.blob_memory.specs.contracts.blob.BlobBlobStorage.TheImpl as handle
use Rattle.blob_memory.specs.contracts.storage.StorageDurable.TheImpl as store

abbrev pub memory_store : stores.Ghosts memory.Storage Place
memory_store = store.ghosts

abbrev pub memory_handle : handles.Ghosts memory_blob.Blob memory.Storage Place
memory_handle = handle.ghosts

-- what a read into a slice may return: by its draw, and then by its range alone
abbrev pub MayReadInto : {R O : Type 0} → (R → Stream) → Blob memory_blob.Blob → Storage memory.Storage R O → ℕ → ℕ → Allowed
MayReadInto stream b w offset len = injected_or (draw (config_of w).read_rate (stream (rng_of w))).0 (λ answer. answer ≡ read_refusal (place (inside b)) (live (inside b)) offset len)
