-- A wrapper that was just made.
use Rattle.std.specs.Prelude.{◌≡◌, ℕ, List, [], Some}
use Rattle.blob_base.specs.declared.storage.Durable as stores
use Rattle.blob_model.specs.Files.{wrap}
use Rattle.blob_model.specs.Places.{Place}
use Rattle.blob_draws.specs.declared.config.Config.{Config}
use Rattle.blob_faulty.specs.declared.storage.Storage.{Storage}
use Rattle.blob_faulty.specs.Keeps.{bytes_found}
use Rattle.blob_faulty.specs.Wrapper.{inner_of, rng_of, config_of, next_write_of, next_marker_of, pending_of, Stands}

-- of this store, generator and configuration, with nothing pending and these the next numbers
pub record IsNew {S R O : Type 0} (store : stores.Ghosts S O) (s : S) (r : R) (c : Config) (write marker : ℕ) (w : Storage S R O) : Type 0 where
  pub inner : inner_of w ≡ s
  pub rng : rng_of w ≡ r
  pub config : config_of w ≡ c
  pub pending : pending_of store.place w ≡ (λ _. [])
  pub next_write : next_write_of w ≡ write
  pub next_marker : next_marker_of w ≡ marker
  -- it represents the store's files without any record, with any bytes that agree with its durable ones, and so with those
  pub files : (bytes : Place → List ℕ) → ((o : Place) (x : List ℕ) → store.durable s o ≡ Some x → bytes o ≡ x) → Stands store.place (store.directory s) (store.durable s) w (wrap (store.directory s) bytes write marker)
  pub represents : Stands store.place (store.directory (inner_of w)) (store.durable (inner_of w)) w (wrap (store.directory s) (bytes_found (store.durable s)) write marker)
