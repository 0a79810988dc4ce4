use Rattle.std.proofs.Common.{◌∙◌, ap₂, []}
use Rattle.std.specs.Prelude.{unwrap_or}
use Rattle.blob_model.specs.Directory.{Directory}
use Rattle.blob_model.specs.Durable.{Durable}
use Rattle.blob_model.specs.Files.{directory_again}
use Rattle.blob_memory.proofs.storage.Storage.take_snapshot.Goals as goal

pub returns-clause-directory : goal.returns-clause-directory
returns-clause-directory c = c.end_all.ensures.directory
    ∙ ap₂ (λ (f : Durable) (d : Directory). directory_again (λ o. unwrap_or (f o) []) d) c.take-contents.ensures.durable c.take-contents.ensures.directory
