use Rattle.std.proofs.Common.{◌≡◌, ◌∙◌, [], ap}
use Rattle.std.specs.Prelude.{unwrap_or}
use Rattle.blob_model.specs.Files.{directory_again}
use Rattle.blob_faulty.specs.Wrapper.{inner_of as store_of}
use Rattle.blob_memory.specs.Store.{directory, durable}
use Rattle.blob_lab_store.proofs.Rebuilding.{rebuilt_for}
use Rattle.blob_lab_store.proofs.lab.rebuilding.rewrapped.Goals as goal

pub returns-clause-files : goal.returns-clause-files
returns-clause-files c = λ f s.
    let w = c.args.wrapper in
    let names : directory (store_of c.new.result) ≡ directory_again (λ o. unwrap_or (durable (store_of w) o) []) (directory (store_of w)) =
    ap directory c.new.ensures.inner ∙ c.from_snapshot-rebuilt.ensures.directory ∙ c.take_snapshot.ensures.directory
    ∙ ap (λ x. directory_again (λ o. unwrap_or (durable x o) []) (directory x)) c.into_inner-store.ensures.inner in
    let bytes = ap durable c.new.ensures.inner ∙ c.from_snapshot-rebuilt.ensures.durable ∙ c.take_snapshot.ensures.ended in
    rebuilt_for w c.new.result f c.snapshots.ensures names bytes c.new.ensures.pending c.new.ensures.next_write c.new.ensures.next_marker s
