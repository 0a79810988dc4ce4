use Rattle.std.proofs.Common.{ap, arith, refl}
use Rattle.blob_memory.specs.Store.{directory, durable, place}
use Rattle.blob_memory.specs.declared.storage.Storage as memory
use Rattle.blob_faulty.specs.Wrapper.{inside}
use Rattle.std.specs.Prelude.{codes}
use Rattle.blob_journal.specs.Blobs.{file_name}
use Rattle.blob_journal.proofs.Blobs.{blob_same, on_ok}
use Rattle.blob_journal.proofs.Ready.{ready_after}
use Rattle.blob_journal.proofs.Stores.{holds_kept, open_kept, given_over}
use Rattle.blob_journal.proofs.Fixed.{same_handles}
use Rattle.blob_journal.proofs.journaled.Journaled.read_whole.Goals as goal

pub invariant_of-self : goal.invariant_of-self
invariant_of-self g c = holds_kept c.args.self.now c.read_all.new.store c.read_all.ensures.keeps

pub returns-clause-same : goal.returns-clause-same
returns-clause-same g c = on_ok c.read_all.result _ (λ inode.
    let inner = c.read_all.ensures.inner in
    blob_same (codes "f") (file_name inode) c.args.self.now.store c.read_all.new.store (ap (λ (s : memory.Storage). directory s) inner) (ap (λ (s : memory.Storage). durable s) inner))

pub returns-clause-still : goal.returns-clause-still
returns-clause-still g c = open_kept _ _ c.read_all.ensures.keeps

pub returns-clause-errors : goal.returns-clause-errors
returns-clause-errors g c = λ quiet tracked. c.read_all.ensures.errors quiet (omega (arith, tracked, c.size-size.ensures))

pub returns-clause-uses : goal.returns-clause-uses
returns-clause-uses g c =
    let same = ap (λ (s : memory.Storage). directory s) c.read_all.ensures.inner in
    λ file. record {
      edits = record { names = refl; told = refl; unsettled = refl; log = refl };
      files = λ has r. c.read_all.ensures.keeps.files r;
      given = given_over c.args.self.now.store c.read_all.new.store (place (inside file.blob)) _ same refl;
      handles = same_handles c.args.self.now _ same;
      ready = ready_after _ file _ file same c.read_all.ensures.keeps.faults refl refl (λ now tracked. tracked);
    }
