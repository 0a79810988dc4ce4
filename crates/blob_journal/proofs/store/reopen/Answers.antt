use Rattle.blob_memory.specs.Store.{place, directory}
use Rattle.blob_faulty.specs.Wrapper.{inner_of, inside}
use Rattle.std.proofs.Common.{◌<◌, subst, sym, ap, ◌≡◌}
use Rattle.blob_memory.specs.declared.storage.Storage as memory
use Rattle.blob_model.specs.Files.{admit}
use Rattle.blob_journal.proofs.Stores.{store_same, store_twice}
use Rattle.blob_journal.proofs.store.reopen.Goals as goal

pub returns-clause-given : goal.returns-clause-given
returns-clause-given g c = subst (λ (s : memory.Storage). (place (inside c.in_ok-blob.blob)).number < (directory s).next) (sym c.admit.ensures.inner) c.in_ok-blob.ensures.given

pub returns-clause-keeps : goal.returns-clause-keeps
returns-clause-keeps g c =
    let opened = c.open.new.store in
    let same : directory (inner_of c.admit.new.self) ≡ directory (inner_of opened) = ap (λ (s : memory.Storage). directory s) c.admit.ensures.inner in
    store_twice c.args.store.now opened c.admit.new.self c.open.ensures.keeps (store_same opened c.admit.new.self same
    (λ r. (admit r.0 c.args.partition.now c.args.name.now, c.admit.ensures.stands r.0 r.1))
    (λ o test k. c.same_bytes.ensures.admitted opened c.admit.new.self c.args.partition.now c.args.name.now o test same c.admit.ensures.stands k)
    c.admit.ensures.numbers.config)
