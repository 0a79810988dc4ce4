use Rattle.std.proofs.Common.{◌<◌, subst, ℕ, List, Some, ap, sym, ◌∙◌, arith, refl, rules, ◌≡◌}
use Rattle.std.specs.Prelude.{codes}
use Rattle.blob_model.specs.Directory.{current, is_current}
use Rattle.blob_memory.specs.Store.{directory, durable, place}
use Rattle.blob_memory.specs.declared.storage.Storage as memory
use Rattle.blob_faulty.specs.Wrapper.{inner_of, inside}
use Rattle.blob_journal.proofs.Blobs.{blob_same, blob_twice, partition_beside}
use Rattle.blob_journal.specs.Limits.{IsLimit}
use Rattle.blob_header.specs.Refusals.{error_of}
use Rattle.blob_journal.proofs.Stores.{store_twice}
use Rattle.blob_journal.proofs.journal.Journal.open.Goals as goal

pub returns-clause-current : goal.returns-clause-current
returns-clause-current g c =
    ap (λ (s : memory.Storage). is_current (directory s) (place (inside c.in_ok-blob.blob))) c.read_all.ensures.inner ∙ c.in_ok-blob.ensures.current

pub returns-clause-found : goal.returns-clause-found
returns-clause-found g c = λ o is. c.in_ok-blob.ensures.found o (ap (λ (n : List ℕ). current (directory (inner_of c.args.store.now)) (codes "j") n) c.to_be_bytes.ensures ∙ is)
    ∙ ap Some (sym (c.in_ok-bytes.ensures.bytes c.in_ok-blob.ensures.size))

pub returns-clause-durable : goal.returns-clause-durable
returns-clause-durable g c =
    ap (λ (s : memory.Storage). durable s (place (inside c.in_ok-blob.blob))) c.read_all.ensures.inner
    ∙ c.in_ok-blob.ensures.durable
    ∙ ap Some (sym (c.in_ok-bytes.ensures.bytes c.in_ok-blob.ensures.size))

pub returns-clause-begun : goal.returns-clause-begun
returns-clause-begun g c = λ none. c.in_ok-bytes.ensures.bytes c.in_ok-blob.ensures.size
    ∙ c.in_ok-blob.ensures.begun (ap (λ (n : List ℕ). (directory (inner_of c.args.store.now)).file (codes "j") n) c.to_be_bytes.ensures ∙ none)

pub returns-clause-numbered : goal.returns-clause-numbered
returns-clause-numbered g c = λ none. c.in_ok-blob.ensures.numbered (ap (λ (n : List ℕ). (directory (inner_of c.args.store.now)).file (codes "j") n) c.to_be_bytes.ensures ∙ none)

pub returns-clause-given : goal.returns-clause-given
returns-clause-given g c = subst (λ (s : memory.Storage). (place (inside c.in_ok-blob.blob)).number < (directory s).next) (sym c.read_all.ensures.inner) c.in_ok-blob.ensures.given

pub returns-clause-blobs : goal.returns-clause-blobs
returns-clause-blobs g c = λ m.
    let inner = c.read_all.ensures.inner in
    blob_twice (codes "f") m c.args.store.now c.open.new.store c.read_all.new.store (partition_beside c.args.store.now c.open.new.store c.to_be_bytes.result c.open.ensures.others m)
    (blob_same (codes "f") m c.open.new.store c.read_all.new.store (ap (λ (s : memory.Storage). directory s) inner) (ap (λ (s : memory.Storage). durable s) inner))

pub returns-in_err-blob-clause-errors : goal.returns-in_err-blob-clause-errors
returns-in_err-blob-clause-errors g c = λ q.
    let said : error_of c.from_residual.result ≡ error_of c.open.result = search rules in
    subst (IsLimit _) (sym said) (c.open.ensures.errors q refl)

pub returns-in_err-bytes-clause-errors : goal.returns-in_err-bytes-clause-errors
returns-in_err-bytes-clause-errors g c = λ q.
    let said : error_of c.from_residual-in_err-bytes.result ≡ error_of c.read_all.result = search rules in
    subst (IsLimit _) (sym said) (c.read_all.ensures.errors (c.open.ensures.keeps.faults ∙ q.0) (omega (arith, c.in_ok-blob.ensures.size)))

pub returns-in_err-bytes-clause-keeps : goal.returns-in_err-bytes-clause-keeps
returns-in_err-bytes-clause-keeps g c = store_twice _ _ _ c.open.ensures.keeps c.read_all.ensures.keeps

pub returns-clause-keeps : goal.returns-clause-keeps
returns-clause-keeps g c = store_twice _ _ _ c.open.ensures.keeps c.read_all.ensures.keeps
