use Rattle.std.proofs.Common.{◌≡◌, ◌<◌, ℕ, List, Some, ap, ap₂, arith, refl, rules, subst, sym, ◌∙◌}
use Rattle.std.specs.Prelude.{codes}
use Rattle.std.specs.Int.{w64, to_be_bytes}
use Rattle.blob_header.specs.Refusals.{error_of, refusal_of}
use Rattle.blob_model.specs.Directory.{current, is_current}
use Rattle.blob_model.specs.Files.{admit}
use Rattle.blob_model.specs.Places.{Place}
use Rattle.blob_memory.specs.Store.{directory, durable, place}
use Rattle.blob_memory.specs.declared.storage.Storage as memory
use Rattle.blob_faulty.specs.Wrapper.{inner_of, inside, pending_of}
use Rattle.blob_journal.specs.Currents.{HasNoBlob}
use Rattle.blob_journal.specs.Limits.{IsLimit}
use Rattle.blob_journal.proofs.Blobs.{blob_same, blob_twice, partition_beside}
use Rattle.blob_journal.proofs.Currents.{current_of_name}
use Rattle.blob_journal.proofs.Fixed.{incarnation_stays, incarnations_same}
use Rattle.blob_journal.proofs.Standing.{retired_at}
use Rattle.blob_journal.specs.Stores.{KeepsStoreBut}
use Rattle.blob_journal.proofs.Stores.{store_same, store_then, store_twice}
use Rattle.blob_journal.proofs.recovery.next_journal.Goals as goal

pub returns-in_err-discard-clause-incarnations : goal.returns-in_err-discard-clause-incarnations
returns-in_err-discard-clause-incarnations g c = λ n o is.
    incarnation_stays (codes "f") n c.args.store.now c.discard.new.store o (partition_beside c.args.store.now c.discard.new.store c.to_be_bytes-name.result c.discard.ensures.others n) is

pub returns-in_err-journal-clause-incarnations : goal.returns-in_err-journal-clause-incarnations
returns-in_err-journal-clause-incarnations g c = λ n o is. c.open.ensures.keeps.incarnations (codes "f") n o
    (incarnation_stays (codes "f") n c.args.store.now c.discard.new.store o (partition_beside c.args.store.now c.discard.new.store c.to_be_bytes-name.result c.discard.ensures.others n) is)

pub returns-clause-incarnations : goal.returns-clause-incarnations
returns-clause-incarnations g c = λ n o is. incarnations_same c.open.new.store c.admit.new.self (ap (λ (s : memory.Storage). directory s) c.admit.ensures.inner) (codes "f") n o
    (c.open.ensures.keeps.incarnations (codes "f") n o
    (incarnation_stays (codes "f") n c.args.store.now c.discard.new.store o (partition_beside c.args.store.now c.discard.new.store c.to_be_bytes-name.result c.discard.ensures.others n) is))

pub returns-in_err-discard-clause-errors : goal.returns-in_err-discard-clause-errors
returns-in_err-discard-clause-errors g c = λ q.
    let said : error_of c.from_residual.result ≡ Some (refusal_of c.in_err-discard.field-0.0) = search rules in
    subst (IsLimit _) (sym (said ∙ c.in_err-discard.ensures.errors q.0 refl)) tt

pub returns-in_err-journal-clause-errors : goal.returns-in_err-journal-clause-errors
returns-in_err-journal-clause-errors g c = λ q.
    let said : error_of c.from_residual-in_err-journal.result ≡ error_of c.open.result = search rules in
    subst (IsLimit _) (sym said) (c.open.ensures.errors (c.discard.ensures.keeps.faults ∙ q.0, c.discard.ensures.keeps.accepted q.1))

pub returns-clause-blobs : goal.returns-clause-blobs
returns-clause-blobs g c = λ n.
    let old = c.args.store.now in
    let gone = c.discard.new.store in
    let opened = c.open.new.store in
    let inner = c.admit.ensures.inner in
    blob_twice (codes "f") n old gone c.admit.new.self (partition_beside old gone c.to_be_bytes-name.result c.discard.ensures.others n)
    (blob_twice (codes "f") n gone opened c.admit.new.self (c.in_ok-journal.ensures.blobs n)
    (blob_same (codes "f") n opened c.admit.new.self (ap (λ (s : memory.Storage). directory s) inner) (ap (λ (s : memory.Storage). durable s) inner)))

pub returns-clause-live : goal.returns-clause-live
returns-clause-live g c =
    let none = subst (λ (n : List ℕ). HasNoBlob (codes "j") n c.discard.new.store) c.to_be_bytes-name.ensures c.in_ok-discard.ensures.gone in
    c.in_ok-journal.ensures.bytes ∙ c.in_ok-journal.ensures.begun none

pub returns-clause-numbered : goal.returns-clause-numbered
returns-clause-numbered g c =
    let none = subst (λ (n : List ℕ). HasNoBlob (codes "j") n c.discard.new.store) c.to_be_bytes-name.ensures c.in_ok-discard.ensures.gone in
    let a = c.discard.ensures.keeps.next in
    let b = c.in_ok-journal.ensures.numbered none in
    omega (arith, a, b)

pub returns-clause-given : goal.returns-clause-given
returns-clause-given g c = subst (λ (s : memory.Storage). (place (inside c.in_ok-journal.journal.blob)).number < (directory s).next) (sym c.admit.ensures.inner) c.in_ok-journal.ensures.given

pub returns-clause-empty : goal.returns-clause-empty
returns-clause-empty g c =
    let opened = c.open.new.store in
    let made : Place = place (inside c.in_ok-journal.journal.blob) in
    let inner : inner_of c.admit.new.self ≡ inner_of opened = c.admit.ensures.inner in
    let none = subst (λ (n : List ℕ). HasNoBlob (codes "j") n c.discard.new.store) c.to_be_bytes-name.ensures c.in_ok-discard.ensures.gone in
    let called : c.to_be_bytes-name.result ≡ made.name = c.to_be_bytes-name.ensures ∙ ap (λ (n : ℕ). to_be_bytes w64 n) (sym c.in_ok-journal.ensures.generation) ∙ sym c.in_ok-journal.ensures.name in
    let named : current (directory (inner_of opened)) (codes "j") c.to_be_bytes-name.result ≡ Some made =
    ap₂ (λ (p n : List ℕ). current (directory (inner_of opened)) p n) (sym c.in_ok-journal.ensures.partition) called
    ∙ current_of_name (directory (inner_of opened)) made c.in_ok-journal.ensures.current in
    record {
      current = ap (λ (s : memory.Storage). is_current (directory s) made) inner ∙ c.in_ok-journal.ensures.current;
      durable = ap (λ (s : memory.Storage). durable s made) inner ∙ c.in_ok-journal.ensures.durable ∙ ap Some (c.in_ok-journal.ensures.begun none);
      pending = c.admit.ensures.pending made ∙ retired_at (pending_of (λ (o : Place). o) opened) (current (directory (inner_of opened)) (codes "j") c.to_be_bytes-name.result) made named;
    }

pub returns-clause-name : goal.returns-clause-name
returns-clause-name g c = c.in_ok-journal.ensures.name ∙ ap (λ (n : ℕ). to_be_bytes w64 n) c.in_ok-journal.ensures.generation

pub returns-in_err-discard-clause-keeps : goal.returns-in_err-discard-clause-keeps
returns-in_err-discard-clause-keeps g c = subst (λ (n : List ℕ). KeepsStoreBut (codes "j") n c.args.store.now c.discard.new.store) c.to_be_bytes-name.ensures c.discard.ensures.keeps

pub returns-in_err-journal-clause-keeps : goal.returns-in_err-journal-clause-keeps
returns-in_err-journal-clause-keeps g c =
    store_then _ _ _ _ _ (subst (λ (n : List ℕ). KeepsStoreBut (codes "j") n c.args.store.now c.discard.new.store) c.to_be_bytes-name.ensures c.discard.ensures.keeps) c.open.ensures.keeps

pub returns-clause-keeps : goal.returns-clause-keeps
returns-clause-keeps g c =
    let opened = c.open.new.store in
    let same : directory (inner_of c.admit.new.self) ≡ directory (inner_of opened) = ap (λ (s : memory.Storage). directory s) c.admit.ensures.inner in
    store_then _ _ _ _ _ (subst (λ (n : List ℕ). KeepsStoreBut (codes "j") n c.args.store.now c.discard.new.store) c.to_be_bytes-name.ensures c.discard.ensures.keeps)
    (store_twice _ _ _ c.open.ensures.keeps (store_same opened c.admit.new.self same
    (λ r. (admit r.0 (codes "j") c.to_be_bytes-name.result, c.admit.ensures.stands r.0 r.1))
    (λ o test k. c.same_bytes.ensures.admitted opened c.admit.new.self (codes "j") c.to_be_bytes-name.result o test same c.admit.ensures.stands k)
    c.admit.ensures.numbers.config))
