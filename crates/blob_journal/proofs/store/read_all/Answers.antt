use Rattle.std.proofs.Common.{ap, rules, ◌≡◌, arith, subst, sym}
use Rattle.blob_memory.specs.Store.{directory, durable, live, place}
use Rattle.blob_memory.specs.declared.storage.Storage as memory
use Rattle.blob_journal.proofs.Limits.{read_answers}
use Rattle.blob_header.specs.Refusals.{error_of}
use Rattle.blob_faulty.specs.Wrapper.{config_of, inside, rng_of, inner_of}
use Rattle.blob_journal.specs.Limits.{IsLimit}
use Rattle.blob_journal.proofs.Stores.{store_none, store_same}
use Rattle.blob_journal.proofs.store.read_all.Goals as goal

pub returns-in_err-read_into-clause-errors : goal.returns-in_err-read_into-clause-errors
returns-in_err-read_into-clause-errors g c = λ quiet within.
    let old = c.args.store.now in
    let blob = c.args.blob.now in
    let said : error_of c.from_residual-in_err-read_into.result ≡ error_of c.read_into.result = search rules in
    subst (IsLimit _) (sym said) (read_answers _ (config_of old) (g.R.Rng.stream (rng_of old)) (place (inside blob)) (live (inside blob)) 0 _ (error_of c.read_into.result) quiet (omega (arith, within, c.as_mut_slice-buf.ensures.len, c.in_ok-resize.ensures.len)) c.read_into.ensures.allowed)

pub returns-in_err-read_into-clause-keeps : goal.returns-in_err-read_into-clause-keeps
returns-in_err-read_into-clause-keeps g c =
    let before = c.args.store.now in
    let after = c.read_into.new.store in
    let r = c.read_into.ensures in
    let same : directory (inner_of after) ≡ directory (inner_of before) = ap (λ (s : memory.Storage). directory s) r.inner in
    let bytes : durable (inner_of after) ≡ durable (inner_of before) = ap (λ (s : memory.Storage). durable s) r.inner in
    store_same before after same (λ f. (f.0, r.leaves.files f.0 f.1)) (λ o test k. c.same_bytes.ensures.unrecorded before after o test same bytes r.leaves.unrecorded k)
    r.leaves.unrecorded.numbers.config

pub returns-clause-keeps : goal.returns-clause-keeps
returns-clause-keeps g c =
    let before = c.args.store.now in
    let after = c.read_into.new.store in
    let r = c.read_into.ensures in
    let same : directory (inner_of after) ≡ directory (inner_of before) = ap (λ (s : memory.Storage). directory s) r.inner in
    let bytes : durable (inner_of after) ≡ durable (inner_of before) = ap (λ (s : memory.Storage). durable s) r.inner in
    store_same before after same (λ f. (f.0, r.leaves.files f.0 f.1)) (λ o test k. c.same_bytes.ensures.unrecorded before after o test same bytes r.leaves.unrecorded k)
    r.leaves.unrecorded.numbers.config

pub returns-in_err-resize-clause-keeps : goal.returns-in_err-resize-clause-keeps
returns-in_err-resize-clause-keeps g c = store_none c.args.store.now
