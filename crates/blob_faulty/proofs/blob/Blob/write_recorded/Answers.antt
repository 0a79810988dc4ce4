use Rattle.std.proofs.Common.{rules, ◌≡◌, ◌∙◌, ◌<◌, ◌++◌, ◌∷◌, [], cond, length, arith, refl, sym, subst, ap, List, ℕ, ◌+◌, ◌^◌}
use Rattle.std.specs.Prelude.{IsSome, None, ◌==◌, ◌-◌, false}
use Rattle.std.proofs.lemmas.Bool.{cond-true}
use Rattle.std.proofs.lemmas.Grind.{common_steps}
use Rattle.blob_header.specs.Refusals.{error_of}
use Rattle.blob_model.specs.Durable.{with_at}
use Rattle.blob_model.specs.Holes.{need_in}
use Rattle.blob_model.specs.Log.{Write, has_bare, need_of}
use Rattle.blob_model.specs.Pending.{Pending, Waiting}
use Rattle.blob_model.proofs.Steps.{new_has_bare}
use Rattle.blob_draws.specs.Faults.{new_write}
use Rattle.blob_pending.specs.Lists.{list_of}
use Rattle.blob_pending.specs.Ranges.{ranges}
use Rattle.blob_pending.specs.declared.extent.Extent.{Extent}
use Rattle.blob_faulty.specs.declared.storage.Storage.{Storage}
use Rattle.blob_faulty.specs.Wrapper.{GainsWrite}
use Rattle.blob_faulty.proofs.Plainly.{allowed_behind, asked_behind, same_view, pushed, refused_behind, relisted, same_rest, unasked, unwritten}
use Rattle.blob_faulty.proofs.blob.Blob.write_recorded.Goals as goal

-- of a write that nothing covers yet something is left
fresh : (w : Write) (hs : List Extent) → hs ≡ [] → 0 < length w.bytes → cond (has_bare (need_in w (ranges hs))) (Waiting (need_in w (ranges hs)) ∷ []) [] ≡ Waiting (need_of w []) ∷ []
fresh w hs none some =
    ap (λ (l : List Extent). cond (has_bare (need_in w (ranges l))) (Waiting (need_in w (ranges l)) ∷ []) []) none
    ∙ cond-true (has_bare (need_of w [])) (Waiting (need_of w []) ∷ []) [] (new_has_bare w some)

pub returns-clause-recorded : goal.returns-clause-recorded
returns-clause-recorded g c =
    let place = g.S.Durable.place in
    let mid : Storage g.row.S.Denot g.row.R.Denot g.row.S-Origin.Denot = record c.args.store.now { lists = c.room_for.new.self } in
    let done = c.write_unrecorded.new.store in
    let end : Storage g.row.S.Denot g.row.R.Denot g.row.S-Origin.Denot = record done { lists = c.push_write.new.self; next_write = done.next_write + 1 } in
    let lists = done.lists.all.lists.items in
    let copy = c.in_ok-copy.copy in
    let write : Write = new_write done.next_write c.args.offset copy c.args.config in
    let some : 0 < length copy = subst (λ (b : List ℕ). 0 < length b) (sym c.in_ok-copy.ensures) c.requires.some in
    let gains : GainsWrite place done end c.in_ok-list.list c.args.offset copy c.args.config = λ o at a.
    c.push_write.ensures o at a ∙ ap (λ (r : List Pending). with_at (list_of place lists) o (list_of place lists o ++ r) a) (fresh write c.new-holes.result.items c.new-holes.ensures.items some) in
    pushed g.S.Durable g.B.Blob c.args.self.now c.write_unrecorded.new.self c.args.store.now mid done c.args.offset c.args.bytes.now end _ c.in_ok-list.list c.args.config
    refl c.requires.some c.requires.retained refl c.room_for.ensures.same c.in_ok-list.ensures.ok.at c.write_unrecorded.ensures.rest c.in_ok-write_unrecorded.ensures.wrote
    (subst (λ (b : List ℕ). GainsWrite place done end c.in_ok-list.list c.args.offset b c.args.config) c.in_ok-copy.ensures gains) refl

pub returns-in_err-write_unrecorded-clause-recorded : goal.returns-in_err-write_unrecorded-clause-recorded
returns-in_err-write_unrecorded-clause-recorded g c =
    let mid : Storage g.row.S.Denot g.row.R.Denot g.row.S-Origin.Denot = record c.args.store.now { lists = c.room_for.new.self } in
    let r = c.write_unrecorded in
    let same : error_of r.result ≡ error_of c.from_residual-in_err-write_unrecorded.result = first_of (search rules, cc, grind (arith, common_steps)) in
    let some : IsSome (error_of r.result) = first_of (search rules, cc, grind (arith, common_steps)) in
    rw (sym same) (refused_behind g.S.Durable g.B.Blob c.args.self.now r.new.self c.args.store.now mid r.new.store c.args.offset c.args.bytes.now _ (error_of r.result) refl some
    (relisted g.S.Durable g.B.Blob c.args.self.now c.args.self.now c.args.store.now mid refl refl refl c.room_for.ensures.same) (same_rest g.S.Durable g.B.Blob c.args.self.now r.new.self mid r.new.store r.ensures.rest) (first_of (search rules, cc)) r.ensures.wrote)

-- Refused.

pub returns-then-store-clause-recorded : goal.returns-then-store-clause-recorded
returns-then-store-clause-recorded g c = unasked _ _ _ _ _ _ refl refl (same_view _)

pub returns-in_err-list-clause-recorded : goal.returns-in_err-list-clause-recorded
returns-in_err-list-clause-recorded g c =
    let some : IsSome (error_of c.from_residual.result) = first_of (search rules, grind (arith, common_steps)) in
    unasked _ _ _ _ _ _ some (unwritten _ _ _ _ some) (relisted g.S.Durable g.B.Blob c.args.self.now c.args.self.now c.args.store.now (record c.args.store.now { lists = c.room_for.new.self }) refl refl refl c.room_for.ensures.same)

pub returns-in_err-copy-clause-recorded : goal.returns-in_err-copy-clause-recorded
returns-in_err-copy-clause-recorded g c =
    let some : IsSome (error_of c.from_residual-in_err-copy.result) = first_of (search rules, grind (arith, common_steps)) in
    unasked _ _ _ _ _ _ some (unwritten _ _ _ _ some) (relisted g.S.Durable g.B.Blob c.args.self.now c.args.self.now c.args.store.now (record c.args.store.now { lists = c.room_for.new.self }) refl refl refl c.room_for.ensures.same)

-- What it may return, and what was asked.

pub returns-clause-allowed : goal.returns-clause-allowed
returns-clause-allowed g c =
    let left : (c.args.store.now.next_write == 2 ^ 64 - 1) ≡ false = first_of (search rules, grind (arith, common_steps)) in
    allowed_behind g.B.Blob c.args.self.now c.args.store.now (record c.args.store.now { lists = c.room_for.new.self }) c.args.offset c.args.bytes.now _ None refl refl left c.in_ok-write_unrecorded.ensures.allowed

pub returns-clause-asked : goal.returns-clause-asked
returns-clause-asked g c =
    asked_behind g.B.Blob c.args.self.now c.args.store.now (record c.args.store.now { lists = c.room_for.new.self }) c.args.offset c.args.bytes.now _ None c.write_unrecorded.new.self c.write_unrecorded.new.store.inner (record c.write_unrecorded.new.store { lists = c.push_write.new.self; next_write = c.write_unrecorded.new.store.next_write + 1 }) refl refl
    refl c.in_ok-write_unrecorded.ensures.asked

pub returns-in_err-write_unrecorded-clause-allowed : goal.returns-in_err-write_unrecorded-clause-allowed
returns-in_err-write_unrecorded-clause-allowed g c =
    let left : (c.args.store.now.next_write == 2 ^ 64 - 1) ≡ false = first_of (search rules, grind (arith, common_steps)) in
    let r = c.write_unrecorded in
    let same : error_of r.result ≡ error_of c.from_residual-in_err-write_unrecorded.result = first_of (search rules, cc, grind (arith, common_steps)) in
    rw (sym same) (allowed_behind g.B.Blob c.args.self.now c.args.store.now (record c.args.store.now { lists = c.room_for.new.self }) c.args.offset c.args.bytes.now _ (error_of r.result) refl refl left r.ensures.allowed)

-- The entry is of the bytes that were copied.

pub invariant_of-write-clause-fits : goal.invariant_of-write-clause-fits
invariant_of-write-clause-fits g c = subst (λ (b : List ℕ). c.args.offset + length b < 2 ^ 64) (sym c.in_ok-copy.ensures) (omega arith)

pub invariant_of-write-clause-some : goal.invariant_of-write-clause-some
invariant_of-write-clause-some g c = subst (λ (b : List ℕ). 0 < length b) (sym c.in_ok-copy.ensures) c.requires.some
