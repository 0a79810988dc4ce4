use Rattle.std.proofs.Common.{◌≡◌, sym, subst, arith, inl, inr}
use Rattle.std.proofs.lemmas.Result.{IfOk-weaker, IfErr-weaker}
use Rattle.sqlite_disk.specs.declared.Files.{Files}
use Rattle.sqlite_wal.specs.Reads.{AreClean}
use Rattle.sqlite.specs.Files.{Finds, file_state, image_of}
use Rattle.sqlite.specs.State.{HasCleanDisk}
use Rattle.sql_sessions.specs.Left.{not_a_database}
use Rattle.sql_sessions.specs.Retries.{FindsLeft, MayHoldNone, StandFor}
use Rattle.sql_sessions.proofs.Retrying.{both_clean, clean_left, finds_left, found_before, if_ok_all, none_before, not_refused, stand_itself, stand_then}
use Rattle.sql_sessions.proofs.retries.open_again.Goals as goal

pub returns-in-Ok-clause-clean : goal.returns-in-Ok-clause-clean
returns-in-Ok-clause-clean g c honest = if_ok_all c.in-Ok.done _ (λ conn clean. elim honest [
  | inl none ↦ absurd (omega (arith, c.loop-test.true, none))
  | inr never ↦ both_clean g.D.Disk c.args.files never
])

pub returns-in-Ok-clause-found : goal.returns-in-Ok-clause-found
returns-in-Ok-clause-found g c honest = IfOk-weaker c.in-Ok.done _ (λ conn. HasCleanDisk (file_state conn) → FindsLeft c.args.files conn)
    (λ conn found clean. elim honest [
      | inl none ↦ absurd (omega (arith, c.loop-test.true, none))
      | inr never ↦ found_before g.D.Disk c.args.files c.loop.files (c.loop.invariant.stand never) conn (found clean)
    ])
    c.in-Ok.ensures.found

pub returns-in-Ok-clause-refused : goal.returns-in-Ok-clause-refused
returns-in-Ok-clause-refused g c never = IfErr-weaker c.in-Ok.done _ (λ e. e.0 ≡ not_a_database → MayHoldNone g.D.Disk c.args.files)
    (λ e none is. none_before g.D.Disk c.args.files c.loop.files (c.loop.invariant.stand never) (none is))
    (c.in-Ok.ensures.refused never)

pub loop-preserved : goal.loop-preserved
loop-preserved g c = record {
  log = c.in-Err.ensures.log;
  db = c.in-Err.ensures.db;
  first = λ none. absurd (omega (arith, none));
  stand = λ never. stand_then g.D.Disk c.args.files c.loop.files c.in-Err.left (c.loop.invariant.stand never) (c.in-Err.ensures.stand never);
}

pub returns-clause-clean : goal.returns-clause-clean
returns-clause-clean g c honest = IfOk-weaker c.open_files.result (λ conn. HasCleanDisk (file_state conn) → Finds c.loop.files conn) (λ conn. HasCleanDisk (file_state conn) → AreClean g.D.Disk c.args.files.log c.args.files.db)
    (λ conn found clean. elim honest [
      | inl none ↦ subst (λ (f : Files _). AreClean g.D.Disk f.log f.db) (c.loop.invariant.first (omega (arith, c.loop.auto.counter-end, none))) (found clean).honest
      | inr never ↦ both_clean g.D.Disk c.args.files never
    ])
    c.open_files.ensures.found

pub returns-clause-found : goal.returns-clause-found
returns-clause-found g c honest =
    let old = c.args.files in
    let new = c.loop.files in
    let stand : StandFor g.D.Disk old new = elim honest [
      | inl none ↦ subst (StandFor g.D.Disk old) (sym (c.loop.invariant.first (omega (arith, c.loop.auto.counter-end, none)))) (stand_itself g.D.Disk old)
      | inr never ↦ c.loop.invariant.stand never
    ] in
    IfOk-weaker c.open_files.result (λ conn. HasCleanDisk (file_state conn) → Finds c.loop.files conn) (λ conn. HasCleanDisk (file_state conn) → FindsLeft old conn)
    (λ conn found clean. finds_left g.D.Disk old new stand conn g.met.D.Disk.seen_may_stay (found clean).holds)
    c.open_files.ensures.found

pub returns-clause-refused : goal.returns-clause-refused
returns-clause-refused g c never =
    let new = c.loop.files in
    let stays = g.met.D.Disk.seen_may_stay in
    IfErr-weaker c.open_files.result _ (λ e. e.0 ≡ not_a_database → MayHoldNone g.D.Disk c.args.files)
    (λ e cause is. none_before g.D.Disk c.args.files new (c.loop.invariant.stand never)
    ∣ (image_of g.D.Disk new, (stays new.log, stays new.db), λ held. not_refused new e ∣ held ∣₁ (cause (clean_left g.D.Disk e.1 never)) is) ∣₁)
    c.open_files.ensures.cause
