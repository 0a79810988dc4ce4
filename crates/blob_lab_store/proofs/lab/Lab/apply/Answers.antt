use Rattle.std.proofs.Common.{◌≡◌, ap, refl}
use Rattle.blob_script.specs.Acts.{Crash, act_of}
use Rattle.blob_draws.specs.Rows.{table_of}
use Rattle.blob_lab_store.proofs.AskSteps.{stands_kept}
use Rattle.blob_lab_store.proofs.NamedCalls.{crash_done, crash_failed}
use Rattle.blob_lab_store.proofs.lab.Lab.apply.Goals as goal

pub returns-in-Ok : goal.returns-in-Ok
returns-in-Ok c =
    let is : act_of c.args.call.now ≡ Crash = ap act_of c.in-Crash.is in
    rw is (crash_done c.args.self.now _ refl refl refl c.in-Ok.ensures.numbers.config _ (table_of c.in-Ok.selections) refl refl c.in-Ok.ensures.rows c.in-Ok.ensures.stands)

pub returns-in-Err : goal.returns-in-Err
returns-in-Err c =
    let is : act_of c.args.call.now ≡ Crash = ap act_of c.in-Crash.is in
    rw is (crash_failed c.args.self.now _ refl refl refl c.in-Err.ensures.numbers.config _ c.in-Err.ensures.memory
    (λ f s. stands_kept c.args.self.now.wrapper c.crash.new.self f c.in-Err.ensures.directory c.in-Err.ensures.unchanged c.in-Err.ensures.records s))
