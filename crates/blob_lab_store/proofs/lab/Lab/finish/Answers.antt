use Rattle.std.proofs.Common.{refl, sym, ap, subst, Result}
use Rattle.blob_header.specs.Refusals.{error_of}
use Rattle.blob_header.specs.declared.error.Error.{Error}
use Rattle.blob_lab_model.specs.Answers.{unless_denied}
use Rattle.blob_lab_model.specs.Scripted.{scripted_stream}
use Rattle.blob_lab_store.specs.Tables.{started_by}
use Rattle.blob_script.specs.Told as told
use Rattle.blob_script.specs.Told.{Tells}
use Rattle.blob_script.specs.declared.reply.Reply.TheVariants.{Done, Failed}
use Rattle.blob_lab_store.proofs.CallSteps.{finish_some, finish_none}
use Rattle.blob_lab_store.proofs.lab.Lab.finish.Goals as goal

pub returns-in_default : goal.returns-in_default
returns-in_default c = finish_none c.args.self.now _ refl refl c.args.number (sym c.in_default.ensures.sync) refl c.in_default.ensures.none

pub returns-in-Ok : goal.returns-in-Ok
returns-in-Ok c =
    finish_some c.args.self.now _ refl refl c.args.number (started_by c.in-Some.started) _ (sym c.in-Some.ensures.sync)
    (subst (λ (r : Result (Unit {0}) Error). Tells Done (unless_denied (error_of r) told.Done)) c.in-Ok.ensures.outcome tt)
    c.in-Some.ensures.taken c.in-Ok.ensures.leaves.numbers.config (ap scripted_stream c.in-Ok.ensures.leaves.rng) c.in-Ok.ensures.files

pub returns-in-Err : goal.returns-in-Err
returns-in-Err c =
    finish_some c.args.self.now _ refl refl c.args.number (started_by c.in-Some.started) _ (sym c.in-Some.ensures.sync)
    (subst (λ (r : Result (Unit {0}) Error). Tells (Failed c.in-Err.e) (unless_denied (error_of r) told.Done)) c.in-Err.ensures.outcome refl)
    c.in-Some.ensures.taken c.in-Err.ensures.leaves.numbers.config (ap scripted_stream c.in-Err.ensures.leaves.rng) c.in-Err.ensures.files
