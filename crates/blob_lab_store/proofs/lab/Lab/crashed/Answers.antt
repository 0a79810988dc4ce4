use Rattle.std.proofs.Common.{None, refl, ap}
use Rattle.blob_draws.specs.Rows.{table_of}
use Rattle.blob_faulty.specs.Lends.{with_rng}
use Rattle.blob_lab_model.specs.After.{after_act}
use Rattle.blob_lab_model.specs.Scripted.{scripted_stream}
use Rattle.blob_lab_model.specs.States.{State}
use Rattle.blob_lab_store.specs.declared.lab.Lab.{Lab}
use Rattle.blob_lab_store.specs.LabStands.{LabStandsFor, Performs, stream_of}
use Rattle.blob_lab_store.proofs.NamedCalls.{crash_done}
use Rattle.blob_script.specs.Acts.{Crash}
use Rattle.blob_script.specs.declared.reply.Reply.TheVariants.{Crashed}
use Rattle.blob_lab_store.proofs.lab.Lab.crashed.Goals as goal

-- a laboratory that draws from these words, and the one that its crash leaves
pub returns-clause-left : goal.returns-clause-left
returns-clause-left c v stands =
    let lab = c.args.self.now in
    let words = c.args.words.items in
    let left = c.in_ok-left.left in
    let selections = c.in_ok-left.field-0-1 in
    let before : Lab = record lab { wrapper = with_rng lab.wrapper c.new.result } in
    let after : Lab = record lab { wrapper = left } in
    let u : State = record v { stream = scripted_stream (words, None) } in
    let performs : Performs before Crash (Crashed selections) after =
    crash_done before after refl refl refl c.in_ok-left.ensures.numbers.config (Crashed selections) (table_of selections) refl refl c.in_ok-left.ensures.rows c.in_ok-left.ensures.stands in
    let now : LabStandsFor before u = record {
      wrapper = record { files = stands.wrapper.files; config = stands.wrapper.config; stream = ap scripted_stream c.new.ensures };
      names = stands.names;
      handles = stands.handles;
      syncs = stands.syncs;
      given = stands.given;
    } in
    record {
      reply = Crashed selections;
      after = after_act u Crash None (stream_of left);
      done = refl;
      leads = (stream_of left, performs.answers u now, refl);
      wraps = (performs.stands u now).wrapper;
    }
