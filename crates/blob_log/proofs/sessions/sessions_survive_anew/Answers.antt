use Rattle.std.proofs.Common.{ap, ◌∙◌}
use Rattle.std.proofs.lemmas.Result.{IfOk-weaker}
use Rattle.blob_memory.specs.Store.{durable}
use Rattle.blob_log.specs.Held.{Survive, record_bytes}
use Rattle.blob_log.specs.Runs.{RunAnew}
use Rattle.blob_log.proofs.sessions.sessions_survive_anew.Goals as goal

pub returns-clause-ran : goal.returns-clause-ran
returns-clause-ran g c = IfOk-weaker c.sessions_survive.result _ (λ r. RunAnew g.R.Rng.stream c.args.partition.now c.args.name.now c.args.rng c.args.config r.0.items c.args.sessions.now (record_bytes r.1.items))
    (λ r h. record {
      began = c.new-store.result;
      ended = c.sessions_survive.new.store;
      draws = c.new-store.ensures.rng;
      configured = c.new-store.ensures.config;
      nothing = ap durable c.new-store.ensures.inner ∙ c.new-memory.ensures.durable;
      ran = h;
    }) c.sessions_survive.ensures.ran

pub returns-clause-survive : goal.returns-clause-survive
returns-clause-survive g c = IfOk-weaker c.sessions_survive.result _ (λ r. Survive r.0.items c.args.sessions.now (record_bytes r.1.items)) (λ r h. h _ c.new-store.ensures.represents) c.sessions_survive.ensures.survive
