use Rattle.std.proofs.Common.{sym, ◌∙◌, ap, subst}
use Rattle.blob_model.specs.Directory.{Directory, is_current}
use Rattle.blob_model.specs.Files.{all_logged}
use Rattle.blob_faulty.specs.Wrapper.{Stands}
use Rattle.blob_faulty.proofs.Leaving.{left_after}
use Rattle.blob_faulty.proofs.laws.outcomes.recorded.Goals as goal

pub returns-clause-stands : goal.returns-clause-stands
returns-clause-stands g c before after o entries files now same s adds =
    subst (λ (d : Directory). Stands g.S.Durable.place d (g.S.Durable.durable after.inner) after (all_logged files o entries)) (sym same) (adds files (g.met.S.Durable.given before.inner o now) s)

pub returns-clause-left : goal.returns-clause-left
returns-clause-left g c before after o entries files t now same s adds =
    left_after g.S.Durable.place (g.S.Durable.directory before.inner) (g.S.Durable.durable before.inner) (g.S.Durable.durable after.inner) before after o entries t files
    (g.met.S.Durable.given before.inner o now)
    (g.met.S.Durable.currents after.inner o ∙ ap (λ (d : Directory). is_current d o) same ∙ sym (g.met.S.Durable.currents before.inner o))
    s adds
