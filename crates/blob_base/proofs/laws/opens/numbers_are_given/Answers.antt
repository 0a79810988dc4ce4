use Rattle.std.proofs.Common.{ap, sym, ◌∙◌}
use Rattle.std.specs.Prelude.{is_some}
use Rattle.blob_model.proofs.Opened.{current_is}
use Rattle.blob_base.proofs.laws.opens.numbers_are_given.Goals as goal

pub returns-clause-current : goal.returns-clause-current
returns-clause-current g c = λ s p n o here. g.met.S.Durable.given s o (current_is (g.S.Durable.directory s) p n o here)

pub returns-clause-durable : goal.returns-clause-durable
returns-clause-durable g c = λ s o bytes holds. g.met.S.Durable.given s o (sym (g.met.S.Durable.currents s o) ∙ ap is_some holds)
