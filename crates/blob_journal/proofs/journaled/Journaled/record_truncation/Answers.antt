use Rattle.std.proofs.Common.{subst}
use Rattle.std.specs.Prelude.{OnOk}
use Rattle.blob_directory.specs.Names.{Edit}
use Rattle.blob_journal.specs.Draws.{EndsWithEdit}
use Rattle.blob_journal.specs.Unchanged.{TellsEdit}
use Rattle.blob_journal.proofs.journaled.Journaled.record_truncation.Goals as goal

pub returns-clause-ends : goal.returns-clause-ends
returns-clause-ends g c = subst (λ (e : Edit). OnOk c.add_edit.result (∥ EndsWithEdit e c.args.rate c.add_edit.new.self ∥₁)) c.in_ok-edit.ensures c.add_edit.ensures.ends

pub returns-clause-tells : goal.returns-clause-tells
returns-clause-tells g c = subst (λ (e : Edit). OnOk c.add_edit.result (TellsEdit e c.args.rate c.args.self.now c.add_edit.new.self)) c.in_ok-edit.ensures c.add_edit.ensures.tells
