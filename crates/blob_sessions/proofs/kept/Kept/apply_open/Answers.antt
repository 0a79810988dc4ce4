use Rattle.std.proofs.Common.{rules, refl}
use Rattle.blob_sessions.proofs.TypedCalls.{applied, IsPerformed}
use Rattle.blob_sessions.proofs.kept.Kept.apply_open.Goals.{then-asked-eq-OPEN, else-asked-eq-OPEN}
use Rattle.blob_sessions.proofs.kept.Kept.apply_open.Goals as goal

pub returns-clause-applies : goal.returns-clause-applies
returns-clause-applies c =
    let performed : IsPerformed c.args.self.now.lab c.if-asked-eq-OPEN.self.1.0 c.args.asked.now c.args.partition.now c.args.name.now c.if-asked-eq-OPEN.reply = elim c.if-asked-eq-OPEN.branch [
      | then-asked-eq-OPEN w ↦ search rules
      | else-asked-eq-OPEN w ↦ search rules
    ] in
    applied c.args.self.now _ c.args.asked.now c.args.partition.now c.args.name.now performed.act c.if-asked-eq-OPEN.reply c.last.result performed.built
    (record { performs = performed.performs; last = refl; debts = refl }) refl c.last.ensures
