use Rattle.std.proofs.Common.{rules, refl}
use Rattle.blob_sessions.proofs.TypedCalls.{applied, IsPerformed}
use Rattle.blob_sessions.proofs.kept.Kept.apply_named.Goals.{in-2, in-9, in-10, in_default-kind-2}
use Rattle.blob_sessions.proofs.kept.Kept.apply_named.Goals as goal

pub returns-clause-applies : goal.returns-clause-applies
returns-clause-applies c =
    let performed : IsPerformed c.args.self.now.lab c.match-asked.self.1.0 c.args.asked.now c.args.partition.now c.args.name.now c.match-asked.reply = elim c.match-asked.branch [
      | in-2 w ↦ search rules
      | in-9 w ↦ search rules
      | in-10 w ↦ search rules
      | in_default-kind-2 w ↦ search rules
    ] in
    applied c.args.self.now _ c.args.asked.now c.args.partition.now c.args.name.now performed.act c.match-asked.reply c.last.result performed.built
    (record { performs = performed.performs; last = refl; debts = refl }) refl c.last.ensures
