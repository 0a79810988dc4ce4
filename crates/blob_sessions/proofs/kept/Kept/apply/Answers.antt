use Rattle.std.proofs.Common.{rules, refl}
use Rattle.blob_sessions.specs.Typed.{IsNoTypedCall}
use Rattle.blob_sessions.proofs.TypedCalls.{applied, not_applied, same_kept, IsPerformed}
use Rattle.blob_sessions.proofs.kept.Kept.apply.Goals.{in-3, in-4, in-5, in-6, in-7, in-8, in-12, in-13, in_default, in_default-2}
use Rattle.blob_sessions.proofs.kept.Kept.apply.Goals as goal

pub returns-clause-applies : goal.returns-clause-applies
returns-clause-applies c =
    let performed : IsPerformed c.args.self.now.lab c.match-asked.self.1.0 c.args.asked.now c.args.partition.now c.args.name.now c.match-asked.reply = elim c.match-asked.branch [
      | in-3 w ↦ search rules
      | in-4 w ↦ search rules
      | in-5 w ↦ search rules
      | in-6 w ↦ search rules
      | in-7 w ↦ search rules
      | in-8 w ↦ search rules
      | in-12 w ↦ search rules
      | in-13 w ↦ search rules
    ] in
    applied c.args.self.now _ c.args.asked.now c.args.partition.now c.args.name.now performed.act c.match-asked.reply c.last.result performed.built
    (record { performs = performed.performs; last = refl; debts = refl }) refl c.last.ensures

pub returns-in_default-kind-clause-applies : goal.returns-in_default-kind-clause-applies
returns-in_default-kind-clause-applies c =
    let none : IsNoTypedCall c.args.asked.now c.args.partition.now c.args.name.now = elim c.if-asked-lt9.branch [
      | in_default w ↦ search rules
      | in_default-2 w ↦ search rules
    ] in
    not_applied c.args.self.now _ c.args.asked.now c.args.partition.now c.args.name.now _ none (same_kept c.args.self.now _) c.stopped.ensures
