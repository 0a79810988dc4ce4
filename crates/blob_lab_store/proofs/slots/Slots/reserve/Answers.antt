use Rattle.std.proofs.Common.{rules, ◌≡◌, ◌<◌, ◌∙◌, ◌^◌, ◌-◌, ap, arith}
use Rattle.blob_lab_store.proofs.slots.Slots.reserve.Goals as goal
use Rattle.blob_lab_store.proofs.slots.Slots.reserve.Goals.{then-self-ge-MANY+then-self-len, else-self-ge-MANY}

pub returns-clause-room : goal.returns-clause-room
returns-clause-room g c =
    let given : c.if-self-ge-MANY.self.given ≡ c.args.self.now.given = elim c.if-self-ge-MANY.branch [
      | then-self-ge-MANY+then-self-len w ↦ ap (λ s. s.given) w.self-is ∙ w.drop_empty.ensures.given
      | else-self-ge-MANY w ↦ ap (λ s. s.given) w.self-is
    ] in
    let below : c.args.self.now.given < 2 ^ 64 - 1 = search rules in
    (search rules, search rules, omega (arith, given, below))
