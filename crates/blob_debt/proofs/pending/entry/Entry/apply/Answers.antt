use Rattle.std.proofs.Common.{◌≡◌, ap, ◌∙◌}
use Rattle.std.specs.Option.{option_or}
use Rattle.blob_debt.proofs.Steps.{settled, closed}
use Rattle.blob_debt.proofs.pending.entry.Entry.apply.Goals as goal

pub returns-else-ne : goal.returns-else-ne
returns-else-ne c = λ es same.
    let made : c.or.result ≡ option_or c.in-Settle.failure c.args.self.now.failure = c.or.ensures ∙ ap (option_or c.in-Settle.failure) c.take.ensures.value in
    rw (c.is_over.ensures, c.in-Settle.is) (settled c.args.self.now es c.in-Settle.token c.in-Settle.dirty c.in-Settle.failure c.or.result made same c.if-ne.ensures)

pub returns-else-self-generation-3 : goal.returns-else-self-generation-3
returns-else-self-generation-3 c = λ es same. rw (c.is_over-in-Close.ensures, c.in-Close.is) (closed c.args.self.now es c.in-Close.generation same c.if-self-generation-3.false)
