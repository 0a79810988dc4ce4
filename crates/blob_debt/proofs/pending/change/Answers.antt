use Rattle.std.proofs.Common.{rules, ◌≡◌, None, Some, ap, sym, ◌∙◌, is_some, true}
use Rattle.blob_names.specs.Names.{at, with_name}
use Rattle.blob_debt.specs.History.{events}
use Rattle.blob_debt.specs.Debts.{standing_of, standing, operation_of}
use Rattle.blob_debt.proofs.Keeping.{keeps_done, keeps_nothing}
use Rattle.blob_names.proofs.NameMaps.{with_at_twice, with_at_here}
use Rattle.blob_debt.proofs.pending.change.Goals as goal

pub returns-then-not-exchange : goal.returns-then-not-exchange
returns-then-not-exchange c = λ h k. rw (← c.as_str-partition.ensures.value, ← c.as_slice-name.ensures.value)
    (keeps_nothing c.args.names.now c.exchange.new.self c.as_str-partition.result.now c.as_slice-name.result.now c.args.change h c.if-not-exchange.ensures.same (search rules) k)

pub returns-then-apply : goal.returns-then-apply
returns-then-apply c = λ h k.
    let p = c.as_str-partition.result.now in
    let n = c.as_slice-name.result.now in
    let was : standing_of (Some c.exchange.new.value) ≡ standing (events h p n) = ap standing_of (sym c.if-not-exchange.ensures.taken) ∙ k.standing p n in
    rw (← c.as_str-partition.ensures.value, ← c.as_slice-name.ensures.value)
    (keeps_done c.args.names.now c.remove.new.self p n None (operation_of c.args.change) h
    (c.remove.ensures ∙ ap (λ f. with_name f p n None) c.if-not-exchange.ensures.given ∙ with_at_twice (at c.args.names.now) p n (Some c.opened-entry.result) None)
    (c.if-apply.ensures (events h p n) was)
    k)

pub returns : goal.returns
returns c = λ h k.
    let p = c.as_str-partition.result.now in
    let n = c.as_slice-name.result.now in
    let was : standing_of (Some c.exchange.new.value) ≡ standing (events h p n) = ap standing_of (sym c.if-not-exchange.ensures.taken) ∙ k.standing p n in
    let lent : at c.exchange.new.self ≡ with_name (at c.args.names.now) p n (Some c.opened-entry.result) = c.if-not-exchange.ensures.given in
    let there : c.exchange-else-apply.result ≡ true = c.exchange-else-apply.ensures.found ∙ ap (λ f. is_some (f p n)) lent ∙ ap is_some (with_at_here (at c.args.names.now) p n (Some c.opened-entry.result)) in
    let put : at c.exchange-else-apply.new.self ≡ with_name (at c.exchange.new.self) p n (Some c.apply.new.self) = rw there at c.exchange-else-apply.ensures.given in
    rw (← c.as_str-partition.ensures.value, ← c.as_slice-name.ensures.value)
    (keeps_done c.args.names.now c.exchange-else-apply.new.self p n (Some c.apply.new.self) (operation_of c.args.change) h
    (put ∙ ap (λ f. with_name f p n (Some c.apply.new.self)) lent ∙ with_at_twice (at c.args.names.now) p n (Some c.opened-entry.result) (Some c.apply.new.self))
    (c.if-apply.ensures (events h p n) was)
    k)
