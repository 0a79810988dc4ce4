use Rattle.std.proofs.Common.{rules, ◌≡◌, ◌∙◌, get_or, Some, position, nat_eq}
use Rattle.blob_pending.proofs.Ending.{found_ends, none_ends}
use Rattle.blob_pending.proofs.partition.has_ending.Goals as goal

pub returns-in_default : goal.returns-in_default
returns-in_default g c ix =
    none_ends g.S.Durable.place c.args.lists.now c.args.numbers.now.keys ix (g.S.Durable.directory c.args.store.now) c.args.partition.now c.args.number.now (search rules)

pub returns-in-Some-get : goal.returns-in-Some-get
returns-in-Some-get g c ix =
    let x = c.in-Some-get.list.now in
    let at : position (nat_eq c.args.number.now) c.args.numbers.now.keys ≡ Some c.in-Some.i = search rules in
    let here : x ≡ get_or c.args.lists.now c.in-Some.i x = search rules in
    c.is_removed.ensures ∙ found_ends g.S.Durable.place c.args.lists.now c.args.numbers.now.keys ix (g.S.Durable.directory c.args.store.now) c.args.partition.now c.args.number.now c.in-Some.i x at here
