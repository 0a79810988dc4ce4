use Rattle.std.proofs.Common.{rules, arith, ◌≡◌, ◌<◌, get_or, length}
use Rattle.std.specs.Prelude.{Result, Ok, Err, OnOk}
use Rattle.blob_states.specs.Recorded.{names_of}
use Rattle.blob_states.proofs.NamesSoFar.{names_more}
use Rattle.blob_states.proofs.replay.go_on.Goals as goal

-- what holds either way
on_ok : {T E P : Type 0} (r : Result T E) → P → OnOk r P
on_ok (Ok x) p = p
on_ok (Err e) p = tt

pub returns-clause-names : goal.returns-clause-names
returns-clause-names c =
    let run = c.args.run.now in
    let i = c.args.index in
    let x = c.index.result.now in
    let below : i < length run.calls.items = omega (arith, c.requires.within, c.if-index-end.false) in
    let is : x ≡ get_or run.calls.items i x = search rules in
    on_ok c.advance.result (λ more before.
    names_more (names_of c.args.names.now.items) (names_of c.add_opened.new.names.items) run i x c.in_ok-add_opened.ensures.kept below is c.in_ok-add_opened.ensures.opened before)
