use Rattle.std.proofs.Common.{rules, arith, ◌≡◌, string_bytes}
use Rattle.blob_states.proofs.NamesSoFar.{known}
use Rattle.blob_states.proofs.names.has.Goals as goal

pub returns-then-eq-2 : goal.returns-then-eq-2
returns-then-eq-2 c =
    let x = c.known-item.result in
    let first : string_bytes x.0 ≡ c.args.partition.now = search rules in
    let second : x.1.items ≡ c.args.name.now = search rules in
    known c.args.names.now c.loop-known.known-index x c.args.partition.now c.args.name.now (omega arith) c.known-item.is first second
