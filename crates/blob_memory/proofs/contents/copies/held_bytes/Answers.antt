use Rattle.std.proofs.Common.{arith, sym, ◌<◌, ◌^◌}
use Rattle.blob_memory.proofs.Copies.{behind_region}
use Rattle.blob_memory.proofs.contents.copies.held_bytes.Goals as goal

pub returns-clause-found : goal.returns-clause-found
returns-clause-found c =
    let fits : c.args.held.now.version.0 < 2 ^ 16 = omega (arith, c.get-number.ensures, c.get-number.type_inv) in
    sym (behind_region c.args.held.now.layout c.args.held.now.version.0 c.args.held.now.bytes.items fits)
