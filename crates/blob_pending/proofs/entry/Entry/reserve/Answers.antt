use Rattle.std.proofs.Common.{◌+◌, length, arith}
use Rattle.std.proofs.lemmas.Result.{on_ok_weaker}
use Rattle.blob_pending.proofs.HoleRoom.{met_few}
use Rattle.blob_pending.proofs.entry.Entry.reserve.Goals as goal

pub returns-clause-ok : goal.returns-clause-ok
returns-clause-ok c = on_ok_weaker c.reserve.result
    (λ room ranges within. let w = c.in-Write.write in
    omega (arith, room, met_few w.offset (w.offset + length w.bytes) c.args.start c.args.end c.args.count ranges (omega (arith, w.some)) within))
    c.reserve.ensures.ok
