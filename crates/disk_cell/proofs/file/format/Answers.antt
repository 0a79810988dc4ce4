use Rattle.std.proofs.Common.{List, ℕ, subst, arith}
use Rattle.std.proofs.lemmas.Result.{on_ok_weaker}
use Rattle.sqlite_disk.specs.Disk.{Only}
use Rattle.disk_cell.proofs.Bytes.{after_format}
use Rattle.disk_cell.proofs.file.format.Goals as goal

pub returns-clause-written : goal.returns-clause-written
returns-clause-written g c =
    let seen = g.D.Disk.seen in
    on_ok_weaker c.sync.result
    (λ only. subst (λ (x : List ℕ). Only x (g.D.Disk.may_leave c.sync.new.self))
    (after_format (seen c.set_len.new.self) (seen c.write_at.new.self) (seen c.write_at-2.new.self) c.args.value.now c.args.version
    c.in_ok-set_len.ensures.len c.write_at.ensures.others c.in_ok-write_at.ensures.written c.write_at-2.ensures.others (c.in_ok-write_at-2.ensures.written (omega arith)))
    only)
    c.sync.ensures.durable
