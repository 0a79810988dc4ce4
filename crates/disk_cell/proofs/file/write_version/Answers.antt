use Rattle.std.proofs.Common.{IsTrue, List, ℕ, subst, arith, rules}
use Rattle.std.proofs.lemmas.Result.{on_ok_weaker}
use Rattle.sqlite_disk.specs.Disk.{Only, Torn}
use Rattle.disk_cell.proofs.Bytes.{may_set, one_byte}
use Rattle.disk_cell.proofs.file.write_version.Goals as goal

pub returns-in_err-write_at-clause-kept : goal.returns-in_err-write_at-clause-kept
returns-in_err-write_at-clause-kept g c new left =
    let mixing : IsTrue (g.D.Disk.is_mixing c.args.file.now) = search rules in
    let m = c.write_at.ensures.mixed mixing (omega arith) new left in
    (m.0, m.1, may_set c.args.version m.0 new m.2)

pub returns-clause-written : goal.returns-clause-written
returns-clause-written g c =
    let seen = g.D.Disk.seen c.write_at.new.self in
    on_ok_weaker c.sync.result
    (λ only first rest is. subst (λ (x : List ℕ). Only x (g.D.Disk.may_leave c.sync.new.self))
    (one_byte seen c.args.version first rest (subst (λ (x : List ℕ). Torn 0 1 x seen) is c.write_at.ensures.others) ((c.in_ok-write_at.ensures.written (omega arith)).each 0 (omega arith)))
    only)
    c.sync.ensures.durable

pub returns-clause-kept : goal.returns-clause-kept
returns-clause-kept g c new left =
    let mixing : IsTrue (g.D.Disk.is_mixing c.args.file.now) = search rules in
    let m = c.write_at.ensures.mixed mixing (omega arith) new (c.sync.ensures.crash new left) in
    (m.0, m.1, may_set c.args.version m.0 new m.2)
