use Rattle.std.proofs.Common.{◌≡◌, IsTrue}
use Rattle.sql_sessions.specs.Left.{NeverLies}
use Rattle.sql_sessions.specs.Retries.{StandFor}
use Rattle.sql_sessions.proofs.retries.open_again.Given as goal

abbrev pub invariant-loop : goal.invariant-loop
invariant-loop g l = record {
  log : IsTrue (g.D.Disk.is_usable l.files.log);
  db : IsTrue (g.D.Disk.is_usable l.files.db);
  first : l.counter ≡ 0 → l.files ≡ l.fn.files;
  stand : NeverLies g.D.Disk → StandFor g.D.Disk l.fn.files l.files;
}
