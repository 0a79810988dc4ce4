use Rattle.blob_faulty.proofs.CertainAnswers.{quiet_draw}
use Rattle.blob_faulty.proofs.laws.names.without_faults.Goals as goal

pub returns-clause-opens : goal.returns-clause-opens
returns-clause-opens g c s p n first last answer never = quiet_draw s.config.open_rate (g.R.Rng.stream s.rng) (g.S.Storage.allows_open s.inner p n first last) answer never

pub returns-clause-removals : goal.returns-clause-removals
returns-clause-removals g c s p n answer never = quiet_draw s.config.remove_rate (g.R.Rng.stream s.rng) (g.S.Storage.allows_remove s.inner p n) answer never

pub returns-clause-scans : goal.returns-clause-scans
returns-clause-scans g c s p answer never = quiet_draw s.config.scan_rate (g.R.Rng.stream s.rng) (g.S.Storage.allows_scan s.inner p) answer never
