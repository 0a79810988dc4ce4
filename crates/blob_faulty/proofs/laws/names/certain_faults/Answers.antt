use Rattle.blob_faulty.proofs.CertainAnswers.{draw_fails}
use Rattle.blob_faulty.proofs.laws.names.certain_faults.Goals as goal

pub returns-clause-opens : goal.returns-clause-opens
returns-clause-opens g c s p n first last always = draw_fails s.config.open_rate (g.R.Rng.stream s.rng) (g.S.Storage.allows_open s.inner p n first last) always

pub returns-clause-removals : goal.returns-clause-removals
returns-clause-removals g c s p n always = draw_fails s.config.remove_rate (g.R.Rng.stream s.rng) (g.S.Storage.allows_remove s.inner p n) always

pub returns-clause-scans : goal.returns-clause-scans
returns-clause-scans g c s p always = draw_fails s.config.scan_rate (g.R.Rng.stream s.rng) (g.S.Storage.allows_scan s.inner p) always
