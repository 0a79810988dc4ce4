use Rattle.blob_faulty.proofs.CertainAnswers.{quiet_draw, quiet_write, quiet_resize, quiet_start}
use Rattle.blob_faulty.proofs.laws.without_faults.Goals as goal

pub returns : goal.returns
returns g c = record {
  reads = λ b s offset len answer never. quiet_draw s.config.read_rate (g.R.Rng.stream s.rng) (g.B.Blob.allows_read b.inner s.inner offset len) answer never;
  writes = λ b s offset bytes sync answer no_write no_sync some counted left. quiet_write (g.B.Blob.allows_write b.inner s.inner) (g.B.Blob.allows_reserve b.inner s.inner) g.B.Blob.is_direct s.config s.next_write (g.R.Rng.stream s.rng) offset bytes sync answer no_write no_sync some counted left;
  resizes = λ b s len answer never. quiet_resize s.config.resize_rate b.size len (g.R.Rng.stream s.rng) (g.B.Blob.allows_resize b.inner s.inner) answer never;
  syncs = λ b s answer never. quiet_draw s.config.sync_rate (g.R.Rng.stream s.rng) (g.B.Blob.allows_sync b.inner s.inner) answer never;
  started = λ b s answer never left. quiet_start s.config.sync_rate (g.R.Rng.stream s.rng) s.next_marker (g.B.Blob.allows_start_sync b.inner s.inner) answer never left;
}
