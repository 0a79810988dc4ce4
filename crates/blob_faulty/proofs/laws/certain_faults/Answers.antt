use Rattle.blob_faulty.proofs.CertainAnswers.{draw_fails, write_fails, synced_fails, resize_fails, start_fails}
use Rattle.blob_faulty.proofs.laws.certain_faults.Goals as goal

pub returns : goal.returns
returns g c = record {
  reads = λ b s offset len always. draw_fails s.config.read_rate (g.R.Rng.stream s.rng) (g.B.Blob.allows_read b.inner s.inner offset len) always;
  writes = λ b s offset bytes sync always some. write_fails (g.B.Blob.allows_write b.inner s.inner) (g.B.Blob.allows_reserve b.inner s.inner) g.B.Blob.is_direct s.config s.next_write (g.R.Rng.stream s.rng) offset bytes sync always some;
  synced_writes = λ b s offset bytes always some. synced_fails (g.B.Blob.allows_write b.inner s.inner) (g.B.Blob.allows_reserve b.inner s.inner) g.B.Blob.is_direct s.config s.next_write (g.R.Rng.stream s.rng) offset bytes always some;
  resizes = λ b s len always. resize_fails s.config.resize_rate b.size len (g.R.Rng.stream s.rng) (g.B.Blob.allows_resize b.inner s.inner) always;
  syncs = λ b s always. draw_fails s.config.sync_rate (g.R.Rng.stream s.rng) (g.B.Blob.allows_sync b.inner s.inner) always;
  started = λ b s always. start_fails s.config.sync_rate (g.R.Rng.stream s.rng) s.next_marker (g.B.Blob.allows_start_sync b.inner s.inner) always;
}
