use Rattle.blob_faulty.proofs.CertainAnswers.{draw_injected, write_injected, resize_injected, start_injected}
use Rattle.blob_faulty.proofs.laws.faults_are_drawn.Goals as goal

pub returns : goal.returns
returns g c = record {
  reads = λ b s offset len never. draw_injected s.config.read_rate (g.R.Rng.stream s.rng) (g.B.Blob.allows_read b.inner s.inner offset len) never;
  writes = λ b s offset bytes sync no_write no_sync. write_injected (g.B.Blob.allows_write b.inner s.inner) (g.B.Blob.allows_reserve b.inner s.inner) g.B.Blob.is_direct s.config s.next_write (g.R.Rng.stream s.rng) offset bytes sync no_write no_sync;
  resizes = λ b s len never. resize_injected s.config.resize_rate b.size len (g.R.Rng.stream s.rng) (g.B.Blob.allows_resize b.inner s.inner) never;
  syncs = λ b s never. draw_injected s.config.sync_rate (g.R.Rng.stream s.rng) (g.B.Blob.allows_sync b.inner s.inner) never;
  started = λ b s never. start_injected s.config.sync_rate (g.R.Rng.stream s.rng) s.next_marker (g.B.Blob.allows_start_sync b.inner s.inner) never;
}
