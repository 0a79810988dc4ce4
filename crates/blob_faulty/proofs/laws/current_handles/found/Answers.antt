use Rattle.std.specs.Prelude.{true}
use Rattle.blob_memory.specs.Store.{directory, place, room_for}
use Rattle.blob_faulty.proofs.CurrentWrites.{current_found}
use Rattle.blob_faulty.proofs.laws.current_handles.found.Goals as goal

pub returns : goal.returns
returns g c b w offset bytes sync answer now h =
    current_found (directory w.inner) (place b.inner) (room_for b.inner w.inner) true w.config w.next_write (g.R.Rng.stream w.rng) offset bytes sync answer now h
