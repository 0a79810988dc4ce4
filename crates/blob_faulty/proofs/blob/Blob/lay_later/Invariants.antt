use Rattle.std.proofs.Common.{◌≡◌, true, vec_len, All, [], Option, None}
use Rattle.blob_header.specs.Refusals.{Refusal}
use Rattle.blob_faulty.specs.Asked.{Made, run_calls}
use Rattle.blob_pending.specs.Lists.{HasRoomAt}
use Rattle.blob_faulty.specs.Pieces.{runs_in, extents, EndsWithin}
use Rattle.blob_faulty.specs.Writes.{view_of, LaysUpTo, LeavesRuns}
use Rattle.blob_faulty.proofs.blob.Blob.lay_later.Given as goal

abbrev pub invariant-loop-run : goal.invariant-loop-run
invariant-loop-run g l = record {
  room : HasRoomAt g.S.Durable.place l.store.lists.all.lists.items l.list (g.B.Blob.place l.self.inner) (extents (runs_in l.pieces.items));
  within : g.B.Blob.is_direct ≡ true → All (EndsWithin (g.B.Blob.room l.self.inner l.store.inner)) (runs_in l.pieces.items);
  some : runs_in l.fn.pieces.items ≡ [] → runs_in l.pieces.items ≡ [];
  left : LeavesRuns (view_of g.S.Durable g.B.Blob l.fn.self l.fn.store)
      (view_of g.S.Durable g.B.Blob l.self l.store) (runs_in l.fn.pieces.items) (runs_in l.pieces.items);
  laid : LaysUpTo (λ front left. Made g.B.Blob.leaves (run_calls front) None l.fn.self.inner l.fn.store.inner l.self.inner l.store.inner) (view_of g.S.Durable g.B.Blob l.fn.self l.fn.store)
      (view_of g.S.Durable g.B.Blob l.self l.store) (runs_in l.fn.pieces.items) (runs_in l.pieces.items);
  asked : (answer : Option Refusal) (x : g.row.B.Denot) (y : g.row.S.Denot) → Made g.B.Blob.leaves (run_calls (runs_in l.pieces.items)) answer l.self.inner l.store.inner x y →
      Made g.B.Blob.leaves (run_calls (runs_in l.fn.pieces.items)) answer l.fn.self.inner l.fn.store.inner x y;
}

abbrev pub decreases-loop-run : goal.decreases-loop-run
decreases-loop-run g l = vec_len l.pieces
