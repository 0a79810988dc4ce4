use Rattle.std.proofs.Common.{rules, ℕ, true, ◌+◌, ◌∷◌, [], length, sym, subst, arith}
use Rattle.std.proofs.lemmas.Grind.{common_steps}
use Rattle.blob_header.specs.Refusals.{error_of}
use Rattle.blob_pending.specs.Rooms.{AreWithin}
use Rattle.blob_faulty.specs.Writes.{View, Unchanged, view_of}
use Rattle.blob_faulty.proofs.Adding.{some_byte}
use Rattle.blob_pending.proofs.HoleRoom.{one_within}
use Rattle.blob_faulty.proofs.Writing.{runs_after}
use Rattle.blob_faulty.proofs.blob.Blob.write_synced.Goals as goal

pub lay_range-requires-clause-room : goal.lay_range-requires-clause-room
lay_range-requires-clause-room g c =
    let range = (c.args.offset, c.args.offset + length c.args.bytes.now) ∷ [] in
    record {
      at = c.in_ok-list.ensures.ok.at;
      inside = c.in_ok-list.ensures.ok.here.inside;
      ranges = λ d. c.in_ok-list.ensures.ok.here.room d range (subst (λ (n : ℕ). AreWithin c.args.offset n 1 range) (sym c.requires.end)
          (one_within c.args.offset (c.args.offset + length c.args.bytes.now) (omega (arith, some_byte c.args.bytes.now c.requires.some))));
    }

pub returns-clause-recorded : goal.returns-clause-recorded
returns-clause-recorded g c =
    let old : View g.row.R.Denot = view_of g.S.Durable g.B.Blob c.args.self.now c.args.store.now in
    let mid : View g.row.R.Denot = view_of g.S.Durable g.B.Blob (record c.args.self.now { list = c.in_ok-list.list }) (record c.args.store.now { lists = c.room_for.new.self }) in
    let new : View g.row.R.Denot = view_of g.S.Durable g.B.Blob c.lay_range.new.self c.lay_range.new.store in
    let room : Unchanged old mid = first_of (search rules, grind (arith, common_steps)) in
    runs_after g.B.Blob.is_direct true old mid new ((c.args.offset, c.args.bytes.now) ∷ []) (error_of c.lay_range.result) room c.lay_range.ensures.recorded
