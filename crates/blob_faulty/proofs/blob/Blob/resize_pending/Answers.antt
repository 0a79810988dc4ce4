use Rattle.std.proofs.Common.{rules, ◌≡◌, ◌++◌, ◌∷◌, []}
use Rattle.blob_model.specs.Durable.{with_at}
use Rattle.blob_model.specs.Log.{Resized}
use Rattle.blob_model.specs.Order.{held_at}
use Rattle.blob_model.specs.Pending.{Cut}
use Rattle.blob_model.specs.Places.{Place}
use Rattle.blob_faulty.specs.Writes.{View, Logs, view_of}
use Rattle.blob_faulty.proofs.RoomSteps.{pushed_at}
use Rattle.blob_faulty.proofs.Writing.{cut_logs}
use Rattle.blob_faulty.proofs.blob.Blob.resize_pending.Goals as goal

pub returns-clause-recorded : goal.returns-clause-recorded
returns-clause-recorded g c =
    let old : View g.row.R.Denot = view_of g.S.Durable g.B.Blob c.args.self.now c.args.store.now in
    let new : View g.row.R.Denot = view_of g.S.Durable g.B.Blob c.resize_unrecorded.new.self (record c.resize_unrecorded.new.store { lists = c.push_resize.new.self }) in
    let lists : (a : Place) → held_at new.held a ≡ with_at (held_at old.held) old.place (held_at old.held old.place ++ Cut c.args.len ∷ []) a =
    pushed_at g.S.Durable.place c.args.store.now (record c.args.store.now { lists = c.room_for.new.self }) c.resize_unrecorded.new.store c.resize_unrecorded.new.store.inner c.push_resize.new.self c.in_ok-list.list old.place (Cut c.args.len) c.room_for.ensures.same c.in_ok-list.ensures.ok.at c.resize_unrecorded.ensures.rest c.push_resize.ensures in
    let logs : Logs old new (Resized c.args.len ∷ []) = cut_logs old new c.args.len (first_of (search rules, cc)) (first_of (search rules, cc)) lists (first_of (search rules, cc)) (first_of (search rules, cc)) in
    record {
      wrote = search rules;
      done = λ ok. logs;
      refused = search rules;
      undone = search rules;
      config = search rules;
      rng = search rules;
    }
