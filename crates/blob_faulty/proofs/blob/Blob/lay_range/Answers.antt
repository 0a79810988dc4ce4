use Rattle.std.proofs.Common.{rules, ◌≡◌, ◌∷◌, [], length, refl, sym, subst, arith}
use Rattle.std.proofs.lemmas.Grind.{common_steps}
use Rattle.blob_model.specs.Durable.{with_at}
use Rattle.blob_model.specs.Log.{Kept}
use Rattle.blob_model.specs.Order.{held_at}
use Rattle.blob_model.specs.Pending.{apply_durable}
use Rattle.blob_model.specs.Places.{Place}
use Rattle.blob_pending.specs.Lists.{lists_of, IsAt}
use Rattle.blob_faulty.specs.Writes.{View, Logs, view_of}
use Rattle.blob_pending.proofs.HoleRoom.{room_stays}
use Rattle.blob_faulty.proofs.Writing.{kept_logs, some_written}
use Rattle.blob_faulty.proofs.blob.Blob.lay_range.Given.{Over}
use Rattle.blob_faulty.proofs.blob.Blob.lay_range.Goals as goal

pub lay-requires-clause-room : goal.lay-requires-clause-room
lay-requires-clause-room g c = record {
  fits = omega arith;
  room_for = room_stays c.args.store.now.lists.all.lists.items c.args.store.now.lists.all.lists.items c.args.list c.args.offset (length c.args.run.now) (length c.args.run.now) [] refl refl c.requires.room.ranges;
}

abbrev old : (g : Over) (c : goal.After-lay g) → View g.row.R.Denot
old g c = view_of g.S.Durable g.B.Blob c.args.self.now c.args.store.now

abbrev new : (g : Over) (c : goal.After-lay g) → View g.row.R.Denot
new g c = view_of g.S.Durable g.B.Blob (record c.args.self.now { inner = c.write_from.new.self; size = c.max-self.result }) (record c.args.store.now { inner = c.write_from.new.store; lists = c.lay.new.self })

lists : (g : Over) (c : goal.After-lay g) (a : Place) → held_at (new g c).held a ≡ with_at (held_at (old g c).held) (old g c).place (apply_durable c.args.offset c.args.run.now (held_at (old g c).held (old g c).place)) a
lists g c = c.lay.ensures.lists (old g c).place c.requires.room.at c.args.run.now refl c.requires.copied

pub returns-clause-recorded : goal.returns-clause-recorded
returns-clause-recorded g c =
    let w = c.in_ok-write_from.ensures in
    let logs : Logs (old g c) (new g c) (Kept c.args.offset c.args.run.now ∷ []) = kept_logs (old g c) (new g c) c.args.offset c.args.run.now c.requires.some (first_of (search rules, cc)) (first_of (search rules, cc)) (lists g c) (first_of (search rules, cc)) (first_of (search rules, cc)) in
    let written = some_written (old g c).live c.args.offset c.args.run.now c.requires.some in
    record {
      wrote = record {
        done = λ ok. record { live = first_of (search rules, cc, grind (arith, common_steps)); durable = w.synced refl; size = first_of (search rules, cc, grind (arith, common_steps)) };
        refused = search rules;
        memory = search rules;
        stale = search rules;
        directory = search rules;
        place = search rules;
      };
      done = λ ok. logs;
      refused = search rules;
      undone = search rules;
      config = search rules;
      rng = search rules;
    }

pub returns-clause-laid : goal.returns-clause-laid
returns-clause-laid g c = record {
  size = first_of (search rules, cc, grind (arith, common_steps));
  pending = lists g c;
  next_write = first_of (search rules, cc);
  next_marker = first_of (search rules, cc);
}

pub returns-clause-left : goal.returns-clause-left
returns-clause-left g c later h = record {
  at = subst (λ (o : Place). IsAt (lists_of g.S.Durable.place c.lay.new.self.all.lists.items) c.args.list o) (sym c.in_ok-write_from.ensures.place) (c.lay.ensures.at _ h.at);
  inside = first_of (search rules, grind (arith, common_steps));
  ranges = c.lay.ensures.room later (room_stays c.args.store.now.lists.all.lists.items c.args.store.now.lists.all.lists.items c.args.list c.args.offset (length c.args.run.now) (length c.args.run.now) later refl refl h.ranges);
}
