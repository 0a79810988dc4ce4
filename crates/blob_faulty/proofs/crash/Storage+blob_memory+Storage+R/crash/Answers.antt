use Rattle.std.proofs.Common.{◌≡◌, ◌∙◌, ap, sym, subst, List, ℕ, Bool, Vec, All, ◌<◌, Some, refl}
use Rattle.std.specs.Global.{Global}
use Rattle.std.specs.List.Sorted.{IsPermutation}
use Rattle.rand_core.specs.Stream.{Stream}
use Rattle.blob_model.specs.Directory.{Directory, current}
use Rattle.blob_model.specs.Draws.{Row, chosen_by}
use Rattle.blob_model.specs.Durable.{Durable}
use Rattle.blob_model.specs.Log.{Choices}
use Rattle.blob_model.specs.Order.{ArePlacesApart, waiting_of_all}
use Rattle.blob_model.specs.Places.{Place}
use Rattle.blob_model.specs.Stands.{replayed_at}
use Rattle.blob_model.proofs.FileSteps.{stands_same}
use Rattle.blob_memory.specs.Store.{directory, durable}
use Rattle.blob_draws.specs.declared.draw.Draw.{Draw}
use Rattle.blob_pending.specs.declared.incarnation.Incarnation.{Incarnation}
use Rattle.blob_draws.specs.Drawings.{drawings_of, drawings_in, rows_drawn}
use Rattle.blob_pending.specs.Lists.{lists_of, held_by, list_of}
use Rattle.blob_faulty.specs.Ready.{IsReady}
use Rattle.blob_draws.specs.Rows.{rows_in, table_of, AreNumbered}
use Rattle.blob_pending.proofs.Distinct.{apart_of}
use Rattle.blob_faulty.proofs.Crashing.{crash_rows, crash_stands}
use Rattle.blob_faulty.proofs.SyncSteps.{err_by}
use Rattle.blob_faulty.proofs.Keeping.{keeps_crashed}
use Rattle.blob_draws.proofs.Rowing.{rows_rise}
use Rattle.blob_faulty.proofs.crash.Storage+blob_memory+Storage+R.crash.Goals as goal

pub replay_all-requires-clause-numbered : goal.replay_all-requires-clause-numbered
replay_all-requires-clause-numbered g c =
    let s : Stream = g.R.Rng.stream c.args.self.now.rng in
    let told : (rows_in c.in_ok-rows.rows.items, g.R.Rng.stream c.draw_rows.new.rng) ≡ rows_drawn s (drawings_in c.in_ok-draws.draws.items) = c.in_ok-rows.ensures ∙ ap (λ (ds : List Draw). rows_drawn s (drawings_in ds)) c.deref.ensures.value in
    subst (λ (rows : List (ℕ × Vec Bool Global)). AreNumbered rows) (sym c.deref-2.ensures.value) (rows_rise s (g.R.Rng.stream c.draw_rows.new.rng) c.in_ok-draws.draws.items c.in_ok-rows.rows.items told c.in_ok-draws.ensures.rising)

pub replay_all-requires-clause-ready : goal.replay_all-requires-clause-ready
replay_all-requires-clause-ready g c = subst (λ (is : List (Incarnation Place)). All (λ list. IsReady c.reserve_all.new.inner (held_by (λ (o : Place). o) list)) is) (c.as_slice-2.ensures ∙ sym c.as_slice-3.ensures) c.in_ok-buffers.ensures.ready

pub returns-clause-rows : goal.returns-clause-rows
returns-clause-rows g c files f =
    let s : Stream = g.R.Rng.stream c.args.self.now.rng in
    let rest : Stream = g.R.Rng.stream c.draw_rows.new.rng in
    let table : table_of c.new.result ≡ rows_in c.in_ok-rows.rows.items = ap rows_in c.new.ensures in
    let told : (rows_in c.in_ok-rows.rows.items, rest) ≡ rows_drawn s (drawings_in c.in_ok-draws.draws.items) = c.in_ok-rows.ensures ∙ ap (λ (ds : List Draw). rows_drawn s (drawings_in ds)) c.deref.ensures.value in
    ap (λ (t : List Row). (t, rest)) table
    ∙ crash_rows (λ (o : Place). o) (directory c.args.self.now.inner) (durable c.args.self.now.inner) c.args.self.now c.in_ok-draws.draws.items s (rows_in c.in_ok-rows.rows.items, rest) (λ a b same. same)
    (subst (λ (is : List (Incarnation Place)). IsPermutation (drawings_of (waiting_of_all (lists_of (λ (o : Place). o) is))) (drawings_in c.in_ok-draws.draws.items)) c.as_slice.ensures (c.in_ok-draws.ensures.all (λ (o : Place). o)))
    c.in_ok-draws.ensures.rising told files f

pub returns-clause-durable : goal.returns-clause-durable
returns-clause-durable g c o =
    let now : Durable = durable c.reserve_all.new.inner in
    let t : Choices = chosen_by (table_of c.new.result) in
    c.replay_all.ensures.durable (subst (λ (is : List (Incarnation Place)). ArePlacesApart (lists_of (λ (p : Place). p) is)) (sym c.as_slice-3.ensures) (apart_of (λ (p : Place). p) c.args.self.now.lists.all.lists.items (λ a b same. same) c.args.self.now.lists.all.distinct)) o
    ∙ ap (λ (rows : List (ℕ × Vec Bool Global)). replayed_at (chosen_by (rows_in rows)) (list_of (λ (p : Place). p) c.as_slice-3.result.now o) (now o)) (c.deref-2.ensures.value ∙ sym c.new.ensures)
    ∙ ap (λ (is : List (Incarnation Place)). replayed_at t (list_of (λ (p : Place). p) is o) (now o)) c.as_slice-3.ensures
    ∙ ap (λ (f : Durable). replayed_at t (list_of (λ (p : Place). p) c.args.self.now.lists.all.lists.items o) (f o)) c.reserve_all.ensures.durable

pub returns-clause-stands : goal.returns-clause-stands
returns-clause-stands g c files f =
    crash_stands (λ (o : Place). o) (directory c.args.self.now.inner) (directory c.replay_all.new.inner) (durable c.args.self.now.inner) (durable c.replay_all.new.inner) c.args.self.now _ (chosen_by (table_of c.new.result))
    (c.replay_all.ensures.directory ∙ c.reserve_all.ensures.directory) (λ a. ap (λ (is : List (Incarnation Place)). list_of (λ (o : Place). o) is a) c.clear.ensures) (returns-clause-durable g c) files f

pub returns-in_err-buffers-clause-keeps : goal.returns-in_err-buffers-clause-keeps
returns-in_err-buffers-clause-keeps g c o bytes k =
    let w = c.in_err-buffers.ensures in
    record {
      files = k.files;
      stands = stands_same _ _ _ _ _ _ _ _ k.files w.directory (λ a. ap (λ (f : Durable). f a) w.durable) (λ a. refl) k.stands;
      here = subst (λ (d : Directory). current d o.partition o.name ≡ Some o) (sym w.directory) k.here;
      given = subst (λ (d : Directory). o.number < d.next) (sym w.directory) k.given;
      fixed = k.fixed;
    }

pub returns-in_err-buffers-clause-same_files : goal.returns-in_err-buffers-clause-same_files
returns-in_err-buffers-clause-same_files g c =
    let w = c.in_err-buffers.ensures in
    err_by c.from_residual-in_err-buffers.result (λ some files s. stands_same _ _ _ _ _ _ _ _ files w.directory (λ a. ap (λ (f : Durable). f a) w.durable) (λ a. refl) s)

pub returns-clause-keeps : goal.returns-clause-keeps
returns-clause-keeps g c o bytes k =
    keeps_crashed (λ (a : Place). a) directory durable c.args.self.now _ o bytes (c.replay_all.ensures.directory ∙ c.reserve_all.ensures.directory) k (chosen_by (table_of c.new.result)) (returns-clause-stands g c)
