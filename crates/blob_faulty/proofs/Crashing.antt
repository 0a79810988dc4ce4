-- A crash of the wrapper, seen whole.
use Rattle.std.proofs.Common.{◌≡◌, List, [], sym, ◌∙◌, ap, subst}
use Rattle.std.specs.List.Sorted.{IsPermutation, IsNonDecreasingBy}
use Rattle.rand_core.specs.Stream.{Stream}
use Rattle.blob_model.specs.Directory.{Directory}
use Rattle.blob_model.specs.Draws.{Row, draw_rows}
use Rattle.blob_model.specs.Durable.{Durable}
use Rattle.blob_model.specs.Files.{Files, all_needs, after_crash}
use Rattle.blob_model.specs.Log.{Choices}
use Rattle.blob_model.specs.Order.{waiting_of_all}
use Rattle.blob_model.specs.Pending.{Pending}
use Rattle.blob_model.specs.Places.{Place}
use Rattle.blob_model.specs.Stands.{StandsFor, replayed_at}
use Rattle.blob_model.proofs.CrashSteps.{stands_crash}
use Rattle.blob_draws.specs.declared.draw.Draw.{Draw}
use Rattle.blob_faulty.specs.declared.storage.Storage.{Storage}
use Rattle.blob_draws.specs.Drawings.{Drawing, drawings_of, drawings_in, rows_drawn}
use Rattle.blob_pending.specs.Lists.{lists_of}
use Rattle.blob_faulty.specs.Wrapper.{pending_of, next_write_of, next_marker_of, Stands}
use Rattle.blob_pending.proofs.Distinct.{apart_of}
use Rattle.blob_draws.proofs.Rowing.{gathered_needs, rows_same}

-- the rows and the stream, where they are those of what was gathered
pub crash_rows : {S R O : Type 0} (place : O → Place) (names : Directory) (bytes : Durable) (old : Storage S R O) (ds : List Draw) (s : Stream) (drawn_rows : List Row × Stream) → ((a b : O) → place a ≡ place b → a ≡ b) →
    IsPermutation (drawings_of (waiting_of_all (lists_of place old.lists.all.lists.items))) (drawings_in ds) → IsNonDecreasingBy (λ (d : Draw). d.number) ds → drawn_rows ≡ rows_drawn s (drawings_in ds) →
    (files : Files) → Stands place names bytes old files → drawn_rows ≡ draw_rows s (all_needs files.log)
crash_rows place names bytes old ds s rows one moved up e files f =
    e ∙ ap (λ (l : List Drawing). rows_drawn s l) (gathered_needs names bytes (lists_of place old.lists.all.lists.items) old.next_write old.next_marker files ds moved up (apart_of place old.lists.all.lists.items one old.lists.all.distinct) f) ∙ rows_same s (all_needs files.log)

-- what the wrapper represents once its lists are replayed and empty
pub crash_stands : {S R O : Type 0} (place : O → Place) (names names' : Directory) (bytes bytes' : Durable) (old : Storage S R O) (lists : Place → List Pending) (t : Choices) →
    names' ≡ names → ((a : Place) → lists a ≡ []) → ((o : Place) → bytes' o ≡ replayed_at t (pending_of place old o) (bytes o)) →
    (files : Files) → Stands place names bytes old files → StandsFor names' bytes' lists (next_write_of old) (next_marker_of old) (after_crash files t)
crash_stands place names names' bytes bytes' old lists t same none left files s =
    subst (λ (d : Directory). StandsFor d bytes' lists (next_write_of old) (next_marker_of old) (after_crash files t)) (sym same)
    (stands_crash names bytes bytes' (pending_of place old) lists (next_write_of old) (next_marker_of old) files t left none s)
