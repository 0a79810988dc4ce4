use Rattle.std.proofs.Common.{◌≡◌, ◌⊎◌, ℕ, Some, drop, is_some, true}
use Rattle.std.specs.BTreeMap.{get}
use Rattle.std.specs.Ordering.{nat_cmp}
use Rattle.blob_model.specs.Log.{Need}
use Rattle.blob_model.specs.Order.{In, waiting_of_all}
use Rattle.blob_pending.specs.Lists.{lists_of}
use Rattle.blob_fs.specs.declared.crash.Place.{Place}
use Rattle.blob_fs.specs.Places.{IsPlaceOf}
use Rattle.blob_fs.proofs.file_system.FileSystem.pending_places.Given as goal

abbrev pub invariant-loop-list : goal.invariant-loop-list
invariant-loop-list g l = record {
  found : (number : ℕ) (place : Place) → get nat_cmp l.places number ≡ Some place → IsPlaceOf l.self number place;
  each : (w : Need) → In w (waiting_of_all (lists_of (λ o. o) l.list-items))
      → (is_some (get nat_cmp l.places w.write.number) ≡ true) ⊎ In w (waiting_of_all (lists_of (λ o. o) (drop l.list-index l.list-items)));
}
