use Rattle.std.proofs.Common.{◌≡◌, map, take, vec_capacity}
use Rattle.blob_fs.specs.PlaceMaps.{place_of_row}
use Rattle.blob_fs.proofs.places.find_places.Given as goal

abbrev pub invariant-loop-write : goal.invariant-loop-write
invariant-loop-write l = record {
  found : l.places.items ≡ map (place_of_row l.pending) (take l.write-index l.write-items);
  room : vec_capacity l.places ≡ vec_capacity l.initial.places;
}
