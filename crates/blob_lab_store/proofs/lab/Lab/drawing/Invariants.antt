use Rattle.std.proofs.Common.{◌≡◌, None}
use Rattle.blob_model.specs.Places.{Place}
use Rattle.blob_lab_model.specs.States.{empty_directory}
use Rattle.blob_lab_model.specs.Steps.{with_images}
use Rattle.blob_lab_store.specs.Tables.{images_of}
use Rattle.blob_memory.specs.Store.{directory, durable}
use Rattle.blob_lab_store.proofs.lab.Lab.drawing.Given as goal

abbrev pub invariant-loop-partition : goal.invariant-loop-partition
invariant-loop-partition l = record {
  directory : directory l.store ≡ with_images empty_directory (images_of l.yielded);
  durable : (o : Place) → durable l.store o ≡ None;
}
