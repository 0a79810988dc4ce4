use Rattle.std.proofs.Common.{take}
use Rattle.std.specs.List.{AllByRecursion}
use Rattle.blob_script.specs.Preambles.{images_of}
use Rattle.blob_lab_model.specs.Accepted.{opened_name}
use Rattle.blob_choices.specs.Outcomes.{acts_of}
use Rattle.blob_states.specs.Recorded.{HasImage, HasOpened, names_of}
use Rattle.blob_states.proofs.names.names_until.Given as goal

abbrev pub invariant-loop-image : goal.invariant-loop-image
invariant-loop-image l = AllByRecursion (HasImage (names_of l.names.items)) (images_of (take l.image-index l.run.preamble.images.items))

abbrev pub invariant-loop-call : goal.invariant-loop-call
invariant-loop-call l = record {
  images : AllByRecursion (HasImage (names_of l.names.items)) (images_of l.run.preamble.images.items);
  opened : AllByRecursion (λ act. HasOpened (names_of l.names.items) (opened_name act)) (acts_of (take l.call-index (take l.count l.run.calls.items)));
}
