use Rattle.std.proofs.Common.{◌≡◌, take}
use Rattle.blob_script.specs.Preambles.{images_of}
use Rattle.blob_distinct.proofs.images.copies.Given as goal

abbrev pub invariant-loop-image : goal.invariant-loop-image
invariant-loop-image l = images_of l.all.items ≡ images_of (take l.image-index l.images)
