use Rattle.blob_states.specs.Streams.{crashes_left}
use Rattle.blobcrash_states.proofs.print_states.Given as goal

abbrev pub decreases-crashes : goal.decreases-crashes
decreases-crashes g l = crashes_left l.states
