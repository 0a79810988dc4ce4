-- Replies of which none was refused memory.
use Rattle.std.proofs.Common.{◌≢◌, List, [], ◌∷◌, ◌++◌, Some}
use Rattle.blob_header.specs.Refusals.{Memory}
use Rattle.blob_script.specs.declared.reply.Reply.{Reply}
use Rattle.blob_script.specs.Told.{refused_by}
use Rattle.blob_choices.specs.Outcomes.{NoneOutOfMemory}

pub none_more : (replies : List Reply) (r : Reply) → NoneOutOfMemory replies → refused_by r ≢ Some Memory → NoneOutOfMemory (replies ++ r ∷ [])
none_more [] r all one = (one, tt)
none_more (x ∷ xs) r all one = (all.0, none_more xs r all.1 one)
