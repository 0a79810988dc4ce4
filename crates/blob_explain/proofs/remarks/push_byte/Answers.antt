use Rattle.std.proofs.Common.{rules}
use Rattle.blob_explain.proofs.Explaining.{byte_taken}
use Rattle.blob_explain.proofs.remarks.push_byte.Goals as goal

pub returns : goal.returns
returns c = λ old s. byte_taken old _ _ _ c.args.byte (c.in_ok-make_room.ensures old s) c.requires (search rules)
