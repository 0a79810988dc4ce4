use Rattle.std.proofs.Common.{rules}
use Rattle.blob_explain.proofs.Explaining.{begun}
use Rattle.blob_explain.proofs.remarks.push_remarks.Goals as goal

pub loop-byte-init : goal.loop-byte-init
loop-byte-init c = begun _ _ (search rules)
