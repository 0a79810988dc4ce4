use Rattle.blob_tokens.proofs.HexLanes.{sixteen_good, sixteen_bad}
use Rattle.blob_tokens.proofs.hex_text.sixteen.Goals as goal

pub returns-clause-good : goal.returns-clause-good
returns-clause-good c = sixteen_good c.args.digits.now c.args.first c.values-high.result c.values-low.result c.requires c.values-high.ensures c.values-low.ensures

pub returns-clause-bad : goal.returns-clause-bad
returns-clause-bad c = sixteen_bad c.args.digits.now c.args.first c.values-high.result c.values-low.result c.requires c.values-high.ensures c.values-low.ensures
