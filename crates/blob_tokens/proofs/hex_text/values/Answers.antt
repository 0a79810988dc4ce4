use Rattle.blob_tokens.proofs.HexLanes.{values_are}
use Rattle.blob_tokens.proofs.hex_text.values.Goals as goal

pub returns : goal.returns
returns c = values_are c.args.lanes c.fits-lanes.0 c.fits-lanes.1
