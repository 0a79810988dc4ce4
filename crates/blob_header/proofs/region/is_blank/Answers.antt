use Rattle.blob_header.proofs.Fronts.{blank}
use Rattle.blob_header.proofs.region.is_blank.Goals as goal

pub returns : goal.returns
returns c = blank c.args.bytes.now c.written_len.result c.written_len.ensures.within c.written_len.ensures.zeros c.written_len.ensures.last
