use Rattle.blob_header.specs.Refusals.{error_of}
use Rattle.blob_draws.specs.Fates.{resize_fate_of}
use Rattle.blob_faulty.proofs.Resizing.{resize_leaves}
use Rattle.blob_faulty.proofs.blob.BlobBlobStorage.resize.Goals as goal

pub returns-clause-leaves : goal.returns-clause-leaves
returns-clause-leaves g c =
    let r = c.resize_by_fate in
    resize_leaves g.S.Durable g.B.Blob g.R.Rng.stream c.args.self.now r.new.self c.args.store.now r.new.store c.draw_resize-fate.new.rng c.args.len (error_of r.result) (resize_fate_of c.draw_resize-fate.result) _ c.draw_resize-fate.ensures
    r.ensures.asked r.ensures.resized r.ensures.reached r.ensures.kept
