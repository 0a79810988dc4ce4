use Rattle.std.proofs.Common.{rules}
use Rattle.blob_base.specs.Handles.{marker_of}
use Rattle.blob_faulty.specs.Names.{FinishLeaves}
use Rattle.blob_faulty.proofs.Naming.{finished_steps}
use Rattle.blob_faulty.proofs.names.StorageStorage.finish.Goals as goal

pub returns-clause-files : goal.returns-clause-files
returns-clause-files g c =
    let left : FinishLeaves g.S.Durable.place (marker_of c.args.handle) c.args.self.now c.match-marker.self = search rules in
    finished_steps g.S.Durable.place g.S.Durable.directory g.S.Durable.durable c.args.self.now c.match-marker.self (marker_of c.args.handle) left.inner left.finished left.numbers
