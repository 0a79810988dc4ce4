use Rattle.std.proofs.Common.{List, subst, sym}
use Rattle.blob_model.specs.Order.{ArePlacesApart}
use Rattle.blob_pending.specs.Lists.{lists_of}
use Rattle.blob_pending.specs.declared.incarnation.Incarnation.{Incarnation}
use Rattle.blob_pending.proofs.Distinct.{apart_of}
use Rattle.blob_faulty.proofs.storage.Storage.pending.Goals as goal

pub returns-clause-apart : goal.returns-clause-apart
returns-clause-apart g c =
    subst (λ (is : List (Incarnation g.row.S-Origin.Denot)). ArePlacesApart (lists_of g.S.Durable.place is)) (sym c.as_slice.ensures)
    (apart_of g.S.Durable.place c.args.self.now.lists.all.lists.items g.met.S.Durable.one_origin c.args.self.now.lists.all.distinct)
