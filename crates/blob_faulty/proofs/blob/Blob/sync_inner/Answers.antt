use Rattle.std.proofs.Common.{◌≡◌, ◌∙◌, [], subst}
use Rattle.blob_model.specs.Durable.{with_at}
use Rattle.blob_model.specs.Places.{Place}
use Rattle.blob_pending.specs.Lists.{list_of}
use Rattle.blob_faulty.proofs.blob.Blob.sync_inner.Goals as goal

pub returns-clause-retired : goal.returns-clause-retired
returns-clause-retired g c =
    let place = g.S.Durable.place in
    subst (λ (p : Place). (a : Place) → list_of place c.retire.new.self.all.lists.items a ≡ with_at (list_of place c.args.store.now.lists.all.lists.items) p [] a) (c.origin_ref.ensures ∙ c.in_ok-sync.ensures.place) c.retire.ensures
