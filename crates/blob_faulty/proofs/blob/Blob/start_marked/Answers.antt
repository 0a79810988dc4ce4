use Rattle.std.proofs.Common.{◌++◌, ◌∷◌, [], refl}
use Rattle.blob_model.specs.Pending.{Marker}
use Rattle.blob_faulty.specs.declared.storage.Storage.{Storage}
use Rattle.blob_pending.specs.Lists.{list_of}
use Rattle.blob_faulty.specs.Wrapper.{pending_of}
use Rattle.blob_faulty.proofs.Pushing.{after_room}
use Rattle.blob_faulty.proofs.blob.Blob.start_marked.Goals as goal

pub returns-clause-marked : goal.returns-clause-marked
returns-clause-marked g c =
    let place = g.S.Durable.place in
    let old = c.args.store.now in
    let mid : Storage g.row.S.Denot g.row.R.Denot g.row.S-Origin.Denot = record old { lists = c.room_for.new.self } in
    let o = g.B.Blob.place c.args.self.now.inner in
    after_room (pending_of place old) (pending_of place mid) (list_of place c.mark.new.self.all.lists.items) o o (λ q. q ++ Marker old.next_marker ∷ []) c.room_for.ensures.same (c.mark.ensures o c.in_ok-list.ensures.ok.at) refl
