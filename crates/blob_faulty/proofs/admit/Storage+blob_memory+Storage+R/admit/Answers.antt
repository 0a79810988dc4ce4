use Rattle.std.proofs.Common.{◌≡◌, ◌∙◌, refl}
use Rattle.blob_model.specs.Directory.{current}
use Rattle.blob_model.specs.Order.{held_at}
use Rattle.blob_model.specs.Places.{Place}
use Rattle.blob_model.specs.Stands.{retire}
use Rattle.blob_model.proofs.FileSteps.{stands_admitted}
use Rattle.blob_memory.specs.Store.{directory, durable}
use Rattle.blob_pending.specs.Lists.{lists_of}
use Rattle.blob_faulty.proofs.Admitting.{admits_current}
use Rattle.blob_faulty.proofs.Keeping.{keeps_admitted}
use Rattle.blob_faulty.proofs.admit.Storage+blob_memory+Storage+R.admit.Given.{Over}
use Rattle.blob_faulty.proofs.admit.Storage+blob_memory+Storage+R.admit.Goals as goal

pending : (g : Over) (c : goal.After-retire_name g) (a : Place) → held_at (lists_of (λ (o : Place). o) c.retire_name.new.self.all.lists.items) a ≡ retire (held_at (lists_of (λ (o : Place). o) c.args.self.now.lists.all.lists.items)) (current (directory c.args.self.now.inner) c.args.partition.now c.args.name.now) a
pending g c a = c.retire_name.ensures a ∙ admits_current (directory c.args.self.now.inner) c.args.partition.now c.args.name.now (held_at (lists_of (λ (o : Place). o) c.args.self.now.lists.all.lists.items)) a

pub returns : goal.returns
returns g c = record {
  pending = pending g c;
  stands = λ files s.
      stands_admitted (directory c.args.self.now.inner) (durable c.args.self.now.inner) (held_at (lists_of (λ (o : Place). o) c.args.self.now.lists.all.lists.items)) (held_at (lists_of (λ (o : Place). o) c.retire_name.new.self.all.lists.items)) c.args.self.now.next_write c.args.self.now.next_marker files c.args.partition.now c.args.name.now (pending g c) s;
  keeps = λ o bytes k. keeps_admitted (λ (a : Place). a) directory durable c.args.self.now _ o bytes refl k c.args.partition.now c.args.name.now
      (λ files s. stands_admitted (directory c.args.self.now.inner) (durable c.args.self.now.inner) (held_at (lists_of (λ (o : Place). o) c.args.self.now.lists.all.lists.items)) (held_at (lists_of (λ (o : Place). o) c.retire_name.new.self.all.lists.items)) c.args.self.now.next_write c.args.self.now.next_marker files c.args.partition.now c.args.name.now (pending g c) s);
  rng = refl;
  inner = refl;
  numbers = record { next_write = refl; next_marker = refl; config = refl };
}
