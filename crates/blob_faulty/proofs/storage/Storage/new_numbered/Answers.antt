use Rattle.std.proofs.Common.{◌≡◌, ap, refl, ℕ, List, [], Option}
use Rattle.std.specs.Prelude.{Some, unwrap_or}
use Rattle.blob_model.specs.Files.{wrap}
use Rattle.blob_model.specs.Places.{Place}
use Rattle.blob_model.specs.Stands.{StandsFor}
use Rattle.blob_model.proofs.FileSteps.{stands_wrapped}
use Rattle.blob_pending.specs.declared.incarnation.Incarnation.{Incarnation}
use Rattle.blob_faulty.specs.Keeps.{bytes_found}
use Rattle.blob_pending.specs.Lists.{list_of}
use Rattle.blob_faulty.proofs.storage.Storage.new_numbered.Given.{Over}
use Rattle.blob_faulty.proofs.storage.Storage.new_numbered.Goals as goal

-- whatever bytes its durable ones are
files : (g : Over) (c : goal.After-new g) (bytes : Place → List ℕ) → ((o : Place) (x : List ℕ) → g.S.Durable.durable c.args.inner o ≡ Some x → bytes o ≡ x) →
    StandsFor (g.S.Durable.directory c.args.inner) (g.S.Durable.durable c.args.inner) (list_of g.S.Durable.place c.new.result.all.lists.items) c.args.next_write c.args.next_marker (wrap (g.S.Durable.directory c.args.inner) bytes c.args.next_write c.args.next_marker)
files g c bytes read =
    stands_wrapped _ _ (list_of g.S.Durable.place c.new.result.all.lists.items) bytes _ _ read (λ a. ap (λ (is : List (Incarnation g.row.S-Origin.Denot)). list_of g.S.Durable.place is a) c.new.ensures)

pub returns : goal.returns
returns g c = record {
  inner = refl;
  rng = refl;
  config = refl;
  pending = ap (λ (is : List (Incarnation g.row.S-Origin.Denot)). list_of g.S.Durable.place is) c.new.ensures;
  next_write = refl;
  next_marker = refl;
  files = files g c;
  represents = files g c (bytes_found (g.S.Durable.durable c.args.inner)) (λ o x holds. ap (λ (b : Option (List ℕ)). unwrap_or b []) holds);
}
