use Rattle.std.proofs.Common.{rules, sym, refl, subst, nat_eq, List}
use Rattle.indexmap.specs.IndexMap.{get}
use Rattle.blob_pending.specs.Owners.{AreOwned}
use Rattle.blob_pending.specs.declared.incarnation.Incarnation.{Incarnation}
use Rattle.blob_pending.proofs.Owning.{owned_none}
use Rattle.blob_pending.proofs.lists.Lists.new.Goals as goal

pub invariant_of-result-2 : goal.invariant_of-result-2
invariant_of-result-2 g c = record {
  lists = record { distinct = search rules; numbers = λ _. search rules };
  indexed = λ _. refl;
  markers = λ _. subst (λ (is : List (Incarnation g.row.S-Origin.Denot)). AreOwned g.S.Durable.place is (get nat_eq c.new-3.result)) (sym c.new.ensures.items) (owned_none g.S.Durable.place (get nat_eq c.new-3.result));
}
