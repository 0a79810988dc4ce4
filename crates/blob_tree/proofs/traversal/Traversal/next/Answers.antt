use Rattle.std.proofs.Common.{arith, ◌-◌, ◌∙◌, ap}
use Rattle.blob_tree.proofs.ChoiceVisits.{advances}
use Rattle.blob_tree.proofs.Turning.{turned_at, passed_at, has_more, is_last, at_root}
use Rattle.blob_tree.specs.declared.traversal.Traversal.{Traversal}
use Rattle.blob_tree.proofs.traversal.Traversal.next.Goals as goal

pub returns-then-last-saturating_sub-clause-next : goal.returns-then-last-saturating_sub-clause-next
returns-then-last-saturating_sub-clause-next c =
    c.loop-self.invariant.next ∙ turned_at c.loop-self.choices c.loop-self.self.root c.loop-self.self.len _ _ (grind arith) (grind arith) (has_more _ (grind arith))

pub returns-then-last-saturating_sub-clause-leaves : goal.returns-then-last-saturating_sub-clause-leaves
returns-then-last-saturating_sub-clause-leaves c = advances _ _ (returns-then-last-saturating_sub-clause-next c)

pub loop-self-preserved : goal.loop-self-preserved
loop-self-preserved c = record {
  choices = c.loop-self.invariant.choices;
  others = ap (λ (t : Traversal). record t { len = c.loop-self.self.len - 1 }) c.loop-self.invariant.others;
  shorter = grind arith;
  next = c.loop-self.invariant.next ∙ passed_at c.loop-self.choices c.loop-self.self.root c.loop-self.self.len (record { kind = 0; branch = 0; among = 0 }) (grind arith) (grind arith) (is_last _ (grind arith));
}

pub returns-clause-leaves : goal.returns-clause-leaves
returns-clause-leaves c = advances _ _ (c.loop-self.invariant.next ∙ at_root c.loop-self.choices c.loop-self.self.root c.loop-self.self.len (grind arith))
