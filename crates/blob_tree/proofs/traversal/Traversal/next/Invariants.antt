use Rattle.std.proofs.Common.{◌-◌, ◌≡◌, ◌≤◌}
use Rattle.blob_tree.specs.ChoiceTrees.{path_after}
use Rattle.blob_tree.specs.Traversals.{path_below_root}
use Rattle.blob_tree.proofs.traversal.Traversal.next.Given as goal

abbrev pub invariant-loop-self : goal.invariant-loop-self
invariant-loop-self l = record {
  choices : l.choices ≡ l.initial.choices;
  others : l.self ≡ record l.initial.self { len = l.self.len };
  shorter : l.self.len ≤ l.initial.self.len;
  next : path_after (path_below_root l.initial.self l.initial.choices) ≡ path_after (path_below_root l.self l.choices);
}

abbrev pub decreases-loop-self : goal.decreases-loop-self
decreases-loop-self l = l.self.len - l.self.root
