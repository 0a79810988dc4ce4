use Rattle.std.proofs.Common.{◌≡◌, length}
use Rattle.blob_tree.specs.Traversals.{Makes, draws}
use Rattle.blob_tree.proofs.traversal.Traversal.make_draws.Given as goal

abbrev pub invariant-loop : goal.invariant-loop
invariant-loop l = record {
  makes : Makes (draws l.counter) l.initial.self l.initial.choices l.self l.choices;
  drawn : l.self.drawn ≡ l.initial.self.drawn;
  room : length l.choices ≡ length l.initial.choices;
}
