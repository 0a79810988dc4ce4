use Rattle.std.proofs.Common.{rules, ◌≡◌, Bool, if◌then◌else◌, None, Some, length, ap}
use Rattle.blob_tree.specs.Trees.{if_more}
use Rattle.blob_explore.specs.Explorations.{path_of}
use Rattle.blob_explore.proofs.Visiting.{advanced, visits_next}
use Rattle.blob_explore.proofs.exploration.Exploration.next.Goals as goal

pub returns-clause-leaf : goal.returns-clause-leaf
returns-clause-leaf c shared =
    let e = c.args.self.now in
    let at : path_of e ≡ Some e.explorer = ap (λ (done : Bool). if done then None else Some e.explorer) c.if-self.false in
    let count : c.len-taken.result ≡ length c.in_ok-leaf.leaf.words.items = search rules in
    visits_next e _ _ c.len-taken.result (if_more c.in_ok-more.more c.advance.new.self) at (advanced c.in_ok-more.more c.advance.new.self) (c.in_ok-leaf.ensures.ok shared) count c.in_ok-more.ensures.leaves
