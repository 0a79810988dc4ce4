use Rattle.std.proofs.Common.{arith, rules, ◌≡◌, ◌<◌, ◌-◌, ◌^◌, ◌∙◌, length, false}
use Rattle.blob_file_scripts.proofs.Exploring.{found_all, found_more, start_of}
use Rattle.blob_file_scripts.proofs.explored.visit_leaves.Goals as goal

pub visits-preserved : goal.visits-preserved
visits-preserved c =
    let old = c.visits.found in
    let new = c.add.new.self in
    let leaf = c.in_ok-leaf.leaf in
    let taken = c.len-taken.result in
    let before = c.visits.invariant in
    let going : old.is_complete ≡ false = search rules in
    let small : old.leaves < c.args.limit = search rules in
    let few : old.leaves < 2 ^ 64 - 1 = omega (arith, small, c.ranges.limit.fits) in
    let count : taken ≡ length leaf.words.items = search rules in
    record {
      most = omega (arith, small, few, c.in_ok-add.ensures.leaves);
      front = c.add.ensures.shared ∙ before.front;
      found = λ script is.
          found_more script c.args.last c.args.shared.now old new c.visits.explorer c.advance.new.self leaf taken c.in_ok-found.field-0 is (before.found script is) going before.front few
          c.in_ok-leaf.ensures count c.in_ok-add.ensures.counts c.in_ok-found.ensures.next c.in_ok-found.ensures.leaves;
    }

pub returns-clause-found : goal.returns-clause-found
returns-clause-found c = λ script is. found_all script c.args.last (start_of script c.args.last c.args.shared.now is) c.visits.found c.visits.explorer (c.visits.invariant.found script is)
