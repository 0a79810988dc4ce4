use Rattle.blob_distinct.specs.Explored.{outcomes_found}
use Rattle.blob_explore.proofs.print.explore_text.Goals as goal

pub returns-clause-text : goal.returns-clause-text
returns-clause-text c =
    let found = c.in-Ok.explored in
    record {
      explored = c.in_ok-script.script;
      is = c.in_ok-script.ensures.script;
      found = outcomes_found found;
      count = found.leaves;
      is_complete = found.is_complete;
      explores = c.in-Ok.ensures.leaves c.in_ok-script.ensures.sizes;
      within = c.in-Ok.ensures.within;
      ended = c.in-Ok.ensures.limit;
      prints = c.in_ok-print_explored.ensures;
    }
