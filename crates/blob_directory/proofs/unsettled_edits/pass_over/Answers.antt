use Rattle.std.proofs.Common.{rules, get_or, sym}
use Rattle.std.proofs.lemmas.List.{get_or_default}
use Rattle.blob_directory.proofs.Indexes.{one_more_marked, same_first}
use Rattle.blob_directory.proofs.unsettled_edits.pass_over.Goals as goal

pub loop-at-init : goal.loop-at-init
loop-at-init c = sym (same_first c.args.from c.args.edits.now c.requires.noted)

pub loop-at-preserved : goal.loop-at-preserved
loop-at-preserved c = one_more_marked c.args.edits.now c.loop-at.edits c.loop-at.at _ c.pass_over.new.self c.loop-at-test.true (get_or_default c.loop-at.edits c.loop-at.at _ _ (search rules)) c.pass_over.ensures c.loop-at.invariant
