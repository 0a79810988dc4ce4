use Rattle.std.proofs.Common.{sym, ap, ◌∙◌, set}
use Rattle.std.proofs.lemmas.List.Edits.{map_over_more}
use Rattle.blob_directory.specs.Syncs.{unbound}
use Rattle.blob_directory.specs.declared.unsettled.Unsettled.{Unsettled}
use Rattle.blob_directory.proofs.unsettled.note_bound.Goals as goal

pub loop-edit-preserved : goal.loop-edit-preserved
loop-edit-preserved c =
    let edits = c.loop-edit.edits in
    let k = c.loop-edit.edit-index in
    let f = unbound c.args.directory in
    ap (λ (e : Unsettled). set edits k e) (c.note_bound.ensures ∙ ap f (sym c.edit-item.is))
    ∙ map_over_more f c.args.edits.now edits k c.edit-item.result c.loop-edit-test.true c.loop-edit.invariant c.edit-item.is
