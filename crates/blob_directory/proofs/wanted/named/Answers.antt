use Rattle.std.proofs.Common.{Option, ap, sym, ◌∙◌}
use Rattle.blob_directory.specs.declared.edit.Binding.{Binding}
use Rattle.blob_directory.specs.Names.{edit_of, edited}
use Rattle.blob_directory.proofs.Syncs.{named_more}
use Rattle.blob_directory.proofs.wanted.named.Goals as goal

pub loop-edit-preserved : goal.loop-edit-preserved
loop-edit-preserved c =
    let edits = c.args.edits.now in
    let entry = c.args.entry.now in
    let item = c.edit-item.result in
    c.apply-to.ensures
    ∙ ap (λ (was : Option Binding). edited (λ _. was) (edit_of item.edit) entry) c.loop-edit.invariant
    ∙ sym (named_more edits c.loop-edit.edit-index item c.loop-edit-test.true c.edit-item.is entry)
