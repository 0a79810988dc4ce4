use Rattle.std.proofs.Common.{◌≡◌, ◌∙◌, ap, sym, take, true, List}
use Rattle.std.specs.List.{list_all}
use Rattle.std.proofs.lemmas.Bool.{and_from}
use Rattle.std.proofs.lemmas.List.Folds.{list_all_more}
use Rattle.blob_directory.specs.Indexes.{is_indexed}
use Rattle.blob_directory.specs.declared.unsettled.Unsettled.{Unsettled}
use Rattle.blob_directory.proofs.Indexes.{keeps_indexed}
use Rattle.blob_directory.proofs.unsettled_edits.add_all.Goals as goal

pub loop-edit-preserved : goal.loop-edit-preserved
loop-edit-preserved c =
    let i = c.loop-edit.invariant in
    let k = c.loop-edit.edit-index in
    let edits = c.args.edits.now in
    let new = c.add_about.new.index in
    let before : list_all (is_indexed new) (take k edits) ≡ true = keeps_indexed c.loop-edit.index new (take k edits) c.add_about.ensures.keeps i.added in
    record {
      keeps = λ n h. c.add_about.ensures.keeps n (i.keeps n h);
      added = list_all_more (is_indexed new) edits k c.edit-item.result c.loop-edit-test.true
          ∙ and_from _ _ before (ap (is_indexed new) (sym c.edit-item.is) ∙ c.in_ok-add_about.ensures.added);
    }
