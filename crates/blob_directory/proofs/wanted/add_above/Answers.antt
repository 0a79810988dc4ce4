use Rattle.std.proofs.Common.{ℕ, ◌+◌, Vec, Global, sym, subst, take, ◌∙◌}
use Rattle.blob_directory.specs.Wanted.{HasAbove}
use Rattle.blob_directory.proofs.Syncs.{above_more, above_none, above_other}
use Rattle.blob_directory.proofs.wanted.add_above.Goals.{then-is_of+in_ok-add_directories, else-is_of}
use Rattle.blob_directory.proofs.wanted.add_above.Goals as goal

pub loop-edit-init : goal.loop-edit-init
loop-edit-init c = above_none c.args.edits.now c.args.inode c.args.numbers.now.items

pub loop-edit-preserved : goal.loop-edit-preserved
loop-edit-preserved c =
    let edits = c.args.edits.now in
    let k = c.loop-edit.edit-index in
    let item = c.edit-item.result in
    let old = c.args.numbers.now.items in
    elim c.if-is_of.branch [
      | then-is_of+in_ok-add_directories w ↦
          subst (λ (v : Vec ℕ Global). HasAbove edits (take (k + 1) edits) c.args.inode old v.items) (sym w.numbers-is)
          (above_more edits k item c.loop-edit-test.true c.edit-item.is edits c.args.inode old c.loop-edit.numbers.items w.add_directories.new.numbers.items c.loop-edit.invariant
          (sym c.is_of.ensures ∙ w.if-is_of.true) w.in_ok-add_directories.ensures)
      | else-is_of w ↦
          subst (λ (v : Vec ℕ Global). HasAbove edits (take (k + 1) edits) c.args.inode old v.items) (sym w.numbers-is)
          (above_other edits k item c.loop-edit-test.true c.edit-item.is edits c.args.inode old c.loop-edit.numbers.items c.loop-edit.invariant (sym c.is_of.ensures ∙ w.if-is_of.false))
    ]
