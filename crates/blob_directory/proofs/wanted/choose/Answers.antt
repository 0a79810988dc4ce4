use Rattle.std.proofs.Common.{false, inl, inr, true, ⊎_elim}
use Rattle.std.proofs.lemmas.Bool.{or_cases, or_left, or_right}
use Rattle.blob_directory.specs.Wanted.{is_upward}
use Rattle.blob_directory.specs.Syncs.{is_settled_in}
use Rattle.blob_directory.proofs.Syncs.{of_upward, up_to_alone, up_to_or_below, upward_of}
use Rattle.blob_directory.proofs.wanted.choose.Goals as goal

pub returns-in_ok-above-in-Names-File : goal.returns-in_ok-above-in-Names-File
returns-in_ok-above-in-Names-File c = λ e there.
    let edits = c.args.edits.now in
    let found = c.in_ok-above-in-Names-File.above.items in
    rw (c.in-Names-File.is-0, c.in-Names-File.is-1) (
      of_upward edits c.in-Names-File.inode found e c.in_ok-above-in-Names-File.ensures.only,
      upward_of edits c.in-Names-File.inode found e c.in_ok-above-in-Names-File.ensures.all,
    )

pub returns-in_ok-above-in-Names-Data : goal.returns-in_ok-above-in-Names-Data
returns-in_ok-above-in-Names-Data c = λ e there.
    let edits = c.args.edits.now in
    let found = c.in_ok-above-in-Names-Data.above.items in
    rw (c.in-Names-Data.is-0, c.in-Names-Data.is-1) (
      of_upward edits c.in-Names-Data.inode found e c.in_ok-above-in-Names-Data.ensures.only,
      upward_of edits c.in-Names-Data.inode found e c.in_ok-above-in-Names-Data.ensures.all,
    )

pub returns-in_ok-above-in-Names-Directory : goal.returns-in_ok-above-in-Names-Directory
returns-in_ok-above-in-Names-Directory c = λ e there.
    let edits = c.args.edits.now in
    let d = c.in-Names-Directory.directory in
    let found = c.in_ok-above-in-Names-Directory.above.items in
    rw (c.in-Names-Directory.is-0, c.in-Names-Directory.is-1) (
      λ h. ⊎_elim (λ x. inl (of_upward edits d found e c.in_ok-above-in-Names-Directory.ensures.only x)) (λ y. inr y) (or_cases (is_upward d found e) (is_settled_in d e.about) h),
      λ s. ⊎_elim (λ x. or_left (is_upward d found e) (is_settled_in d e.about) (upward_of edits d found e c.in_ok-above-in-Names-Directory.ensures.all x)) (λ y. or_right (is_upward d found e) (is_settled_in d e.about) y) s,
    )

pub returns-in-UpToLast-File : goal.returns-in-UpToLast-File
returns-in-UpToLast-File c = λ e there. rw (c.in-UpToLast-File.is-0, c.in-UpToLast-File.is-1) (up_to_or_below c.args.edits.now false c.in-UpToLast-File.inode c.last_of.result c.in-UpToLast-File.sized e c.last_of.ensures)

pub returns-in-UpToLast-Data : goal.returns-in-UpToLast-Data
returns-in-UpToLast-Data c = λ e there. rw (c.in-UpToLast-Data.is-0, c.in-UpToLast-Data.is-1) (up_to_or_below c.args.edits.now true c.in-UpToLast-Data.inode c.last_of-in-UpToLast-Data.result c.in-UpToLast-Data.sized e c.last_of-in-UpToLast-Data.ensures)

pub returns-in-UpToLast-Directory : goal.returns-in-UpToLast-Directory
returns-in-UpToLast-Directory c = λ e there. rw (c.in-UpToLast-Directory.is-0, c.in-UpToLast-Directory.is-1) (up_to_alone c.args.edits.now false c.in-UpToLast-Directory.directory c.last_of-in-UpToLast-Directory.result e c.last_of-in-UpToLast-Directory.ensures)

pub returns-in-UpToLastOrSize-File : goal.returns-in-UpToLastOrSize-File
returns-in-UpToLastOrSize-File c = λ e there. rw (c.in-UpToLastOrSize-File.is-0, c.in-UpToLastOrSize-File.is-1) (up_to_or_below c.args.edits.now false c.in-UpToLastOrSize-File.inode c.last_of-in-UpToLastOrSize-File.result c.in-UpToLastOrSize-File.sized e c.last_of-in-UpToLastOrSize-File.ensures)
