use Rattle.std.proofs.Common.{ap, ◌&&◌}
use Rattle.std.proofs.lemmas.Bool.{and_right}
use Rattle.std.proofs.lemmas.Result.{on_ok_weaker}
use Rattle.blob_directory.specs.Syncs.{is_number, leaves_second}
use Rattle.blob_directory.proofs.Syncs.{one_directory, two_directories}
use Rattle.blob_directory.proofs.wanted.add_directories.Goals as goal

pub returns-in-None : goal.returns-in-None
returns-in-None c =
    let edits = c.args.edits.now in
    let edit = c.args.edit.now in
    one_directory edits c.args.inode edit c.args.numbers.now.items c.add_new.new.numbers.items
    (λ d. ap (λ o. is_number o d && leaves_second edits c.args.inode edit.edit.second) c.in-None.is)
    c.in_ok-add_new.ensures

pub returns-in-None-second : goal.returns-in-None-second
returns-in-None-second c =
    let edits = c.args.edits.now in
    let edit = c.args.edit.now in
    one_directory edits c.args.inode edit c.args.numbers.now.items c.add_new.new.numbers.items
    (λ d. and_right (is_number edit.about.other_directory d) _ (ap (leaves_second edits c.args.inode) c.in-None-second.is))
    c.in_ok-add_new.ensures

pub returns-in-Some-second : goal.returns-in-Some-second
returns-in-Some-second c = on_ok_weaker c.add_new-in-Some-second.result
    (λ h. two_directories c.args.edits.now c.args.inode c.args.edit.now c.in-Some.other c.in-Some-second.second c.args.numbers.now.items c.add_new.new.numbers.items
    c.add_new-in-Some-second.new.numbers.items c.in-Some.is c.in-Some-second.is c.in_ok-add_new.ensures h)
    c.add_new-in-Some-second.ensures
