use Rattle.std.proofs.Common.{ap}
use Rattle.blob_fs.specs.Acts.{act_of}
use Rattle.blob_fs.proofs.Performing.{commits, crashes, performed, performs, walks}
use Rattle.blob_fs.proofs.file_system.FileSystem.answer.Goals as goal

pub returns-in-ByPath : goal.returns-in-ByPath
returns-in-ByPath g c = performed _ _ _ c.args.self.now c.by_path.new.fs (ap act_of c.in-ByPath.is) c.by_path.ensures

pub returns-in-ByNumber : goal.returns-in-ByNumber
returns-in-ByNumber g c = performed _ _ _ c.args.self.now c.by_number.new.fs (ap act_of c.in-ByNumber.is) c.by_number.ensures

pub returns-in-LookUp : goal.returns-in-LookUp
returns-in-LookUp g c = performed _ _ _ c.args.self.now c.args.self.now (ap act_of c.in-LookUp.is) c.look_up.ensures

pub returns-in-Commit : goal.returns-in-Commit
returns-in-Commit g c =
    let e = c.commit.ensures in
    performs _ _ _ _ c.args.self.now c.commit.new.self (ap act_of c.in-Commit.is) c.done.ensures e.rest.options
    (commits c.commit.result c.args.self.now c.commit.new.self e.names e.committed e.some e.rest.fixed)

pub returns-in-Crash : goal.returns-in-Crash
returns-in-Crash g c =
    let e = c.crash.ensures in
    performs _ _ _ _ c.args.self.now c.crash.new.self (ap act_of c.in-Crash.is) c.crashed.ensures e.options
    (crashes c.crash.result c.args.self.now c.crash.new.self e.found e.kept e.told e.bytes e.known e.edits e.orphans e.fixed e.fixes e.places e.refused e.errors)

pub returns-in-Tree : goal.returns-in-Tree
returns-in-Tree g c =
    performs _ _ _ _ c.args.self.now c.tree.new.self (ap act_of c.in-Tree.is) c.walked.ensures c.tree.ensures.options
    (walks c.tree.result c.args.self.now c.tree.new.self c.tree.ensures)
