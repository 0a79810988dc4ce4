use Rattle.std.proofs.Common.{ap, refl}
use Rattle.blob_fs.specs.Acts.{path_act}
use Rattle.blob_fs.proofs.Performing.{creates, finds, links, lists, makes_directory, opens, opens_truncated, performs, removes_directory, renames, syncs_directory, unlinks}
use Rattle.blob_fs.proofs.answer.by_path.Goals as goal

pub returns-in-Create : goal.returns-in-Create
returns-in-Create g c =
    performs _ _ _ _ c.args.fs.now c.create.new.self (ap path_act c.in-Create.is) c.opened.ensures c.create.ensures.rest.options
    (creates c.create.result c.in-Create.path.now c.args.fs.now c.create.new.self c.create.ensures.made c.create.ensures.refused c.create.ensures.rest.fixed)

pub returns-in-Open : goal.returns-in-Open
returns-in-Open g c =
    performs _ _ _ _ c.args.fs.now c.open.new.self (ap path_act c.in-Open.is) c.opened-in-Open.ensures c.open.ensures.keeps.options
    (opens c.open.result c.in-Open.path.now c.args.fs.now c.open.new.self c.open.ensures.keeps c.open.ensures.opened)

pub returns-in-OpenTruncated : goal.returns-in-OpenTruncated
returns-in-OpenTruncated g c =
    performs _ _ _ _ c.args.fs.now c.open_truncated.new.self (ap path_act c.in-OpenTruncated.is) c.opened-in-OpenTruncated.ensures c.open_truncated.ensures.options
    (opens_truncated c.open_truncated.result c.in-OpenTruncated.path.now c.args.fs.now c.open_truncated.new.self c.open_truncated.ensures.names c.open_truncated.ensures.told c.open_truncated.ensures.fixed)

pub returns-in-Link : goal.returns-in-Link
returns-in-Link g c =
    performs _ _ _ _ c.args.fs.now c.link.new.self (ap path_act c.in-Link.is) c.done.ensures c.link.ensures.rest.options
    (links c.link.result c.in-Link.path.now c.in-Link.to.now c.args.fs.now c.link.new.self c.link.ensures.made c.link.ensures.refused c.link.ensures.rest.fixed)

pub returns-in-Unlink : goal.returns-in-Unlink
returns-in-Unlink g c =
    performs _ _ _ _ c.args.fs.now c.unlink.new.self (ap path_act c.in-Unlink.is) c.done-in-Unlink.ensures c.unlink.ensures.rest.options
    (unlinks c.unlink.result c.in-Unlink.path.now c.args.fs.now c.unlink.new.self c.unlink.ensures.made c.unlink.ensures.refused c.unlink.ensures.rest.fixed)

pub returns-in-Rename : goal.returns-in-Rename
returns-in-Rename g c =
    performs _ _ _ _ c.args.fs.now c.rename.new.self (ap path_act c.in-Rename.is) c.done-in-Rename.ensures c.rename.ensures.rest.options
    (renames c.rename.result c.in-Rename.path.now c.in-Rename.to.now c.in-Rename.how c.args.fs.now c.rename.new.self c.rename.ensures.renamed c.rename.ensures.refused c.rename.ensures.rest.fixed)

pub returns-in-MakeDirectory : goal.returns-in-MakeDirectory
returns-in-MakeDirectory g c =
    performs _ _ _ _ c.args.fs.now c.make_directory.new.self (ap path_act c.in-MakeDirectory.is) c.done-in-MakeDirectory.ensures c.make_directory.ensures.rest.options
    (makes_directory c.make_directory.result c.in-MakeDirectory.path.now c.args.fs.now c.make_directory.new.self c.make_directory.ensures.made c.make_directory.ensures.refused c.make_directory.ensures.rest.fixed)

pub returns-in-RemoveDirectory : goal.returns-in-RemoveDirectory
returns-in-RemoveDirectory g c =
    performs _ _ _ _ c.args.fs.now c.remove_directory.new.self (ap path_act c.in-RemoveDirectory.is) c.done-in-RemoveDirectory.ensures c.remove_directory.ensures.rest.options
    (removes_directory c.remove_directory.result c.in-RemoveDirectory.path.now c.args.fs.now c.remove_directory.new.self c.remove_directory.ensures.made c.remove_directory.ensures.refused c.remove_directory.ensures.rest.fixed)

pub returns-in-List : goal.returns-in-List
returns-in-List g c =
    performs _ _ _ _ c.args.fs.now c.args.fs.now (ap path_act c.in-List.is) c.listed.ensures refl
    (lists c.list.result c.in-List.path.now c.args.fs.now c.list.ensures)

pub returns-in-SyncDirectory : goal.returns-in-SyncDirectory
returns-in-SyncDirectory g c =
    performs _ _ _ _ c.args.fs.now c.sync_directory.new.self (ap path_act c.in-SyncDirectory.is) c.done-in-SyncDirectory.ensures c.sync_directory.ensures.rest.options
    (syncs_directory c.sync_directory.result c.in-SyncDirectory.path.now c.args.fs.now c.sync_directory.new.self c.sync_directory.ensures.some c.sync_directory.ensures.settled c.sync_directory.ensures.rest.fixed)

pub returns-in-Find : goal.returns-in-Find
returns-in-Find g c =
    performs _ _ _ c.found.result c.args.fs.now c.args.fs.now (ap path_act c.in-Find.is) refl refl
    (finds c.find.result c.found.result c.in-Find.path.now c.args.fs.now c.found.ensures c.find.ensures)
