use Rattle.std.proofs.Common.{ap}
use Rattle.blob_fs.specs.Acts.{number_act}
use Rattle.blob_fs.proofs.Performing.{closes, creates_at, links_at, makes_directory_at, opens_inode, opens_inode_truncated, performs, reads, removes_directory_at, renames_at, settles, syncs, syncs_all, syncs_data, syncs_directory_at, truncates, unlinks_at, writes}
use Rattle.blob_fs.proofs.answer.by_number.Goals as goal

pub returns-in-Create : goal.returns-in-Create
returns-in-Create g c =
    performs _ _ _ _ c.args.fs.now c.create_at.new.self (ap number_act c.in-Create.is) c.opened.ensures c.create_at.ensures.rest.options
    (creates_at c.create_at.result c.in-Create.directory c.in-Create.name.now c.args.fs.now c.create_at.new.self c.create_at.ensures.free c.create_at.ensures.made c.create_at.ensures.refused c.create_at.ensures.rest.fixed)

pub returns-in-MakeDirectory : goal.returns-in-MakeDirectory
returns-in-MakeDirectory g c =
    performs _ _ _ _ c.args.fs.now c.make_directory_at.new.self (ap number_act c.in-MakeDirectory.is) c.inode.ensures c.make_directory_at.ensures.rest.options
    (makes_directory_at c.make_directory_at.result c.in-MakeDirectory.directory c.in-MakeDirectory.name.now c.args.fs.now c.make_directory_at.new.self c.make_directory_at.ensures.number c.make_directory_at.ensures.free c.make_directory_at.ensures.made c.make_directory_at.ensures.refused c.make_directory_at.ensures.rest.fixed)

pub returns-in-Link : goal.returns-in-Link
returns-in-Link g c =
    performs _ _ _ _ c.args.fs.now c.link_at.new.self (ap number_act c.in-Link.is) c.done.ensures c.link_at.ensures.rest.options
    (links_at c.link_at.result c.in-Link.inode c.in-Link.directory c.in-Link.name.now c.args.fs.now c.link_at.new.self c.link_at.ensures.free c.link_at.ensures.made c.link_at.ensures.refused c.link_at.ensures.rest.fixed)

pub returns-in-Unlink : goal.returns-in-Unlink
returns-in-Unlink g c =
    performs _ _ _ _ c.args.fs.now c.unlink_at.new.self (ap number_act c.in-Unlink.is) c.done-in-Unlink.ensures c.unlink_at.ensures.rest.options
    (unlinks_at c.unlink_at.result c.in-Unlink.directory c.in-Unlink.name.now c.args.fs.now c.unlink_at.new.self c.unlink_at.ensures.made c.unlink_at.ensures.refused c.unlink_at.ensures.rest.fixed)

pub returns-in-RemoveDirectory : goal.returns-in-RemoveDirectory
returns-in-RemoveDirectory g c =
    performs _ _ _ _ c.args.fs.now c.remove_directory_at.new.self (ap number_act c.in-RemoveDirectory.is) c.done-in-RemoveDirectory.ensures c.remove_directory_at.ensures.rest.options
    (removes_directory_at c.remove_directory_at.result c.in-RemoveDirectory.directory c.in-RemoveDirectory.name.now c.args.fs.now c.remove_directory_at.new.self c.remove_directory_at.ensures.made c.remove_directory_at.ensures.refused c.remove_directory_at.ensures.rest.fixed)

pub returns-in-Rename : goal.returns-in-Rename
returns-in-Rename g c =
    performs _ _ _ _ c.args.fs.now c.rename_at.new.self (ap number_act c.in-Rename.is) c.done-in-Rename.ensures c.rename_at.ensures.rest.options
    (renames_at c.rename_at.result c.in-Rename.from c.in-Rename.old.now c.in-Rename.to c.in-Rename.new.now c.in-Rename.how c.args.fs.now c.rename_at.new.self c.rename_at.ensures.renamed c.rename_at.ensures.refused c.rename_at.ensures.rest.fixed)

pub returns-in-Open : goal.returns-in-Open
returns-in-Open g c =
    performs _ _ _ _ c.args.fs.now c.open_inode.new.self (ap number_act c.in-Open.is) c.opened-in-Open.ensures c.open_inode.ensures.keeps.options
    (opens_inode c.open_inode.result c.in-Open.inode c.args.fs.now c.open_inode.new.self c.open_inode.ensures.opened c.open_inode.ensures.keeps)

pub returns-in-OpenTruncated : goal.returns-in-OpenTruncated
returns-in-OpenTruncated g c =
    performs _ _ _ _ c.args.fs.now c.open_inode_truncated.new.self (ap number_act c.in-OpenTruncated.is) c.opened-in-OpenTruncated.ensures c.open_inode_truncated.ensures.options
    (opens_inode_truncated c.open_inode_truncated.result c.in-OpenTruncated.inode c.args.fs.now c.open_inode_truncated.new.self c.open_inode_truncated.ensures.names c.open_inode_truncated.ensures.told c.open_inode_truncated.ensures.fixed)

pub returns-in-Close : goal.returns-in-Close
returns-in-Close g c =
    performs _ _ _ _ c.args.fs.now c.close.new.self (ap number_act c.in-Close.is) c.done-in-Close.ensures c.close.ensures.keeps.options
    (closes c.close.result c.in-Close.file c.args.fs.now c.close.new.self c.close.ensures.keeps c.close.ensures.open)

pub returns-in-Read : goal.returns-in-Read
returns-in-Read g c =
    performs _ _ _ _ c.args.fs.now c.read_some.new.fs (ap number_act c.in-Read.is) c.counted.ensures c.read_some.ensures.keeps.options
    (reads c.read_some.result c.in-Read.file c.in-Read.offset c.in-Read.len c.args.fs.now c.read_some.new.fs c.read_some.ensures.keeps c.read_some.ensures.open c.read_some.ensures.count)

pub returns-in-Write : goal.returns-in-Write
returns-in-Write g c =
    performs _ _ _ _ c.args.fs.now c.write.new.self (ap number_act c.in-Write.is) c.done-in-Write.ensures c.write.ensures.options
    (writes c.write.result c.in-Write.file c.in-Write.offset c.in-Write.bytes.now c.args.fs.now c.write.new.self c.write.ensures.names c.write.ensures.told c.write.ensures.shows c.write.ensures.recorded c.write.ensures.fixed)

pub returns-in-Truncate : goal.returns-in-Truncate
returns-in-Truncate g c =
    performs _ _ _ _ c.args.fs.now c.truncate.new.self (ap number_act c.in-Truncate.is) c.done-in-Truncate.ensures c.truncate.ensures.options
    (truncates c.truncate.result c.in-Truncate.file c.in-Truncate.length c.args.fs.now c.truncate.new.self c.truncate.ensures.names c.truncate.ensures.told c.truncate.ensures.noted c.truncate.ensures.size c.truncate.ensures.fixed)

pub returns-in-Sync : goal.returns-in-Sync
returns-in-Sync g c =
    performs _ _ _ _ c.args.fs.now c.sync.new.self (ap number_act c.in-Sync.is) c.done-in-Sync.ensures c.sync.ensures.rest.options
    (syncs c.sync.result c.in-Sync.file c.args.fs.now c.sync.new.self c.sync.ensures.some c.sync.ensures.settled c.sync.ensures.rest.fixed c.sync.ensures.fixes)

pub returns-in-SyncData : goal.returns-in-SyncData
returns-in-SyncData g c =
    performs _ _ _ _ c.args.fs.now c.sync_data.new.self (ap number_act c.in-SyncData.is) c.done-in-SyncData.ensures c.sync_data.ensures.rest.options
    (syncs_data c.sync_data.result c.in-SyncData.file c.args.fs.now c.sync_data.new.self c.sync_data.ensures.some c.sync_data.ensures.settled c.sync_data.ensures.rest.fixed c.sync_data.ensures.fixes)

pub returns-in-SyncDirectory : goal.returns-in-SyncDirectory
returns-in-SyncDirectory g c =
    performs _ _ _ _ c.args.fs.now c.sync_directory_at.new.self (ap number_act c.in-SyncDirectory.is) c.done-in-SyncDirectory.ensures c.sync_directory_at.ensures.rest.options
    (syncs_directory_at c.sync_directory_at.result c.in-SyncDirectory.directory c.args.fs.now c.sync_directory_at.new.self c.sync_directory_at.ensures.some c.sync_directory_at.ensures.settled c.sync_directory_at.ensures.rest.fixed)

pub returns-in-SyncAll : goal.returns-in-SyncAll
returns-in-SyncAll g c =
    performs _ _ _ _ c.args.fs.now c.sync_all.new.self (ap number_act c.in-SyncAll.is) c.done-in-SyncAll.ensures c.sync_all.ensures.rest.options
    (syncs_all c.sync_all.result c.args.fs.now c.sync_all.new.self c.sync_all.ensures.some c.sync_all.ensures.settled c.sync_all.ensures.rest.fixed c.sync_all.ensures.fixes)

pub returns-in-Settle : goal.returns-in-Settle
returns-in-Settle g c =
    performs _ _ _ _ c.args.fs.now c.settle.new.self (ap number_act c.in-Settle.is) c.done-in-Settle.ensures c.settle.ensures.rest.options
    (settles c.settle.result c.args.fs.now c.settle.new.self c.settle.ensures.some c.settle.ensures.settled c.settle.ensures.rest.fixed c.settle.ensures.fixes)
