use Rattle.std.proofs.Common.{ap, refl}
use Rattle.blob_fs.specs.Acts.{look_act}
use Rattle.blob_fs.proofs.Performing.{finds_at, lists_at, performs, tells_inode, tells_size}
use Rattle.blob_fs.proofs.answer.look_up.Goals as goal

pub returns-in-Names : goal.returns-in-Names
returns-in-Names g c =
    performs _ _ _ _ c.args.fs.now c.args.fs.now (ap look_act c.in-Names.is) c.listed.ensures refl
    (lists_at c.list_at.result c.in-Names.directory c.args.fs.now c.list_at.ensures.only c.list_at.ensures.all)

pub returns-in-Find : goal.returns-in-Find
returns-in-Find g c =
    performs _ _ _ c.found.result c.args.fs.now c.args.fs.now (ap look_act c.in-Find.is) refl refl
    (finds_at c.look_up.result c.found.result c.in-Find.directory c.in-Find.name.now c.args.fs.now c.found.ensures c.look_up.ensures)

pub returns-in-Size : goal.returns-in-Size
returns-in-Size g c =
    performs _ _ _ _ c.args.fs.now c.args.fs.now (ap look_act c.in-Size.is) c.sized.ensures refl
    (tells_size c.size.result c.in-Size.file c.args.fs.now c.size.ensures)

pub returns-in-Inode : goal.returns-in-Inode
returns-in-Inode g c =
    performs _ _ _ _ c.args.fs.now c.args.fs.now (ap look_act c.in-Inode.is) c.inode.ensures refl
    (tells_inode c.inode_of.result c.in-Inode.file c.args.fs.now c.inode_of.ensures)
