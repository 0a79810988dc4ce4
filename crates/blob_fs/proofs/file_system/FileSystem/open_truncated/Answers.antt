use Rattle.std.proofs.Common.{subst}
use Rattle.blob_directory.specs.Tables.{bound}
use Rattle.blob_fs.specs.Paths.{IsBound}
use Rattle.blob_fs.proofs.Calls.{resizes_from}
use Rattle.blob_fs.proofs.file_system.FileSystem.open_truncated.Goals as goal

pub returns-clause-told : goal.returns-clause-told
returns-clause-told g c =
    let inode = c.in_ok-found.found.inode in
    (inode, resizes_from inode c.args.self.now c.begin_call.new.self c.open_inode_truncated.new.self c.begin_call.ensures.keeps.told c.open_inode_truncated.ensures.told)

pub returns-in_err-begin_call-clause-fixed : goal.returns-in_err-begin_call-clause-fixed
returns-in_err-begin_call-clause-fixed g c = λ inode at byte below beside f. c.begin_call.ensures.keeps.fixed inode at byte below f

pub returns-in_err-found-clause-fixed : goal.returns-in_err-found-clause-fixed
returns-in_err-found-clause-fixed g c = λ inode at byte below beside f. c.begin_call.ensures.keeps.fixed inode at byte below f

pub returns-clause-fixed : goal.returns-clause-fixed
returns-clause-fixed g c = λ inode at byte below beside f.
    let found = c.in_ok-found.found in
    let there = subst (λ t. IsBound (bound t) c.args.path.now found) c.begin_call.ensures.keeps.names c.in_ok-found.ensures in
    c.open_inode_truncated.ensures.fixed inode at byte below (beside found there) (c.begin_call.ensures.keeps.fixed inode at byte below f)
