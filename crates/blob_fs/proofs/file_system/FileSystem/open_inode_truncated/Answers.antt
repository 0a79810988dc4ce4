use Rattle.std.proofs.Common.{inl, refl, sym, ◌∙◌}
use Rattle.blob_fs.proofs.Calls.{resizes_opened}
use Rattle.blob_fs.proofs.Fixed.{some_same}
use Rattle.blob_fs.proofs.file_system.FileSystem.open_inode_truncated.Goals as goal

pub returns-in_err-begin_call-clause-fixed : goal.returns-in_err-begin_call-clause-fixed
returns-in_err-begin_call-clause-fixed g c = λ inode at byte below apart f. c.begin_call.ensures.keeps.fixed inode at byte below f

pub returns-in_err-file-clause-fixed : goal.returns-in_err-file-clause-fixed
returns-in_err-file-clause-fixed g c = λ inode at byte below apart f. c.open_inode.ensures.keeps.fixed inode at byte below (c.begin_call.ensures.keeps.fixed inode at byte below f)

pub returns-in_err-close-clause-fixed : goal.returns-in_err-close-clause-fixed
returns-in_err-close-clause-fixed g c = λ inode at byte below apart f.
    c.close.ensures.keeps.fixed inode at byte below
    (c.truncate.ensures.fixed inode at byte below (inl (λ e. apart (some_same (sym e ∙ c.in_ok-file.ensures.opened)))) (c.open_inode.ensures.keeps.fixed inode at byte below (c.begin_call.ensures.keeps.fixed inode at byte below f)))

pub returns-in-Err-clause-fixed : goal.returns-in-Err-clause-fixed
returns-in-Err-clause-fixed g c = λ inode at byte below apart f.
    c.close.ensures.keeps.fixed inode at byte below
    (c.truncate.ensures.fixed inode at byte below (inl (λ e. apart (some_same (sym e ∙ c.in_ok-file.ensures.opened)))) (c.open_inode.ensures.keeps.fixed inode at byte below (c.begin_call.ensures.keeps.fixed inode at byte below f)))

pub returns-clause-fixed : goal.returns-clause-fixed
returns-clause-fixed g c = λ inode at byte below apart f.
    c.truncate.ensures.fixed inode at byte below (inl (λ e. apart (some_same (sym e ∙ c.in_ok-file.ensures.opened)))) (c.open_inode.ensures.keeps.fixed inode at byte below (c.begin_call.ensures.keeps.fixed inode at byte below f))

pub returns-in_err-close-clause-told : goal.returns-in_err-close-clause-told
returns-in_err-close-clause-told g c = resizes_opened c.in_ok-file.file c.args.inode c.args.self.now c.open_inode.new.self c.truncate.new.self c.close.new.self
    c.in_ok-file.ensures.opened (c.open_inode.ensures.keeps.told ∙ c.begin_call.ensures.keeps.told) c.truncate.ensures.told c.close.ensures.keeps.told

pub returns-in-Err-clause-told : goal.returns-in-Err-clause-told
returns-in-Err-clause-told g c = resizes_opened c.in_ok-file.file c.args.inode c.args.self.now c.open_inode.new.self c.truncate.new.self c.close.new.self
    c.in_ok-file.ensures.opened (c.open_inode.ensures.keeps.told ∙ c.begin_call.ensures.keeps.told) c.truncate.ensures.told c.close.ensures.keeps.told

pub returns-clause-told : goal.returns-clause-told
returns-clause-told g c = resizes_opened c.in_ok-file.file c.args.inode c.args.self.now c.open_inode.new.self c.truncate.new.self c.truncate.new.self
    c.in_ok-file.ensures.opened (c.open_inode.ensures.keeps.told ∙ c.begin_call.ensures.keeps.told) c.truncate.ensures.told refl
