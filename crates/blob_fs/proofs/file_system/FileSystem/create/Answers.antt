use Rattle.blob_directory.specs.Names.{binds, file}
use Rattle.blob_fs.specs.Files.{fresh_inode}
use Rattle.blob_fs.proofs.Calls.{always}
use Rattle.blob_fs.proofs.Renaming.{nothing}
use Rattle.blob_fs.proofs.Walking.{makes_at}
use Rattle.blob_fs.proofs.file_system.FileSystem.create.Goals as goal

pub returns-in_err-directory-clause-refused : goal.returns-in_err-directory-clause-refused
returns-in_err-directory-clause-refused g c = always _ (nothing c.args.self.now)

pub returns-clause-made : goal.returns-clause-made
returns-clause-made g c =
    makes_at c.create_at.result c.args.path.now (λ d n. binds d n (file (fresh_inode c.args.self.now))) c.args.self.now c.create_at.new.self c.in_ok-directory.directory c.in_ok-directory.name.now
    c.in_ok-directory.ensures c.create_at.ensures.made
