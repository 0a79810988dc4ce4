use Rattle.blob_directory.specs.Names.{binds, file}
use Rattle.blob_fs.proofs.Calls.{always, on_ok}
use Rattle.blob_fs.proofs.Renaming.{nothing}
use Rattle.blob_fs.proofs.Walking.{makes_at}
use Rattle.blob_fs.proofs.file_system.FileSystem.link.Goals as goal

pub returns-in_err-found-clause-refused : goal.returns-in_err-found-clause-refused
returns-in_err-found-clause-refused g c = always _ (nothing c.args.self.now)

pub returns-in_err-directory-clause-refused : goal.returns-in_err-directory-clause-refused
returns-in_err-directory-clause-refused g c = always _ (nothing c.args.self.now)

pub returns-clause-made : goal.returns-clause-made
returns-clause-made g c =
    let r = c.link_at.result in
    let made = makes_at r c.args.to.now (λ d n. binds d n (file c.in_ok-found.found.inode)) c.args.self.now c.link_at.new.self c.in_ok-directory.directory c.in_ok-directory.name.now
    c.in_ok-directory.ensures c.link_at.ensures.made in
    on_ok r made made (λ m _. record { found = c.in_ok-found.found; bound = c.in_ok-found.ensures; made = m })
