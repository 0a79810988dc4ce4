use Rattle.std.proofs.Common.{ℕ, subst}
use Rattle.blob_directory.specs.Names.{binds, directory_at}
use Rattle.blob_fs.specs.Calls.{Makes}
use Rattle.blob_fs.proofs.Calls.{always}
use Rattle.blob_fs.proofs.Renaming.{nothing}
use Rattle.blob_fs.proofs.file_system.FileSystem.make_directory.Goals as goal

pub returns-in_err-directory-clause-refused : goal.returns-in_err-directory-clause-refused
returns-in_err-directory-clause-refused g c = always _ (nothing c.args.self.now)

pub returns-in_err-make_directory_at-clause-refused : goal.returns-in_err-make_directory_at-clause-refused
returns-in_err-make_directory_at-clause-refused g c = always _ c.in_err-make_directory_at.ensures.refused

pub returns-clause-made : goal.returns-clause-made
returns-clause-made g c =
    let r = c.in_ok-make_directory_at.ensures in
    let d = c.in_ok-directory.directory in
    let n = c.in_ok-directory.name.now in
    record {
      directory = d;
      name = n;
      place = c.in_ok-directory.ensures;
      made = subst (λ (i : ℕ). Makes (binds d n (directory_at i)) c.args.self.now c.make_directory_at.new.self) r.number r.made;
    }
