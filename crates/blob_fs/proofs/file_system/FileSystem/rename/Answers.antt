use Rattle.blob_fs.proofs.Calls.{always, on_ok}
use Rattle.blob_fs.proofs.Renaming.{nothing}
use Rattle.blob_fs.proofs.file_system.FileSystem.rename.Goals as goal

pub returns-in_err-from-clause-refused : goal.returns-in_err-from-clause-refused
returns-in_err-from-clause-refused g c = always _ (nothing c.args.self.now)

pub returns-in_err-to-clause-refused : goal.returns-in_err-to-clause-refused
returns-in_err-to-clause-refused g c = always _ (nothing c.args.self.now)

pub returns-clause-renamed : goal.returns-clause-renamed
returns-clause-renamed g c =
    let r = c.rename_at.result in
    on_ok r c.rename_at.ensures.renamed c.rename_at.ensures.renamed (λ x _. record {
      from_directory = c.in_ok-from.from.0;
      old = c.in_ok-from.from.1.now;
      from = c.in_ok-from.ensures;
      to_directory = c.in_ok-to.to.0;
      new = c.in_ok-to.to.1.now;
      into = c.in_ok-to.ensures;
      renamed = x;
    })
