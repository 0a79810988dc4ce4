use Rattle.blob_file_scripts.proofs.Forking.{made}
use Rattle.blob_file_scripts.proofs.shared.Shared.fork.Goals as goal

pub returns-in-Ok : goal.returns-in-Ok
returns-in-Ok c =
    made c.args.words.items c.args.self.now.files c.new.result c.fs.result.now c.in-Ok.fs c.new-rng.result c.fs.ensures c.new.ensures.fs
    c.in-Ok.ensures.fork c.in-Ok.ensures.looks c.in-Ok.ensures.crashes c.in-Ok.ensures.fixed c.in-Ok.ensures.generator c.new-rng.ensures
