use Rattle.std.proofs.Common.{◌≡◌, ◌+◌, ℕ, length, ap, arith, sym, ◌∙◌}
use Rattle.blob_directory.specs.Names.{change_of}
use Rattle.blob_directory.proofs.Records.{length-change_bytes}
use Rattle.blob_directory.proofs.edit.Change.size.Goals as goal

pub returns-clause-fits : goal.returns-clause-fits
returns-clause-fits c =
    let long : c.len-entry.result ≡ length c.args.self.now.entry.items = c.len-entry.ensures ∙ c.args.self.now.entry.ok.0 in
    record {
      named = omega arith;
      short = omega arith;
      inode = omega arith;
    }

pub returns-clause-size : goal.returns-clause-size
returns-clause-size c = ap (λ (n : ℕ). 17 + n) (c.len-entry.ensures ∙ c.args.self.now.entry.ok.0) ∙ sym (length-change_bytes (change_of c.args.self.now))
