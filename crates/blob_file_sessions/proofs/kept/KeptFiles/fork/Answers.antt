use Rattle.std.proofs.Common.{◌≡◌, ◌∙◌, refl, subst, sym}
use Rattle.blob_file_sessions.specs.Forks.{IsKeptFork}
use Rattle.blob_file_sessions.proofs.kept.KeptFiles.fork.Goals as goal

pub returns-clause-ok : goal.returns-clause-ok
returns-clause-ok c =
    let fs = c.in_ok-fs.ensures in
    subst (IsKeptFork c.args.self.now) (sym c.in_ok-new.ensures.ok) (record {
      fs = fs.fork;
      generator = fs.generator ∙ c.in_ok-rng.ensures ∙ c.rng.ensures;
      looks = fs.looks;
      crashes = fs.crashes;
      fixed = fs.fixed;
      last = c.in_ok-last.ensures.ok;
      power = refl;
    })
