use Rattle.std.proofs.Common.{rules, ◌≡◌, None, Some, option_copied}
use Rattle.blob_debt.proofs.Keeping.{keeps_forgotten, keeps_all_forgotten}
use Rattle.blob_debt.proofs.pending.Pending.forget.Goals as goal

pub returns-in-Some : goal.returns-in-Some
returns-in-Some c = λ h s.
    let named : option_copied c.args.name ≡ Some c.in-Some.name.now = search rules in
    rw named (record { names = keeps_forgotten c.args.self.now.names c.remove.new.self c.args.partition.now c.in-Some.name.now h c.remove.ensures s.names; outstanding = s.outstanding; generations = s.generations; tokens = s.tokens; numbered = s.numbered })

pub returns-in-None : goal.returns-in-None
returns-in-None c = λ h s.
    let named : option_copied c.args.name ≡ None = search rules in
    rw named (record { names = keeps_all_forgotten c.args.self.now.names c.remove_partition.new.self c.args.partition.now h c.remove_partition.ensures s.names; outstanding = s.outstanding; generations = s.generations; tokens = s.tokens; numbered = s.numbered })
