use Rattle.std.proofs.Common.{Bool, not, subst, sym}
use Rattle.blob_fs.specs.declared.file_system.FileSystem.{FileSystem}
use Rattle.blob_fs.specs.Calls.{Does}
use Rattle.blob_fs.proofs.Numbered.{does_number, keeps_unreached}
use Rattle.blob_fs.proofs.file_system.FileSystem.call.Goals as goal

pub returns-clause-does : goal.returns-clause-does
returns-clause-does g c =
    let fs : FileSystem g.row.R.Denot = c.args.self.now in
    let fs' : FileSystem g.row.R.Denot = c.by_number.new.fs in
    subst (λ (b : Bool). Does c.args.call.now (not b) fs fs') (sym c.is_refused.ensures) (does_number c.args.call.now c.by_number.result fs fs' c.by_number.ensures.effect)

pub returns-clause-fixed : goal.returns-clause-fixed
returns-clause-fixed g c = keeps_unreached c.args.call.now c.by_number.result c.args.self.now c.by_number.new.fs c.by_number.ensures.effect
