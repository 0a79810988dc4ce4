use Rattle.std.proofs.Common.{arith}
use Rattle.blob_journal.proofs.journaled.Journaled.note.Goals as goal

pub returns-clause-known : goal.returns-clause-known
returns-clause-known g c = λ apart. omega (arith, apart, c.number_of.ensures, c.saturating_add.ensures, c.max-self.ensures, c.number_of.type_inv)
