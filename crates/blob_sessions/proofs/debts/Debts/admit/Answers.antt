use Rattle.std.proofs.Common.{rules, Err}
use Rattle.std.specs.Prelude.{alloc_error}
use Rattle.blob_header.specs.declared.error.Error.TheVariants.{Memory}
use Rattle.blob_sessions.proofs.debts.Debts.admit.Goals as goal

pub returns-in_err-reserve-clause-call : goal.returns-in_err-reserve-clause-call
returns-in_err-reserve-clause-call c = (Err (Memory alloc_error), search rules)

pub returns-in_err-reserve-2-clause-call : goal.returns-in_err-reserve-2-clause-call
returns-in_err-reserve-2-clause-call c = (Err (Memory alloc_error), search rules)
