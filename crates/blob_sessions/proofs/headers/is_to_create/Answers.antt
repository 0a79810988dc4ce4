use Rattle.blob_sessions.proofs.Resolving.{on_false, on_true}
use Rattle.blob_sessions.proofs.headers.is_to_create.Goals as goal

pub returns-clause-is : goal.returns-clause-is
returns-clause-is c = on_true c.is_none.result (λ e blob len front. (c.resolve-found.ensures.none blob len front).0 e) c.is_none.ensures.is

pub returns-clause-not : goal.returns-clause-not
returns-clause-not c = on_false c.is_none.result (λ some blob len front x. some ((c.resolve-found.ensures.none blob len front).1 x)) c.is_none.ensures.not
