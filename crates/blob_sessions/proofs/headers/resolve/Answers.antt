use Rattle.blob_sessions.proofs.Resolving.{has_header}
use Rattle.blob_sessions.proofs.headers.resolve.Goals as goal

pub returns-clause-resolved : goal.returns-clause-resolved
returns-clause-resolved c =
    λ front.
    has_header c.args.raw.now c.args.raw_len c.args.accepts.now c.parse.result c.if-is_to_create.ensures.not
    (c.parse.ensures.parsed (record { whole = c.if-is_to_create.ensures.whole; front = front.front; within = front.within }))
