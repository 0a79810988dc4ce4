use Rattle.std.proofs.Common.{◌≡◌, length}
use Rattle.blob_tokens.specs.Tokens.{tokens}
use Rattle.blob_tokens.proofs.token.Tokens.next.Given as goal

abbrev pub invariant-loop-piece : goal.invariant-loop-piece
invariant-loop-piece l = tokens l.self-inside.rest.now ≡ tokens l.initial.self-inside.rest.now

abbrev pub decreases-loop-piece : goal.decreases-loop-piece
decreases-loop-piece l = length l.self-inside.rest.now
