use Rattle.std.proofs.Common.{sym, zero-add}
use Rattle.blob_debt.proofs.pending.Pending.starting_at.Goals as goal

pub returns : goal.returns
returns c = record {
  names = record { standing = c.new-pending.ensures.names.standing };
  outstanding = c.new-pending.ensures.outstanding;
  generations = sym (zero-add c.args.next_generation);
  tokens = sym (zero-add c.args.next_token);
  numbered = tt;
}
