use Rattle.std.proofs.Common.{refl, ap}
use Rattle.blob_debt.specs.Debts.{standing_of}
use Rattle.blob_debt.proofs.pending.Pending.new.Goals as goal

pub returns : goal.returns
returns c = record {
  names = record { standing = λ p n. ap (λ f. standing_of (f p n)) c.new.ensures };
  outstanding = λ t. rw c.new-2.ensures.empty refl;
  generations = refl;
  tokens = refl;
  numbered = tt;
}
