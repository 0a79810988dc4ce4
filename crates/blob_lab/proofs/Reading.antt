-- Reading on.
use Rattle.std.proofs.Common.{ℕ, List, Option, Some, None, ap, ◌∙◌}
use Rattle.std.specs.Io.KnownBytes.{IsAtEnd}
use Rattle.std.specs.Io.BufRead.{DropsThrough, drop_through}
use Rattle.blob_lab.specs.Reading.{IsReadOut, StaysKnown}

pub dropped_out : (a b : Option (List ℕ)) → DropsThrough a b 10 → IsAtEnd a → IsReadOut a b
dropped_out None b h e = tt
dropped_out (Some xs) b h e = h ∙ ap (λ l. Some (drop_through 10 l)) e

-- still known after another read
pub stays_known : (a b c : Option (List ℕ)) → StaysKnown a b → StaysKnown b c → StaysKnown a c
stays_known None b c ab bc = tt
stays_known (Some xs) None c ab bc = absurd (cc)
stays_known (Some xs) (Some ys) c ab bc = bc
