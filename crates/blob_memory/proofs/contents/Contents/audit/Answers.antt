use Rattle.std.proofs.Common.{List, ℕ, Option, sym, subst}
use Rattle.blob_memory.specs.Audit.{IsListing}
use Rattle.blob_memory.specs.Listing.{listing_at}
use Rattle.blob_memory.proofs.Copies.{raw_blob_is}
use Rattle.blob_memory.proofs.contents.Contents.audit.Goals as goal

pub returns-clause-listing : goal.returns-clause-listing
returns-clause-listing c = subst (λ (raw : List ℕ → List ℕ → Option (List ℕ)). IsListing raw (listing_at c.args.self.now)) (λ i p n. sym (raw_blob_is c.args.self.now p n) i) c.audit.ensures.listing
