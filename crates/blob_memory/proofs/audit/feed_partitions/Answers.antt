use Rattle.std.proofs.Common.{◌∙◌, ◌++◌, ◌∷◌, [], List, ℕ, subst, sym, ap, append-nil}
use Rattle.std.specs.Prelude.{map}
use Rattle.std.specs.String.{string_bytes}
use Rattle.std.specs.Map.Iter.{deref_pair}
use Rattle.std.proofs.lemmas.List.{map-append}
use Rattle.std.proofs.lemmas.Grind.{flat_map-append}
use Rattle.blob_memory.specs.Audit.{pieces_of}
use Rattle.blob_header.specs.Register.{HasTaken}
use Rattle.blob_memory.specs.Listing.{listing_in, listing_all, AreAllOrdered}
use Rattle.blob_memory.proofs.Fed.{fed_more}
use Rattle.blob_memory.proofs.ListingOf.{all_more}
use Rattle.blob_memory.proofs.audit.feed_partitions.Goals as goal

pub loop-partition-preserved : goal.loop-partition-preserved
loop-partition-preserved c = record {
  fed = λ before h.
      let ys = map deref_pair c.loop-partition.yielded in
      let here = listing_in (string_bytes c.in-Some.partition.now) c.in-Some.names.now.entries in
      subst (λ l. HasTaken c.feed_names.new.crc l)
      (fed_more before (listing_all ys) here _ _
      (ap listing_all (map-append deref_pair c.loop-partition.yielded ((c.in-Some.partition, c.in-Some.names) ∷ [])) ∙ flat_map-append (λ e. listing_in (string_bytes e.0) e.1.entries) ys ((c.in-Some.partition.now, c.in-Some.names.now) ∷ []) ∙ ap (λ l. listing_all ys ++ l) (append-nil here))
      (ap (λ (p : List ℕ). pieces_of (listing_in p c.in-Some.names.now.entries)) c.deref.ensures))
      (c.feed_names.ensures.fed (before ++ pieces_of (listing_all ys)) (c.loop-partition.invariant.fed before h));
  ordered = subst AreAllOrdered (sym (map-append deref_pair c.loop-partition.yielded ((c.in-Some.partition, c.in-Some.names) ∷ []))) (all_more (map deref_pair c.loop-partition.yielded) (c.in-Some.partition.now, c.in-Some.names.now) c.loop-partition.invariant.ordered c.feed_names.ensures.ordered);
}
