use Rattle.std.proofs.Common.{◌∙◌, ◌++◌, ◌∷◌, [], List, ℕ, subst, ap, Vec, Global}
use Rattle.blob_memory.specs.declared.item.Item.{Item}
use Rattle.std.specs.Prelude.{map}
use Rattle.std.specs.Map.Iter.{deref_pair}
use Rattle.std.proofs.lemmas.List.{map-append}
use Rattle.blob_memory.specs.Audit.{pieces_of, piece_of}
use Rattle.blob_header.specs.Register.{HasTaken}
use Rattle.blob_memory.specs.Listing.{listing_in, listing_entry, raw_bytes}
use Rattle.blob_memory.proofs.Fed.{fed_more, piece_alone}
use Rattle.blob_memory.proofs.audit.feed_names.Goals as goal

pub loop-name-preserved : goal.loop-name-preserved
loop-name-preserved c = λ before h.
    let ys = map deref_pair c.loop-name.yielded in
    let x : Vec ℕ Global × Item = (c.in-Some.name.now, c.in-Some.item.now) in
    subst (λ l. HasTaken c.feed_blob.new.crc l)
    (fed_more before (listing_in c.args.partition.now ys) (listing_entry c.args.partition.now x ∷ []) _ _
    (ap (listing_in c.args.partition.now) (map-append deref_pair c.loop-name.yielded ((c.in-Some.name, c.in-Some.item) ∷ [])) ∙ map-append (listing_entry c.args.partition.now) ys (x ∷ []))
    (ap (λ (n : List ℕ). piece_of (record { partition = c.args.partition.now; name = n; bytes = raw_bytes c.in-Some.item.now })) c.deref.ensures.value ∙ piece_alone (listing_entry c.args.partition.now x)))
    (c.feed_blob.ensures (before ++ pieces_of (listing_in c.args.partition.now ys)) (c.loop-name.invariant before h))
