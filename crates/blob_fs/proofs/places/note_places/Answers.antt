use Rattle.std.proofs.Common.{◌≡◌, ◌∙◌, List, ap, arith, refl, sym}
use Rattle.std.specs.BTreeMap.{get}
use Rattle.std.specs.Ordering.{nat_cmp}
use Rattle.std.proofs.lemmas.List.{at_drop_all}
use Rattle.blob_model.specs.Log.{Need}
use Rattle.blob_model.specs.Pending.{has_marker, waiting}
use Rattle.blob_pending.specs.Views.{left_in}
use Rattle.blob_pending.specs.declared.entry.Entry.{Entry}
use Rattle.blob_pending.proofs.Unmarked.{unmarked_none, unmarked_waits}
use Rattle.blob_fs.specs.PlaceMaps.{noted}
use Rattle.blob_fs.proofs.PlaceMaps.{none_more, noted_more}
use Rattle.blob_fs.proofs.places.note_places.Goals as goal

pub loop-entry-init : goal.loop-entry-init
loop-entry-init c = record { none = ap has_marker c.unmarked-entry-items.ensures ∙ unmarked_none (left_in c.args.entries.now); so_far = λ number. refl }

pub loop-entry-preserved : goal.loop-entry-preserved
loop-entry-preserved c =
    let q = c.unmarked-entry-items.result.now in
    let none = none_more q c.loop-entry.entry-index c.entry-item.result (omega arith) c.loop-entry.invariant.none in
    record {
      none = none;
      so_far = λ number.
          noted_more c.args.inode q c.loop-entry.entry-index c.entry-item.result number _ _ (omega arith) c.entry-item.is none (c.in_ok-note_place.ensures number)
          ∙ c.loop-entry.invariant.so_far number;
    }

pub returns : goal.returns
returns c = λ number.
    let q = c.unmarked-entry-items.result.now in
    let found = get nat_cmp c.loop-entry.places number in
    let same : waiting (left_in q) ≡ waiting (left_in c.args.entries.now) = ap waiting c.unmarked-entry-items.ensures ∙ unmarked_waits (left_in c.args.entries.now) in
    sym (at_drop_all (λ (l : List Entry). noted c.args.inode (waiting (left_in l)) number found) q c.loop-entry.entry-index (omega arith))
    ∙ c.loop-entry.invariant.so_far number
    ∙ ap (λ (ws : List Need). noted c.args.inode ws number (get nat_cmp c.args.places.now number)) same
