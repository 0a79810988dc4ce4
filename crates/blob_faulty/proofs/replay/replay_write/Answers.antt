use Rattle.std.proofs.Common.{rules, ◌≡◌, ◌<◌, ◌+◌, ◌∙◌, ap, ap₂, refl, sym, eqb-true, List, [], ◌∷◌, ℕ, Bool, not, ◌&&◌, false, length, get_or, arith}
use Rattle.blob_model.specs.Bytes.{overlay_by}
use Rattle.blob_model.specs.Draws.{chosen_by}
use Rattle.blob_model.specs.Holes.{in_holes}
use Rattle.blob_model.specs.Log.{Choices}
use Rattle.blob_model.specs.Runs.{is_chosen}
use Rattle.blob_pending.specs.declared.extent.Extent.{Extent}
use Rattle.blob_pending.specs.Ranges.{ranges}
use Rattle.blob_draws.specs.Rows.{rows_in}
use Rattle.blob_pending.specs.Views.{write_of}
use Rattle.blob_faulty.proofs.Replaying.{masked, reach_within, ok_is}
use Rattle.blob_faulty.proofs.replay.replay_write.Goals as goal

no_items : {T : Type 0} (l : List T) → length l ≡ 0 → l ≡ []
no_items [] e = refl
no_items (x ∷ l) e = absurd (omega (arith, e))

pub unwrap-requires-2 : goal.unwrap-requires-2
unwrap-requires-2 c =
    let w = c.args.write.now in
    let run : c.as_slice-run.result.now ≡ w.bytes = c.as_slice-run.ensures in
    c.write_chosen_slice-2.ensures.succeeds (omega (arith, c.requires.room.room, ap length run, reach_within w.offset (length c.as_slice-run.result.now) (is_chosen c.deref.result.now)))

pub returns-clause-bytes : goal.returns-clause-bytes
returns-clause-bytes c =
    let w = c.args.write.now in
    let t : Choices = chosen_by (rows_in c.args.rows.now) in
    let run : c.as_slice-run.result.now ≡ w.bytes = c.as_slice-run.ensures in
    let kept : c.deref.result.now ≡ c.put_choices.new.chosen.items = search rules in
    let each : (i : ℕ) → i < length w.bytes → get_or c.put_choices.new.chosen.items i false ≡ (not (in_holes (ranges w.holes.items) (w.offset + i)) && t w.number i) =
    λ i l. c.put_choices.ensures.each i l ∙ ap (λ (r : List Bool). not (in_holes (ranges w.holes.items) (w.offset + i)) && get_or r i false) c.choices_in-row.ensures in
    let x = c.args.bytes.now.items in record {
      items = ok_is _ _ c.unwrap-2.ensures c.write_chosen_slice-2.ensures.ok
          ∙ ap₂ (λ (b : List ℕ) (k : List Bool). overlay_by x w.offset b (is_chosen k)) run kept ∙ masked (write_of w) (ranges w.holes.items) t c.put_choices.new.chosen.items x each;
      capacity = c.write_chosen_slice-2.ensures.capacity;
    }

pub unwrap-requires : goal.unwrap-requires
unwrap-requires c =
    let w = c.args.write.now in
    let run : c.as_slice-run.result.now ≡ w.bytes = c.as_slice-run.ensures in
    c.write_chosen_slice.ensures.succeeds (omega (arith, c.requires.room.room, ap length run, reach_within w.offset (length c.as_slice-run.result.now) (is_chosen c.choices_in-row.result.now)))

pub returns-then-row-run-clause-bytes : goal.returns-then-row-run-clause-bytes
returns-then-row-run-clause-bytes c =
    let w = c.args.write.now in
    let t : Choices = chosen_by (rows_in c.args.rows.now) in
    let row = c.choices_in-row.result.now in
    let run : c.as_slice-run.result.now ≡ w.bytes = c.as_slice-run.ensures in
    let none : w.holes.items ≡ [] = no_items w.holes.items (omega (arith, eqb-true _ _ (sym c.is_empty.ensures ∙ c.if-is_empty.true))) in
    let each : (i : ℕ) → i < length w.bytes → get_or row i false ≡ (not (in_holes (ranges w.holes.items) (w.offset + i)) && t w.number i) =
    λ i l. ap (λ (r : List Bool). get_or r i false) c.choices_in-row.ensures ∙ ap (λ (hs : List Extent). not (in_holes (ranges hs) (w.offset + i)) && t w.number i) (sym none) in
    let x = c.args.bytes.now.items in record {
      items = ok_is _ _ c.unwrap.ensures c.write_chosen_slice.ensures.ok
          ∙ ap (λ (b : List ℕ). overlay_by x w.offset b (is_chosen row)) run ∙ masked (write_of w) (ranges w.holes.items) t row x each;
      capacity = c.write_chosen_slice.ensures.capacity;
    }
