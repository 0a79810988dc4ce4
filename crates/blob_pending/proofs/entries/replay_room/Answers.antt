use Rattle.std.proofs.Common.{rules, ◌≡◌, ◌∙◌, ◌∷◌, [], List, max, refl, ap, arith}
use Rattle.std.proofs.lemmas.Grind.{common_steps}
use Rattle.std.proofs.lemmas.List.{at_drop_all}
use Rattle.blob_model.specs.Pending.{end_of, ends}
use Rattle.blob_pending.specs.Replays.{most_zeros, width, widest, zeros_for}
use Rattle.blob_pending.specs.Views.{left_in}
use Rattle.blob_pending.specs.declared.entry.Entry.{Entry}
use Rattle.blob_pending.proofs.Left.{greatest_more, greatest}
use Rattle.blob_pending.proofs.entries.replay_room.Goals as goal
use Rattle.blob_pending.proofs.entries.replay_room.Goals.{in-Write, in-Write+else-not-is_covered, in-Resize, in-Range, in-Marker-1, in-Dropped-1}

pub loop-entry-preserved : goal.loop-entry-preserved
loop-entry-preserved c =
    let q = c.args.entries.now in
    let i = c.loop-entry.entry-index in
    let x = c.entry-item.result in
    let end : c.match-entry.end ≡ max c.loop-entry.end (ends (left_in (x ∷ []))) = elim c.match-entry.branch [
      | in-Write w ↦ rw w.end-is (first_of (search rules, grind (arith, common_steps)))
      | in-Write+else-not-is_covered w ↦ rw w.end-is (first_of (search rules, grind (arith, common_steps)))
      | in-Resize w ↦ rw w.end-is (first_of (search rules, grind (arith, common_steps)))
      | in-Range w ↦ rw w.end-is (first_of (search rules, grind (arith, common_steps)))
      | in-Marker-1 w ↦ rw w.end-is (first_of (search rules, grind (arith, common_steps)))
      | in-Dropped-1 w ↦ rw w.end-is (first_of (search rules, grind (arith, common_steps)))
    ] in
    let choices : c.match-entry.choices ≡ max c.loop-entry.choices (widest (left_in (x ∷ []))) = elim c.match-entry.branch [
      | in-Write w ↦ rw w.choices-is (first_of (search rules, grind (arith, common_steps)))
      | in-Write+else-not-is_covered w ↦ rw w.choices-is (first_of (search rules, grind (arith, common_steps)))
      | in-Resize w ↦ rw w.choices-is (first_of (search rules, grind (arith, common_steps)))
      | in-Range w ↦ rw w.choices-is (first_of (search rules, grind (arith, common_steps)))
      | in-Marker-1 w ↦ rw w.choices-is (first_of (search rules, grind (arith, common_steps)))
      | in-Dropped-1 w ↦ rw w.choices-is (first_of (search rules, grind (arith, common_steps)))
    ] in
    let needed : c.match-entry.zeros ≡ max c.loop-entry.zeros (most_zeros (left_in (x ∷ []))) = elim c.match-entry.branch [
      | in-Write w ↦ rw w.zeros-is (first_of (search rules, grind (arith, common_steps)))
      | in-Write+else-not-is_covered w ↦ rw w.zeros-is (first_of (search rules, grind (arith, common_steps)))
      | in-Resize w ↦ rw w.zeros-is (first_of (search rules, grind (arith, common_steps)))
      | in-Range w ↦ rw w.zeros-is (first_of (search rules, grind (arith, common_steps)))
      | in-Marker-1 w ↦ rw w.zeros-is (first_of (search rules, grind (arith, common_steps)))
      | in-Dropped-1 w ↦ rw w.zeros-is (first_of (search rules, grind (arith, common_steps)))
    ] in
    record {
      end = greatest c.loop-entry.end _ c.match-entry.end _ _ _ (end ∙ ap (λ (y : Entry). max c.loop-entry.end (ends (left_in (y ∷ [])))) c.entry-item.is)
          (greatest_more end_of ends refl (λ e r. refl) q i x (omega arith)) c.loop-entry.invariant.end;
      width = greatest c.loop-entry.choices _ c.match-entry.choices _ _ _ (choices ∙ ap (λ (y : Entry). max c.loop-entry.choices (widest (left_in (y ∷ [])))) c.entry-item.is)
          (greatest_more width widest refl (λ e r. refl) q i x (omega arith)) c.loop-entry.invariant.width;
      zeros = greatest c.loop-entry.zeros _ c.match-entry.zeros _ _ _ (needed ∙ ap (λ (y : Entry). max c.loop-entry.zeros (most_zeros (left_in (y ∷ [])))) c.entry-item.is)
          (greatest_more zeros_for most_zeros refl (λ e r. refl) q i x (omega arith)) c.loop-entry.invariant.zeros;
    }

pub returns-clause-end : goal.returns-clause-end
returns-clause-end c = omega (arith, c.loop-entry.invariant.end, at_drop_all (λ (l : List Entry). ends (left_in l)) c.args.entries.now c.loop-entry.entry-index (omega arith))

pub returns-clause-width : goal.returns-clause-width
returns-clause-width c = omega (arith, c.loop-entry.invariant.width, at_drop_all (λ (l : List Entry). widest (left_in l)) c.args.entries.now c.loop-entry.entry-index (omega arith))

pub returns-clause-zeros : goal.returns-clause-zeros
returns-clause-zeros c = omega (arith, c.loop-entry.invariant.zeros, at_drop_all (λ (l : List Entry). most_zeros (left_in l)) c.args.entries.now c.loop-entry.entry-index (omega arith))
