use Rattle.std.proofs.Common.{rules, ◌≡◌, ◌∙◌, ◌≤◌, ◌++◌, ◌+◌, ◌-◌, ℕ, List, length, length-take, length-drop, arith, ap, take, drop}
use Rattle.blob_model.proofs.Bytes.{length-overlay_by, above_chosen}
use Rattle.blob_model.specs.Bytes.{overlay}
use Rattle.blob_model.specs.Runs.{is_chosen}
use Rattle.blob_overlay.proofs.Overlays.{first, lay_end, lay_gap, lay_none, lay_run, pasted}
use Rattle.blob_overlay.proofs.overlay.copy_some.Goals as goal

pub loop-i-init : goal.loop-i-init
loop-i-init c =
    let old = c.args.bytes.now in
    let keep = is_chosen c.args.keep.now in record {
      within = c.end_of_gap-i.ensures.within;
      stops = c.end_of_gap-i.ensures.stops;
      room = c.requires.inside;
      laid = lay_none old c.args.offset c.args.run.now keep ∙ lay_gap old c.args.offset c.args.run.now keep 0 _ (omega arith) c.end_of_gap-i.ensures.others;
    }

pub end_of_run-end-requires-clause-first : goal.end_of_run-end-requires-clause-first
end_of_run-end-requires-clause-first c = c.loop-i.invariant.stops (omega arith)

pub slice_bounds-copy_from_slice-end : goal.slice_bounds-copy_from_slice-end
slice_bounds-copy_from_slice-end c =
    let keep = is_chosen c.args.keep.now in
    let last : ℕ = c.end_of_run-end.result - 1 in
    omega (
      arith,
      c.loop-i.invariant.room,
      ap length c.loop-i.invariant.laid,
      length-overlay_by c.args.bytes.now c.args.offset c.args.run.now (first c.loop-i.i keep),
      above_chosen c.args.offset (length c.args.run.now) keep last (omega arith) (c.end_of_run-end.ensures.selected last (omega arith) (omega arith)),
    )

pub loop-i-preserved : goal.loop-i-preserved
loop-i-preserved c =
    let old = c.args.bytes.now in
    let run = c.args.run.now in
    let keep = is_chosen c.args.keep.now in
    let offset = c.args.offset in
    let y = c.loop-i.bytes in
    let i = c.loop-i.i in
    let end = c.end_of_run-end.result in
    let last : ℕ = end - 1 in
    let piece : List ℕ = take (end - i) (drop i run) in
    let count : length piece ≡ end - i = omega (arith, length-take (end - i) (drop i run), length-drop i run) in
    let inside : offset + i + length piece ≤ length y = omega (
      arith,
      count,
      c.loop-i.invariant.room,
      ap length c.loop-i.invariant.laid,
      length-overlay_by old offset run (first i keep),
      above_chosen offset (length run) keep last (omega arith) (c.end_of_run-end.ensures.selected last (omega arith) (omega arith)),
    ) in
    let copied : c.copy_from_slice.new.self ≡ piece = search rules in
    record {
      within = c.end_of_gap-i-in-loop-i.ensures.within;
      stops = c.end_of_gap-i-in-loop-i.ensures.stops;
      room = c.loop-i.invariant.room;
      laid = ap (λ (b : List ℕ). take (offset + i) y ++ (b ++ drop (offset + end - (offset + i)) (drop (offset + i) y))) copied
          ∙ pasted y (offset + i) (offset + end - (offset + i)) piece (omega (arith, count)) inside
          ∙ ap (λ (x : List ℕ). overlay x (offset + i) piece) c.loop-i.invariant.laid
          ∙ lay_run old offset run keep i end c.end_of_run-end.ensures.some (omega arith) c.loop-i.invariant.room c.end_of_run-end.ensures.selected
          ∙ lay_gap old offset run keep end c.end_of_gap-i-in-loop-i.result c.end_of_gap-i-in-loop-i.ensures.some c.end_of_gap-i-in-loop-i.ensures.others;
    }

pub returns : goal.returns
returns c = c.loop-i.invariant.laid ∙ lay_end c.args.bytes.now c.args.offset c.args.run.now (is_chosen c.args.keep.now) c.loop-i.i (omega (arith, c.loop-i.invariant.within, c.requires.same))
