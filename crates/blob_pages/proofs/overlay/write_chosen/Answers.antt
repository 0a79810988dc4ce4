use Rattle.std.proofs.Common.{rules, ◌≡◌, ◌+◌, ◌∙◌, ap, sym, length, arith}
use Rattle.std.specs.List.{flat_map, slice_range}
use Rattle.blob_model.specs.Bytes.{overlay_by, reach}
use Rattle.blob_model.specs.Runs.{is_chosen}
use Rattle.blob_overlay.proofs.Overlays.{overlay_none}
use Rattle.blob_pages.proofs.Pieces.{flat_within, length-flat_more, chosen_below, chosen_more}
use Rattle.blob_pages.proofs.overlay.write_chosen.Goals as goal

pub loop-piece-init : goal.loop-piece-init
loop-piece-init c =
    let far = ap (λ n. reach c.args.offset n (is_chosen c.args.keep.now)) c.requires.same in
    record {
      all = c.pieces-piece-items.ensures;
      done = omega arith;
      laid = sym (overlay_none c.make_room.new.bytes.items c.args.offset _);
      room = omega (arith, far, c.reach_of.ensures, c.in_ok-make_room.ensures.room);
      capacity = omega arith;
    }

pub overflow_add-end : goal.overflow_add-end
overflow_add-end c =
    let n : c.len.result ≡ length c.piece-item.result.items = omega arith in
    omega (arith, n, c.requires.fits, c.loop-piece.invariant.done, ap length c.loop-piece.invariant.all, flat_within c.pieces-piece-items.result.now c.loop-piece.piece-index c.piece-item.result (omega arith) c.piece-item.is)

pub slice_bounds-part-end : goal.slice_bounds-part-end
slice_bounds-part-end c =
    let n : c.len.result ≡ length c.piece-item.result.items = omega arith in
    omega (arith, n, c.requires.same, c.loop-piece.invariant.done, ap length c.loop-piece.invariant.all, flat_within c.pieces-piece-items.result.now c.loop-piece.piece-index c.piece-item.result (omega arith) c.piece-item.is)

pub overflow_add-offset : goal.overflow_add-offset
overflow_add-offset c =
    omega (arith, c.requires.fits, c.loop-piece.invariant.done, ap length c.loop-piece.invariant.all, flat_within c.pieces-piece-items.result.now c.loop-piece.piece-index c.piece-item.result (omega arith) c.piece-item.is)

pub write_chosen_slice-requires-clause-fits : goal.write_chosen_slice-requires-clause-fits
write_chosen_slice-requires-clause-fits c =
    omega (arith, c.requires.fits, ap length c.deref.ensures.value, c.loop-piece.invariant.done, ap length c.loop-piece.invariant.all, flat_within c.pieces-piece-items.result.now c.loop-piece.piece-index c.piece-item.result (omega arith) c.piece-item.is)

pub unwrap-requires : goal.unwrap-requires
unwrap-requires c =
    let keep = c.args.keep.now in
    let n : c.len.result ≡ length c.piece-item.result.items = omega arith in
    let end = c.loop-piece.done + c.len.result in
    let all : reach c.args.offset (length (flat_map (λ p. p.items) c.pieces-piece-items.result.now)) (is_chosen keep) ≡ reach c.args.offset (length c.args.run.now) (is_chosen keep) = ap (λ r. reach c.args.offset (length r) (is_chosen keep)) c.loop-piece.invariant.all in
    let size = ap (λ r. reach (c.args.offset + c.loop-piece.done) (length r) (is_chosen (slice_range keep c.loop-piece.done end))) c.deref.ensures.value in
    c.write_chosen_slice.ensures.succeeds (omega (
      arith,
      all,
      size,
      c.loop-piece.invariant.room,
      chosen_below c.pieces-piece-items.result.now c.loop-piece.piece-index c.piece-item.result (omega arith) c.piece-item.is c.args.offset c.loop-piece.done end keep c.loop-piece.invariant.done (omega (arith, n)),
    ))

pub loop-piece-preserved : goal.loop-piece-preserved
loop-piece-preserved c =
    let n : c.len.result ≡ length c.piece-item.result.items = omega arith in
    let part = is_chosen (slice_range c.args.keep.now c.loop-piece.done (c.loop-piece.done + c.len.result)) in
    let laid : c.write_chosen_slice.new.bytes.items ≡ overlay_by c.loop-piece.bytes.items (c.args.offset + c.loop-piece.done) c.deref.result.now part = search rules in
    record {
      all = c.loop-piece.invariant.all;
      done = omega (arith, n, c.loop-piece.invariant.done, length-flat_more c.pieces-piece-items.result.now c.loop-piece.piece-index c.piece-item.result (omega arith) c.piece-item.is);
      laid = chosen_more c.pieces-piece-items.result.now c.loop-piece.piece-index c.piece-item.result (omega arith) c.piece-item.is c.make_room.new.bytes.items c.loop-piece.bytes.items _ c.args.offset c.loop-piece.done (c.loop-piece.done + c.len.result) c.args.keep.now
          c.loop-piece.invariant.done (omega (arith, n)) c.loop-piece.invariant.laid
          (laid ∙ ap (λ b. overlay_by c.loop-piece.bytes.items (c.args.offset + c.loop-piece.done) b part) c.deref.ensures.value);
      room = omega (arith, c.loop-piece.invariant.room, c.write_chosen_slice.ensures.capacity);
      capacity = omega (arith, c.loop-piece.invariant.capacity, c.write_chosen_slice.ensures.capacity);
    }
