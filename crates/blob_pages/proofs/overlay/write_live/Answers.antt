use Rattle.std.proofs.Common.{◌≡◌, ◌∙◌, [], ap, sym, length, max, true, arith}
use Rattle.std.proofs.lemmas.List.{take_all}
use Rattle.blob_model.proofs.Bytes.{length-overlay_by, length-resized}
use Rattle.blob_model.specs.Bytes.{overlay, resize, write_live}
use Rattle.blob_overlay.proofs.Overlays.{overlay_none}
use Rattle.blob_pages.proofs.Pieces.{flat, flat_within, length-flat_more, live_more}
use Rattle.blob_pages.proofs.overlay.write_live.Goals as goal

pub loop-piece-init : goal.loop-piece-init
loop-piece-init c =
    let x = c.args.bytes.now.items in
    let n = max (length x) c.args.offset in
    record {
      all = c.pieces-piece-items.ensures;
      at = omega arith;
      from = omega (arith, ap length c.write_live_slice.ensures.items, length-overlay_by (resize x n) c.args.offset [] (λ _. true), length-resized x n);
      laid = sym (overlay_none c.write_live_slice.new.bytes.items c.args.offset _);
      capacity = omega arith;
    }

pub write_live_slice-requires-in-loop-piece-clause-fits : goal.write_live_slice-requires-in-loop-piece-clause-fits
write_live_slice-requires-in-loop-piece-clause-fits c = omega (
  arith,
  c.requires.fits,
  c.loop-piece.invariant.at,
  ap length c.loop-piece.invariant.all,
  ap length c.deref.ensures.value,
  flat_within c.pieces-piece-items.result.now c.loop-piece.piece-index c.piece-item.result (omega arith) c.piece-item.is,
)

pub write_live_slice-requires-in-loop-piece-clause-room : goal.write_live_slice-requires-in-loop-piece-clause-room
write_live_slice-requires-in-loop-piece-clause-room c = omega (
  arith,
  c.requires.room,
  c.write_live_slice.ensures.capacity,
  c.loop-piece.invariant.capacity,
  c.loop-piece.invariant.at,
  ap length c.loop-piece.invariant.all,
  ap length c.deref.ensures.value,
  flat_within c.pieces-piece-items.result.now c.loop-piece.piece-index c.piece-item.result (omega arith) c.piece-item.is,
)

pub overflow_add-at : goal.overflow_add-at
overflow_add-at c =
    let n : c.len-at.result ≡ length c.piece-item.result.items = omega arith in
    omega (arith, n, c.requires.fits, c.loop-piece.invariant.at, ap length c.loop-piece.invariant.all, flat_within c.pieces-piece-items.result.now c.loop-piece.piece-index c.piece-item.result (omega arith) c.piece-item.is)

pub loop-piece-preserved : goal.loop-piece-preserved
loop-piece-preserved c =
    let n : c.len-at.result ≡ length c.piece-item.result.items = omega arith in
    record {
      all = c.loop-piece.invariant.all;
      at = omega (arith, n, c.loop-piece.invariant.at, length-flat_more c.pieces-piece-items.result.now c.loop-piece.piece-index c.piece-item.result (omega arith) c.piece-item.is);
      from = c.loop-piece.invariant.from;
      laid = live_more c.pieces-piece-items.result.now c.loop-piece.piece-index c.piece-item.result (omega arith) c.piece-item.is c.write_live_slice.new.bytes.items c.loop-piece.bytes.items _ c.args.offset c.loop-piece.at c.loop-piece.invariant.from c.loop-piece.invariant.at c.loop-piece.invariant.laid
          (c.write_live_slice-in-loop-piece.ensures.items ∙ ap (write_live c.loop-piece.bytes.items c.loop-piece.at) c.deref.ensures.value);
      capacity = omega (arith, c.loop-piece.invariant.capacity, c.write_live_slice-in-loop-piece.ensures.capacity);
    }

pub returns : goal.returns
returns c =
    let x = c.args.bytes.now.items in
    let grown : c.write_live_slice.new.bytes.items ≡ resize x (max (length x) c.args.offset) = c.write_live_slice.ensures.items ∙ overlay_none _ c.args.offset _ in
    let base = c.write_live_slice.new.bytes.items in
    let all = take_all c.loop-piece.piece-index c.pieces-piece-items.result.now (omega arith) in
    let laid : c.loop-piece.bytes.items ≡ overlay base c.args.offset c.args.run.now = c.loop-piece.invariant.laid ∙ ap (λ ps. overlay base c.args.offset (flat ps)) all ∙ ap (overlay base c.args.offset) c.loop-piece.invariant.all in
    record {
      items = laid ∙ ap (λ l. overlay l c.args.offset c.args.run.now) grown;
      capacity = omega (arith, c.write_live_slice.ensures.capacity, c.loop-piece.invariant.capacity);
    }
