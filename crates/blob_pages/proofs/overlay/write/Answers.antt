use Rattle.std.proofs.Common.{◌∙◌, ap, sym, refl, arith}
use Rattle.blob_model.specs.Bytes.{write_live}
use Rattle.blob_overlay.proofs.Overlays.{live_some, overlay_empty}
use Rattle.blob_pages.proofs.overlay.write.Goals as goal

pub returns-then-len-gt0 : goal.returns-then-len-gt0
returns-then-len-gt0 c = record {
  ok = c.write_live.ensures.items ∙ ap (λ l. write_live l c.args.offset c.args.run.now) c.in_ok-make_room.ensures.bytes.ok ∙ live_some c.args.bytes.now.items c.args.offset c.args.run.now (omega arith);
  err = tt;
  succeeds = λ _. refl;
  capacity = omega (arith, c.make_room.ensures.bytes.capacity, c.write_live.ensures.capacity);
}

pub returns-else-len-gt0 : goal.returns-else-len-gt0
returns-else-len-gt0 c = record {
  ok = c.in_ok-make_room.ensures.bytes.ok ∙ sym (overlay_empty c.args.bytes.now.items c.args.offset c.args.run.now _ (omega arith));
  err = tt;
  succeeds = λ _. refl;
  capacity = c.make_room.ensures.bytes.capacity;
}
