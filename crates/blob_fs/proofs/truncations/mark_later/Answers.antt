use Rattle.std.proofs.Common.{◌≤◌, ap, arith, length, min, nat_le, sym, ◌||◌, ◌&&◌, ◌∙◌}
use Rattle.std.specs.Prelude.{false, slice_index_or}
use Rattle.blob_draws.specs.Rows.{rows_of}
use Rattle.blob_fs.proofs.Truncating.{later_end, later_more, none_passes}
use Rattle.blob_fs.proofs.truncations.mark_later.Goals as goal

pub loop-i-preserved : goal.loop-i-preserved
loop-i-preserved c =
    let t = c.args.truncation.now in
    let rows = rows_of c.args.kept.now.rows in
    let places = c.args.kept.now.places.items in
    let a = ap (λ l. length l) c.rows-rows.ensures in
    let b = ap (λ l. length l) c.as_slice-places.ensures.value in
    record {
      size = c.mark_write.ensures.size ∙ c.loop-i.invariant.size;
      each = λ at low. later_more t.next_write c.args.inode at t.length c.loop-i.i _ rows c.rows-rows.result.now places c.as_slice-places.result.now c.index-rows-i.result c.deref.result.now _ _ _ _
          (omega arith) (omega (arith, a, b)) (omega (arith, a, b)) c.rows-rows.ensures c.as_slice-places.ensures.value c.index-rows-i.is c.deref.ensures.value
          (c.mark_write.ensures.each at (omega (arith, low, c.loop-i.invariant.size))) (c.loop-i.invariant.each at low);
    }

pub returns : goal.returns
returns c =
    let t = c.args.truncation.now in
    let rows = rows_of c.args.kept.now.rows in
    let places = c.args.kept.now.places.items in
    let a = ap (λ l. length l) c.rows-rows.ensures in
    let b = ap (λ l. length l) c.as_slice-places.ensures.value in
    let past : min (length rows) (length places) ≤ c.loop-i.i = omega (arith, a, b) in
    record {
      size = c.loop-i.invariant.size;
      each = λ at low.
          sym (none_passes (slice_index_or c.loop-i.marks at false) (nat_le t.length at))
          ∙ ap (λ b. slice_index_or c.loop-i.marks at false || (nat_le t.length at && b)) (sym (later_end t.next_write c.args.inode at rows places c.loop-i.i past))
          ∙ c.loop-i.invariant.each at low;
    }
