use Rattle.std.proofs.Common.{◌≡◌, ◌+◌, ◌∙◌, ap, arith, length, take, drop}
use Rattle.blob_pages.proofs.Paged.{append_more}
use Rattle.blob_pages.proofs.bytes.Bytes.append_to.Goals as goal

pub loop-done-preserved : goal.loop-done-preserved
loop-done-preserved c =
    let d = c.loop-done.done in
    let y = c.part-part.result.now in
    let all = c.args.self.now.items in
    let from : d ≡ 0 + d = omega arith in
    record {
      within = omega (arith, c.part-part.ensures.within);
      bytes = append_more c.reserve.new.self.items c.loop-done.out.items c.extend_from_slice.new.self.items y all 0 d (length y)
          c.loop-done.invariant.bytes (c.part-part.ensures.part ∙ ap (λ k. take (length y) (drop k all)) from) c.in_ok-extend_from_slice.ensures.items;
    }
