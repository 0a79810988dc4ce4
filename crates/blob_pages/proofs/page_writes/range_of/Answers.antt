use Rattle.std.proofs.Common.{rules, ◌≡◌, ◌-◌, ◌++◌, ◌∙◌, ap, min, length, take, drop, vec_len, arith}
use Rattle.blob_model.specs.Bytes.{resize}
use Rattle.blob_model.proofs.Bytes.{length-resized}
use Rattle.blob_overlay.proofs.Overlays.{resized_to}
use Rattle.blob_pages.specs.Values.{bytes}
use Rattle.blob_pages.proofs.Mixed.{range_at}
use Rattle.blob_pages.proofs.page_writes.range_of.Goals as goal

pub returns : goal.returns
returns c =
    let x = bytes c.args.pages.now in
    let o = c.args.offset in
    let n = c.args.end - o in
    let t = c.resize.new.self.items in
    let from = c.min-from.result in
    let count = c.min.result - c.min-from.result in
    let k : vec_len c.append.new.out ≡ length c.append.new.out.items = omega arith in
    let sized : t ≡ resize c.append.new.out.items n = resized_to _ _ _ _ k (search rules) in
    let size : length t ≡ n = ap length sized ∙ length-resized c.append.new.out.items n in
    let ef : from ≡ min o (length x) = omega (arith, c.min-from.ensures, c.len.ensures.len) in
    let ec : count ≡ min c.args.end (length x) - from = omega (arith, c.min.ensures, c.len-2.ensures.len) in
    let ey : c.append.new.out.items ≡ take count (drop from x) = c.append.ensures.bytes ∙ ap (λ l. l ++ take count (drop from x)) c.in_ok-all.ensures.items in
    record {
      len = omega (arith, size, c.requires);
      each = λ i h. range_at x c.append.new.out.items t o c.args.end from count ef ec ey sized i (omega (arith, h, size));
    }
