use Rattle.std.proofs.Common.{◌≡◌, ◌+◌, ◌-◌, ◌≤◌, ◌∙◌, ⊎_elim, sym, ap, arith, length, take, drop, get_or, length-take, length-drop}
use Rattle.std.proofs.lemmas.Bool.{cases_lt}
use Rattle.std.proofs.lemmas.List.{get_or-take, get_or-drop, get_or_past}
use Rattle.blob_model.proofs.Bytes.{same_bytes}
use Rattle.blob_pages.proofs.Paged.{length-spliced, spliced_before, spliced_within}
use Rattle.blob_pages.proofs.bytes.Bytes.read.Goals as goal

pub loop-done-preserved : goal.loop-done-preserved
loop-done-preserved c =
    let x = c.loop-done.out in
    let d = c.loop-done.done in
    let y = c.part-part.result.now in
    let all = c.args.self.now.items in
    let fits : d + length y ≤ length x = omega (arith, c.loop-done.invariant.same, c.part-part.ensures.within) in
    record {
      within = omega (arith, c.part-part.ensures.within);
      same = ap length c.copy_part.ensures ∙ length-spliced x d y fits ∙ c.loop-done.invariant.same;
      read = λ k h. ap (λ l. get_or l k 0) c.copy_part.ensures ∙ ⊎_elim
          (λ low. spliced_before x d y fits k low ∙ c.loop-done.invariant.read k low)
          (λ high. spliced_within x d y fits k high (omega (arith, h))
          ∙ ap (λ l. get_or l (k - d) 0) c.part-part.ensures.part
          ∙ get_or-take (length y) (drop (c.args.at + d) all) (k - d) 0 (omega (arith, h, high))
          ∙ get_or-drop (c.args.at + d) all (k - d) 0
          ∙ ap (λ j. get_or all j 0) (omega (arith, h, high)))
          (cases_lt k d);
    }

pub returns : goal.returns
returns c =
    let x = c.loop-done.out in
    let all = c.args.self.now.items in
    let n = length c.args.out.now in
    let len : length (take n (drop c.args.at all)) ≡ n = omega (arith, c.requires, length-take n (drop c.args.at all), length-drop c.args.at all) in
    same_bytes _ _ (omega (arith, len, c.loop-done.invariant.same)) (λ k. ⊎_elim
    (λ h. c.loop-done.invariant.read k (omega (arith, h, c.loop-done.invariant.same)) ∙ sym (get_or-take n (drop c.args.at all) k 0 (omega (arith, h, c.loop-done.invariant.same)) ∙ get_or-drop c.args.at all k 0))
    (λ h. get_or_past x k 0 h ∙ sym (get_or_past (take n (drop c.args.at all)) k 0 (omega (arith, h, len, c.loop-done.invariant.same))))
    (cases_lt k (length x)))
