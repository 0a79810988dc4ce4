use Rattle.std.proofs.Common.{◌≡◌, ◌∙◌, ap, sym, ⊎_elim, ◌+◌, ◌-◌, ◌≤◌, ◌++◌, length, get_or, drop, arith, length-append, length-drop}
use Rattle.std.proofs.lemmas.Bool.{cases_lt}
use Rattle.std.proofs.lemmas.List.{get_or_past, get_or-take, get_or-drop, get_or-replicate, get_or_append_left, get_or-append_right}
use Rattle.blob_pages.specs.Values.{bytes}
use Rattle.blob_pages.proofs.page_writes.copy_range.Goals as goal

pub returns-clause-range : goal.returns-clause-range
returns-clause-range c = λ _.
    let x = bytes c.args.pages.now in
    let o = c.args.offset in
    let zeros = c.args.range.now in
    let part = c.part-part.result.now in
    let from = c.min-from.result in
    let count = c.min.result - from in
    let y = c.copy_from_slice.new.self in
    let whole : length part ≡ count = omega (arith, c.if-part-there.false, c.part-part.ensures.within) in
    let there : from ≡ o = omega (arith, c.min-from.ensures, c.min.ensures, c.len.ensures.len, c.len-2.ensures.len, c.if-there-eq0.false) in
    let size : length y ≡ count = ap length c.copy_from_slice.ensures.after ∙ whole in
    let fits : count ≤ length zeros = omega (arith, c.min.ensures, there) in
    let all : length (y ++ drop count zeros) ≡ length zeros = omega (arith, length-append y (drop count zeros), size, length-drop count zeros, fits) in
    record {
      len = omega (arith, all);
      each = λ i h. ⊎_elim
          (λ lt. get_or_append_left y (drop count zeros) 0 i (omega (arith, lt, size)) ∙ ap (λ l. get_or l i 0) (c.copy_from_slice.ensures.after ∙ c.part-part.ensures.part)
          ∙ get_or-take (length part) (drop from x) i 0 (omega (arith, lt, whole)) ∙ get_or-drop from x i 0 ∙ ap (λ k. get_or x (k + i) 0) there)
          (λ ge. get_or-append_right y (drop count zeros) count i 0 size ge ∙ get_or-drop count zeros (i - count) 0
          ∙ ap (λ l. get_or l (count + (i - count)) 0) c.requires.zeros ∙ get_or-replicate (length zeros) (count + (i - count)) 0 0 (omega (arith, h, ge, all))
          ∙ sym (get_or_past x (o + i) 0 (omega (arith, h, ge, all, there, c.min.ensures, c.len-2.ensures.len))))
          (cases_lt i count);
    }
