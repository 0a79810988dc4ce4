use Rattle.std.proofs.Common.{◌≡◌, ◌||◌, Bool, List, ap, arith, false, length, refl, subst, sym, ◌∙◌}
use Rattle.std.specs.Prelude.{slice_index_or}
use Rattle.blob_fs.specs.Truncations.{AreMarks, puts_back}
use Rattle.blob_fs.proofs.Truncating.{written_back}
use Rattle.blob_fs.proofs.truncations.put_back.Goals as goal

pub returns : goal.returns
returns c =
    let m = c.mark_later.ensures in
    let before = c.deref_mut.ensures in
    let resized = c.in_ok-resize.ensures in
    let test = puts_back c.args.kept.now c.args.inode c.args.truncation.now in
    let items = c.resize.new.self.items in
    let count : length items ≡ c.args.count = omega (arith, ap (λ l. length l) before.value, before.len, resized.len) in
    let marked : AreMarks c.args.count c.mark_later.new.marks test = record {
      size = m.size ∙ ap (λ l. length l) before.value ∙ count;
      each = λ at low.
          m.each at (omega (arith, low, ap (λ l. length l) before.value, count))
          ∙ ap (λ l. slice_index_or l at false || test at) before.value
          ∙ ap (λ b. b || test at) (resized.by_index.1 at false refl (omega (arith, c.new-marks.ensures.len)) low);
    } in
    subst (λ (l : List Bool). AreMarks c.args.count l test)
    (sym (written_back c.resize.new.self.len c.mark_later.new.marks items (omega (arith, resized.len, count)) (omega (arith, marked.size, count)))) marked
