use Rattle.std.proofs.Common.{◌≤◌, Bool, List, ap, arith, false, length, ℕ, ◌∙◌}
use Rattle.std.specs.Prelude.{slice_index_or}
use Rattle.blob_model.specs.Bytes.{overlay_by, reach, resize}
use Rattle.blob_model.proofs.Agrees.{overlay_same}
use Rattle.blob_model.proofs.Bytes.{reach_below}
use Rattle.blob_fs.specs.Truncations.{puts_back}
use Rattle.blob_fs.proofs.truncations.truncate_by.Goals as goal

pub lay_chosen-requires-clause-room : goal.lay_chosen-requires-clause-room
lay_chosen-requires-clause-room c =
    let marks = c.in_ok-marks.ensures in
    let most : reach 0 (length c.deref.result.now) (λ i. slice_index_or c.deref.result.now i false) ≤ length c.deref.result.now =
    reach_below 0 (length c.deref.result.now) (λ i. slice_index_or c.deref.result.now i false) (length c.deref.result.now) (λ i low chosen. omega (arith, low)) in
    omega (arith, most, marks.size, ap (λ l. length l) c.deref.ensures.value, c.reach_of-end.ensures, c.set_len.ensures.capacity, c.in_ok-reserve.ensures.ok, c.in_ok-reserve.ensures.len, c.saturating_sub.ensures, c.max-most.ensures, c.len.ensures)

pub returns : goal.returns
returns c =
    let marks = c.in_ok-marks.ensures in
    let length' = c.args.truncation.now.length in
    c.lay_chosen.ensures.items
    ∙ overlay_same c.set_len.new.bytes.items 0 c.args.found.now (λ i. slice_index_or c.deref-2.result.now i false) (puts_back c.args.kept.now c.args.inode c.args.truncation.now)
    (λ i low. ap (λ (l : List Bool). slice_index_or l i false) c.deref-2.ensures.value ∙ marks.each i low)
    ∙ ap (λ (l : List ℕ). overlay_by l 0 c.args.found.now (puts_back c.args.kept.now c.args.inode c.args.truncation.now))
    (c.set_len.ensures.items ∙ ap (λ (l : List ℕ). resize l length') c.in_ok-reserve.ensures.items)
