use Rattle.std.proofs.Common.{rules, ◌≡◌, ◌≤◌, ◌∙◌, ap, sym, length, max, arith}
use Rattle.blob_model.proofs.Bytes.{length-resized}
use Rattle.blob_model.specs.Bytes.{overlay, resize, write_live}
use Rattle.blob_overlay.proofs.Overlays.{grown_none}
use Rattle.blob_pages.specs.Forms.{content, capacity}
use Rattle.blob_pages.specs.Values.{bytes, room}
use Rattle.blob_pages.proofs.form.Form.write_live_pages.Goals as goal
use Rattle.blob_pages.proofs.form.Form.write_live_pages.Goals.{then-len-offset, else-len-offset, in-Paged+else-is_ok, in_default}

pub returns-then-is_ok : goal.returns-then-is_ok
returns-then-is_ok c =
    let x = content c.args.self.now in
    let o = c.args.offset in
    let run = c.args.run.now in
    let grown : content c.if-len-offset.self ≡ resize x (max (length x) o) = elim c.if-len-offset.branch [
      | then-len-offset w ↦ ap content w.self-is ∙ w.set_len_pages.ensures.content ∙ ap (resize x) (omega arith)
      | else-len-offset w ↦ ap content w.self-is ∙ grown_none x o (omega arith)
    ] in
    let kept : capacity c.args.self.now ≤ capacity c.if-len-offset.self = elim c.if-len-offset.branch [
      | then-len-offset w ↦ rw w.self-is w.set_len_pages.ensures.capacity
      | else-len-offset w ↦ rw w.self-is (omega arith)
    ] in
    let laid : bytes c.overlay.new.self ≡ overlay (bytes c.in-Paged.pages.value) o run = search rules in record {
      content = laid ∙ ap (λ l. overlay l o run) (sym (ap content c.in-Paged.is) ∙ grown);
      capacity = omega (arith, kept, ap capacity c.in-Paged.is, ap room c.deref_mut.ensures.value, c.overlay.ensures.room);
    }

pub returns : goal.returns
returns c =
    let x = content c.args.self.now in
    let o = c.args.offset in
    let run = c.args.run.now in
    let n = max (length x) o in
    let grown : content c.if-len-offset.self ≡ resize x n = elim c.if-len-offset.branch [
      | then-len-offset w ↦ ap content w.self-is ∙ w.set_len_pages.ensures.content ∙ ap (resize x) (omega arith)
      | else-len-offset w ↦ ap content w.self-is ∙ grown_none x o (omega arith)
    ] in
    let kept : capacity c.args.self.now ≤ capacity c.if-len-offset.self = elim c.if-len-offset.branch [
      | then-len-offset w ↦ rw w.self-is w.set_len_pages.ensures.capacity
      | else-len-offset w ↦ rw w.self-is (omega arith)
    ] in
    let same : content c.match-self.self ≡ content c.if-len-offset.self = elim c.match-self.branch [
      | in-Paged+else-is_ok w ↦ let undone : bytes w.overlay.new.self ≡ bytes w.in-Paged.pages.value = search rules in ap content w.self-is ∙ undone ∙ sym (ap content w.in-Paged.is)
      | in_default w ↦ ap content w.self-is
    ] in
    let still : capacity c.if-len-offset.self ≤ capacity c.match-self.self = elim c.match-self.branch [
      | in-Paged+else-is_ok w ↦ rw w.self-is (omega (arith, w.overlay.ensures.room, ap room w.deref_mut.ensures.value, ap capacity w.in-Paged.is))
      | in_default w ↦ rw w.self-is (omega arith)
    ] in record {
      content = c.write_live.ensures.items
          ∙ ap (λ l. write_live l o run) (c.flattened-flat.ensures.content ∙ same ∙ grown)
          ∙ ap (λ l. overlay l o run) (sym (grown_none (resize x n) o (omega (arith, length-resized x n))));
      capacity = omega (arith, kept, still, c.flattened-flat.ensures.capacity, c.write_live.ensures.capacity);
    }
