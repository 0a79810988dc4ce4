use Rattle.std.proofs.Common.{rules, ◌≡◌, ◌≤◌, ◌∙◌, ap, sym, ℕ, true, length, vec_len, vec_capacity, max, arith}
use Rattle.blob_model.proofs.Agrees.{overlay_same}
use Rattle.blob_model.specs.Bytes.{overlay_by, resize}
use Rattle.blob_model.specs.Runs.{is_chosen}
use Rattle.blob_overlay.proofs.Overlays.{resized_to, grown_none, lay_padded, live_some, written_back}
use Rattle.blob_overlay.proofs.overlay.lay_chosen.Goals as goal
use Rattle.blob_overlay.proofs.overlay.lay_chosen.Goals.{then-len-end, else-len-end}

pub returns-then-end_of_run-keep : goal.returns-then-end_of_run-keep
returns-then-end_of_run-keep c =
    let old = c.args.bytes.now.items in
    let run = c.args.run.now in
    let all : c.end_of_run.result ≡ length c.args.keep.now = omega arith in record {
      items = c.write_live.ensures.items ∙ live_some old c.args.offset run (omega (arith, c.requires.same, c.end_of_run.ensures.some))
          ∙ overlay_same old c.args.offset run (λ _. true) (is_chosen c.args.keep.now)
          (λ i h. sym (c.end_of_run.ensures.selected i (omega arith) (omega (arith, c.requires.same, all, h))));
      capacity = c.write_live.ensures.capacity;
    }

pub returns : goal.returns
returns c =
    let old = c.args.bytes.now in
    let keep = c.args.keep.now in
    let far : ℕ = max (length old.items) c.args.end in
    let grown = c.if-len-end.bytes.items in
    let same : vec_len old ≡ length old.items = omega arith in
    let is : grown ≡ resize old.items far = elim c.if-len-end.branch [
      | then-len-end w ↦ ap (λ v. v.items) w.bytes-is ∙ resized_to old.items w.resize.new.self.items c.args.end (vec_len old) same (search rules) ∙ ap (resize old.items) (omega arith)
      | else-len-end w ↦ ap (λ v. v.items) w.bytes-is ∙ grown_none _ _ (omega arith)
    ] in
    let kept : vec_capacity old ≤ vec_capacity c.if-len-end.bytes = elim c.if-len-end.branch [
      | then-len-end w ↦ rw w.bytes-is (search rules)
      | else-len-end w ↦ rw w.bytes-is (omega arith)
    ] in
    let copied : c.copy_some.new.bytes ≡ overlay_by grown c.args.offset c.args.run.now (is_chosen keep) =
    c.copy_some.ensures ∙ ap (λ x. overlay_by x c.args.offset c.args.run.now (is_chosen keep)) c.as_mut_slice.ensures.value in
    let len : length c.copy_some.new.bytes ≡ length grown = omega (arith, c.copy_some.auto.bytes, ap length c.as_mut_slice.ensures.value) in record {
      items = written_back grown c.copy_some.new.bytes _ (omega arith) len
          ∙ lay_padded old.items grown c.copy_some.new.bytes c.args.offset c.args.run.now (is_chosen keep) c.args.end c.requires.end is copied;
      capacity = kept;
    }
