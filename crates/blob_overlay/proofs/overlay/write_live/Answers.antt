use Rattle.std.proofs.Common.{rules, ◌≡◌, ◌⊎◌, ◌+◌, ◌-◌, ◌≤◌, ◌<◌, ◌++◌, ◌∙◌, ap, ap₂, sym, inl, inr, ⊎_elim, ℕ, List, true, take, drop, length, length-take, length-drop, vec_len, vec_capacity, max, arith}
use Rattle.std.proofs.lemmas.Bool.{cases_lt, cond-true}
use Rattle.std.proofs.lemmas.List.{take_all}
use Rattle.std.specs.Result.{is_ok}
use Rattle.blob_model.specs.Bytes.{overlay, resize}
use Rattle.blob_model.proofs.Bytes.{length-resized}
use Rattle.blob_overlay.proofs.Overlays.{extended, grown_none, pasted_back, resized_to}
use Rattle.blob_overlay.proofs.overlay.write_live.Goals as goal
use Rattle.blob_overlay.proofs.overlay.write_live.Goals.{then-len-offset, else-len-offset}

pub returns : goal.returns
returns c =
    let old = c.args.bytes.now in
    let run = c.args.run.now in
    let offset = c.args.offset in
    let t : ℕ = c.min-there.result in
    let far : ℕ = max (length old.items) offset in
    let same : vec_len old ≡ length old.items = omega arith in
    let grown : c.if-len-offset.bytes.items ≡ resize old.items far = elim c.if-len-offset.branch [
      | then-len-offset w ↦ ap (λ v. v.items) w.bytes-is ∙ resized_to old.items w.resize.new.self.items offset (vec_len old) same (search rules) ∙ ap (resize old.items) (omega arith)
      | else-len-offset w ↦ ap (λ v. v.items) w.bytes-is ∙ grown_none _ _ (omega arith)
    ] in
    let kept : vec_capacity old ≤ vec_capacity c.if-len-offset.bytes = elim c.if-len-offset.branch [
      | then-len-offset w ↦ rw w.bytes-is (search rules)
      | else-len-offset w ↦ rw w.bytes-is (omega arith)
    ] in
    let x = c.deref_mut-2.result.now in
    let y = c.if-len-offset.bytes.items in
    let value : x ≡ y = c.deref_mut-2.ensures.value in
    let piece : List ℕ = take t run in
    let count : length piece ≡ t = omega (arith, length-take t run) in
    let there : offset ≤ length y = omega (arith, ap length grown, length-resized old.items far) in
    let cases : (t ≡ length run) ⊎ ((t ≡ length y - offset) × (t < length run)) = ⊎_elim (λ l. inr (omega arith, omega arith)) (λ g. inl (omega arith)) (cases_lt t (length run)) in
    let is_ok_it : is_ok c.extend_from_slice.result ≡ true = ap is_ok c.unwrap-2.ensures in
    record {
      items = c.extend_from_slice.ensures.items ∙ cond-true (is_ok c.extend_from_slice.result) _ _ is_ok_it
          ∙ ap₂ (λ (a b : List ℕ). a ++ b)
          (pasted_back x _ _ _ offset _ piece (sym value) (omega (arith, ap length value)) (omega (arith, count)) (omega (arith, count, ap length value, there))
          (ap (λ (b : List ℕ). take offset x ++ (b ++ drop (offset + t - offset) (drop offset x))) c.copy_from_slice-2.ensures.after))
          (take_all (length run - t) (drop t run) (omega (arith, length-drop t run)))
          ∙ ap (λ (z : List ℕ). overlay z offset piece ++ drop t run) value
          ∙ extended y offset t run there cases
          ∙ ap (λ (z : List ℕ). overlay z offset run) grown;
      capacity = omega (arith, kept, c.extend_from_slice.ensures.capacity);
    }

pub returns-then-offset-run : goal.returns-then-offset-run
returns-then-offset-run c =
    let old = c.args.bytes.now in
    let run = c.args.run.now in
    let offset = c.args.offset in
    let x = c.deref_mut.result.now in
    let value : x ≡ old.items = c.deref_mut.ensures.value in
    let k : ℕ = offset + length run - offset in
    record {
      items = pasted_back x _ _ _ offset k run (sym value) (omega (arith, ap length value)) (omega arith) (omega (arith, ap length value))
          (ap (λ (b : List ℕ). take offset x ++ (b ++ drop k (drop offset x))) c.copy_from_slice.ensures.after)
          ∙ ap (λ (z : List ℕ). overlay z offset run) (value ∙ grown_none old.items offset (omega arith));
      capacity = omega arith;
    }
