use Rattle.std.proofs.Common.{◌≡◌, ◌+◌, ℕ, Option, false, true, rules, subst, sym, take, ◌∙◌}
use Rattle.blob_directory.specs.Wanted.{IsLast, is_up_to}
use Rattle.blob_directory.proofs.Syncs.{last_new, last_other, last_up}
use Rattle.blob_directory.proofs.wanted.last_of.Goals.{then-touches+then-not-is_up_to, else-touches, else-touches-via-then-touches+else-not-is_up_to, else-touches-via-else-touches}
use Rattle.blob_directory.proofs.wanted.last_of.Goals as goal

pub loop-edit-preserved : goal.loop-edit-preserved
loop-edit-preserved c =
    let edits = c.args.edits.now in
    let alone = c.args.alone in
    let n = c.args.number in
    let k = c.loop-edit.edit-index in
    let item = c.edit-item.result in
    let last = c.loop-edit.last in
    elim c.if-touches.branch [
      | then-touches+then-not-is_up_to w ↦
          let up : is_up_to last item.number ≡ false = search rules in
          subst (λ (l : Option ℕ). IsLast (take (k + 1) edits) alone n l) (sym w.last-is)
          (last_new edits k item c.loop-edit-test.true c.edit-item.is alone n last c.loop-edit.invariant (sym c.touches.ensures ∙ w.if-touches.true) up)
      | else-touches w ↦
          subst (λ (l : Option ℕ). IsLast (take (k + 1) edits) alone n l) (sym w.last-is) (elim w.else-touches.branch [
            | else-touches-via-then-touches+else-not-is_up_to v ↦
                let up : is_up_to last item.number ≡ true = search rules in
                last_up edits k item c.loop-edit-test.true c.edit-item.is alone n last c.loop-edit.invariant up
            | else-touches-via-else-touches v ↦
                last_other edits k item c.loop-edit-test.true c.edit-item.is alone n last c.loop-edit.invariant (sym c.touches.ensures ∙ v.if-touches.false)
          ])
    ]
