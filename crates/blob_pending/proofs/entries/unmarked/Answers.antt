use Rattle.std.proofs.Common.{◌≡◌, ◌∙◌, ◌-◌, ℕ, List, sym, ap, subst, arith, length, drop, false}
use Rattle.std.specs.List.{filter}
use Rattle.std.proofs.lemmas.List.{take_all, length-drop}
use Rattle.blob_model.specs.Pending.{is_marker, has_marker}
use Rattle.blob_pending.specs.declared.entry.Entry.{Entry}
use Rattle.blob_pending.specs.Views.{view, views, is_left, left_in}
use Rattle.blob_pending.proofs.Left.{unmarked_left}
use Rattle.blob_pending.proofs.Unmarked.{unmarked_at, unmarked_all}
use Rattle.blob_pending.proofs.entries.unmarked.Goals as goal

pub returns-in-Marker : goal.returns-in-Marker
returns-in-Marker c =
    ap (λ (q : List Entry). left_in q) (take_all (length c.args.entries.now - c.loop-start.start) (drop c.loop-start.start c.args.entries.now) (omega (arith, length-drop c.loop-start.start c.args.entries.now)))
    ∙ ap (filter is_left) (unmarked_at c.args.entries.now (c.loop-start.start - 1) c.loop-start.start _ (omega arith) (omega arith) (ap (λ (e : Entry). is_marker (view e)) c.in-Marker.is) c.loop-start.invariant.none)
    ∙ sym (unmarked_left (views c.args.entries.now))

pub returns : goal.returns
returns c =
    let none : c.loop-start.start ≡ 0 = omega arith in
    ap (filter is_left) (sym (unmarked_all (views c.args.entries.now) (subst (λ (n : ℕ). has_marker (views (drop n c.args.entries.now)) ≡ false) none c.loop-start.invariant.none)))
    ∙ sym (unmarked_left (views c.args.entries.now))
