use Rattle.std.proofs.Common.{rules, ◌≡◌, ◌∙◌, ◌+◌, ◌++◌, ◌∷◌, [], ap, sym, subst, arith, List, take, get_or, true, false, true≢false}
use Rattle.std.proofs.lemmas.List.{take_more}
use Rattle.blob_pending.specs.declared.incarnation.Incarnation.{Incarnation}
use Rattle.blob_pending.specs.Numbers.{AreIndexed}
use Rattle.blob_pending.proofs.Numbering.{indexed_push, not_false}
use Rattle.blob_pending.proofs.partition.index_all.Goals as goal
use Rattle.blob_pending.proofs.partition.index_all.Goals.{then-searched, else-searched}

pub loop-list-preserved : goal.loop-list-preserved
loop-list-preserved g c =
    let place = g.S.Durable.place in
    let is = c.args.lists.now in
    let k = c.loop-list.list-index in
    let x = c.list-item.result in
    let at : x ≡ get_or is k x = search rules in
    let more : take (k + 1) is ≡ take k is ++ x ∷ [] = take_more is k x (omega arith) ∙ ap (λ (y : Incarnation g.row.S-Origin.Denot). take k is ++ y ∷ []) (sym at) in
    let only : c.if-searched.searched ≡ false → (c.loop-list.searched ≡ false) × (c.insert_new-added.result ≡ true) = elim c.if-searched.branch [
      | then-searched w ↦ λ f. absurd (true≢false (sym w.if-searched.true ∙ sym w.searched-is ∙ f))
      | else-searched w ↦ λ f. (w.if-searched.false, not_false c.insert_new-added.result (sym w.searched-is ∙ f))
    ] in
    subst (λ (js : List (Incarnation g.row.S-Origin.Denot)). AreIndexed place js c.insert_new-added.new.numbers.keys c.if-searched.searched) (sym more)
    (indexed_push place (take k is) x c.loop-list.numbers.keys c.insert_new-added.new.numbers.keys c.loop-list.searched c.insert_new-added.result c.if-searched.searched c.number_of-number.result c.number_of-number.ensures
    c.insert_new-added.ensures.added c.insert_new-added.ensures.distinct only c.loop-list.invariant)
