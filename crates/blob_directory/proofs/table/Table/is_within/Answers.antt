use Rattle.std.proofs.Common.{◌≡◌, List, ◌∷◌, Some, ap, subst, sym, ◌∙◌, inl, inr, ⊎_elim}
use Rattle.std.specs.Map.Iter.{deref_pair}
use Rattle.std.proofs.lemmas.Map.Iter.{rest_all, rest_more}
use Rattle.blob_directory.specs.Tables.{bound}
use Rattle.blob_directory.proofs.Ranges.{Among, Cell, among_bound}
use Rattle.blob_directory.proofs.table.Table.is_within.Goals as goal

pub loop-entry-init : goal.loop-entry-init
loop-entry-init c = λ e to h.
    let cells : List Cell = c.into_iter-entry-iterator.result in
    let all : List Cell = c.args.self.now.entries.entries in
    let same : cells ≡ all = c.into_iter-entry-iterator.ensures.into_iter_gives.0 in
    inr (subst (λ (l : List Cell). Among l e (Some to)) (sym same) (among_bound e to c.args.self.now h))

pub loop-entry-preserved : goal.loop-entry-preserved
loop-entry-preserved c =
    let now : List Cell = c.loop-entry.entry-iterator in
    let left : List Cell = c.next.new.self in
    let at : Cell = (c.in-Some.entry.now, c.in-Some.binding.now) in
    let more : now ≡ at ∷ left = rest_more deref_pair now left c.next.result (c.in-Some.entry, c.in-Some.binding) c.in-Some.is c.next.ensures.steps in
    λ e to h. ⊎_elim
    (λ there. inl there)
    (λ among. ⊎_elim
    (λ here. inl (ap (bound c.args.other.now) (sym here.0 ∙ sym c.deref.ensures.value) ∙ sym c.get.ensures ∙ c.are_same.ensures c.if-not-are_same.false ∙ here.1))
    (λ behind. inr behind)
    (subst (λ (l : List Cell). Among l e (Some to)) more among))
    (c.loop-entry.invariant e to h)

pub returns : goal.returns
returns c = λ whole e to h.
    let now : List Cell = c.loop-entry.entry-iterator in
    let left : List Cell = c.next.new.self in
    ⊎_elim
    (λ there. there)
    (λ among. absurd (subst (λ (l : List Cell). Among l e (Some to)) (rest_all deref_pair now left c.next.result c.in-None.is c.next.ensures.steps) among))
    (c.loop-entry.invariant e to h)
