use Rattle.std.proofs.Common.{◌≡◌, List, ℕ, ◌∷◌, ◌++◌, Option, Some, None, is_some, true, false, ap, subst, sym, refl, ◌∙◌, ⊎_elim}
use Rattle.std.specs.Int.{w64, to_be_bytes}
use Rattle.std.specs.Map.Iter.{deref_pair}
use Rattle.std.proofs.lemmas.Map.Iter.{rest_all, rest_more}
use Rattle.blob_directory.specs.declared.edit.Binding.{Binding}
use Rattle.blob_directory.specs.Tables.{bound}
use Rattle.blob_directory.proofs.Ranges.{Among, Cell, among_bound, none_behind, not_prefixed, range_of, rest_ascends, rest_begins}
use Rattle.blob_directory.proofs.table.Table.is_empty.Goals as goal

pub loop-entry-init : goal.loop-entry-init
loop-entry-init c =
    let table = c.args.self.now in
    let start : List ℕ = to_be_bytes w64 c.args.directory in
    let cells : List Cell = c.into_iter-entry-iterator.result in
    let range = range_of start c.in_ok-from_slice.field-0 table.entries.entries cells (c.in_ok-from_slice.ensures.items ∙ c.to_be_bytes-start.ensures)
    (c.into_iter-entry-iterator.ensures.into_iter_gives ∙ c.range-entry-items.ensures.between tt) c.range-entry-items.ensures.ordered in
    record {
      ascends = range.ascends;
      begins = range.begins;
      all = λ name to h. range.all name (Some to) (among_bound (start ++ name) to table h);
    }

pub loop-entry-preserved : goal.loop-entry-preserved
loop-entry-preserved c =
    let table = c.args.self.now in
    let start : List ℕ = to_be_bytes w64 c.args.directory in
    let now : List Cell = c.loop-entry.entry-iterator in
    let left : List Cell = c.next.new.self in
    let at : Cell = (c.in-Some.entry.now, c.in-Some.field-0-1.now) in
    let more : now ≡ at ∷ left = rest_more deref_pair now left c.next.result (c.in-Some.entry, c.in-Some.field-0-1) c.in-Some.is c.next.ensures.steps in
    record {
      ascends = rest_ascends now left at more c.loop-entry.invariant.ascends;
      begins = rest_begins start now left at more c.loop-entry.invariant.begins;
      all = λ n t h. ⊎_elim
          (λ here.
          let got : c.get.result ≡ Some t = c.get.ensures ∙ ap (bound table) (c.deref-in-loop-entry.ensures.value ∙ here.0) ∙ h in
          let no : false ≡ true = c.if-is_some.ensures ∙ ap is_some got in
          absurd (cc))
          (λ behind. behind)
          (subst (λ l. Among l (start ++ n) (Some t)) more (c.loop-entry.invariant.all n t h));
    }

bound_or_none : (o : Option Binding) → ((to : Binding) → o ≡ Some to → ⊥) → o ≡ None
bound_or_none None h = refl
bound_or_none (Some to) h = absurd (h to refl)

pub returns-in-None-clause-empty : goal.returns-in-None-clause-empty
returns-in-None-clause-empty c = λ yes name.
    let start : List ℕ = to_be_bytes w64 c.args.directory in
    let now : List Cell = c.loop-entry.entry-iterator in
    let left : List Cell = c.next.new.self in
    bound_or_none _ (λ to h.
    absurd (subst (λ (l : List Cell). Among l (start ++ name) (Some to)) (rest_all deref_pair now left c.next.result c.in-None.is c.next.ensures.steps) (c.loop-entry.invariant.all name to h)))

pub returns-in_default-clause-empty : goal.returns-in_default-clause-empty
returns-in_default-clause-empty c = λ yes name.
    let start : List ℕ = to_be_bytes w64 c.args.directory in
    let now : List Cell = c.loop-entry.entry-iterator in
    let left : List Cell = c.next.new.self in
    let at : Cell = (c.in-Some.entry.now, c.in-Some.field-0-1.now) in
    let more : now ≡ at ∷ left = rest_more deref_pair now left c.next.result (c.in-Some.entry, c.in-Some.field-0-1) c.in-Some.is c.next.ensures.steps in
    bound_or_none _ (λ to h.
    none_behind start now left at name (Some to) more c.loop-entry.invariant.ascends c.loop-entry.invariant.begins
    (λ rest is. not_prefixed c.to_be_bytes-start.result c.deref.result.now c.in_default.ensures.cases rest (c.deref.ensures.value ∙ is ∙ ap (λ l. l ++ rest) (sym c.to_be_bytes-start.ensures)))
    (c.loop-entry.invariant.all name to h))
