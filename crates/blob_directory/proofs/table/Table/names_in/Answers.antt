use Rattle.std.proofs.Common.{◌≡◌, List, ℕ, [], ◌∷◌, ◌++◌, Some, None, Vec, Global, refl, sym, ap, subst, ◌∙◌, inl, inr, ⊎_elim}
use Rattle.std.specs.Int.{w64, to_be_bytes}
use Rattle.std.specs.List.{All}
use Rattle.std.specs.Map.Iter.{deref_pair}
use Rattle.std.proofs.lemmas.List.Elements.{All-nil, All-same, All-push}
use Rattle.std.proofs.lemmas.Map.Iter.{rest_all, rest_more}
use Rattle.blob_directory.specs.declared.edit.Binding.{Binding}
use Rattle.blob_directory.specs.Names.{entry}
use Rattle.blob_directory.specs.Tables.{bound}
use Rattle.blob_directory.proofs.Ranges.{Among, Cell, among_bound, bound_at, name_kept, name_new, none_behind, not_prefixed, range_of, rest_ascends, rest_begins, same_rest}
use Rattle.blob_directory.proofs.Withins.{prefixed}
use Rattle.blob_directory.proofs.table.Table.names_in.Goals.{in-None, in-Some+in_default}
use Rattle.blob_directory.proofs.table.Table.names_in.Goals as goal

pub loop-entry-init : goal.loop-entry-init
loop-entry-init c =
    let table = c.args.self.now in
    let start : List ℕ = to_be_bytes w64 c.args.directory in
    let cells : List Cell = c.into_iter-entry-iterator.result in
    let range = range_of start c.in_ok-from_slice.field-0 table.entries.entries cells (c.in_ok-from_slice.ensures.items ∙ c.to_be_bytes-start.ensures)
    (c.into_iter-entry-iterator.ensures.into_iter_gives ∙ c.range-entry-items.ensures.between tt) c.range-entry-items.ensures.ordered in
    let P = λ (n : Vec ℕ Global × Binding). bound table (entry c.args.directory n.0.items) ≡ Some n.1 in
    record {
      told = All-same P c.new-names.result.items [] c.new-names.ensures.items (All-nil P);
      bounds = λ k v h. bound_at k v table c.range-entry-items.ensures.ordered (range.within k v h);
      ascends = range.ascends;
      begins = range.begins;
      all = λ name to h. inr (range.all name (Some to) (among_bound (start ++ name) to table h));
    }

pub loop-entry-preserved-in_ok-push : goal.loop-entry-preserved-in_ok-push
loop-entry-preserved-in_ok-push c =
    let table = c.args.self.now in
    let start : List ℕ = to_be_bytes w64 c.args.directory in
    let now : List Cell = c.loop-entry.entry-iterator in
    let left : List Cell = c.next.new.self in
    let at : Cell = (c.in-Some.entry.now, c.in-Some.to.now) in
    let more : now ≡ at ∷ left = rest_more deref_pair now left c.next.result (c.in-Some.entry, c.in-Some.to) c.in-Some.is c.next.ensures.steps in
    let key : List ℕ = c.deref.result.now in
    let name : Vec ℕ Global = c.in_ok-from_slice-2.field-0 in
    let to : Binding = c.in-Some-to.binding in
    let cut : c.to_be_bytes-start.result ++ c.in-Some-strip_prefix.name.now ≡ key =
    prefixed c.to_be_bytes-start.result key c.in-Some-strip_prefix.name.now c.in-Some-strip_prefix.ensures.cases.0 c.in-Some-strip_prefix.ensures.cases.1 in
    let whole : start ++ name.items ≡ c.in-Some.entry.now.items =
    ap (λ l. l ++ name.items) (sym c.to_be_bytes-start.ensures) ∙ ap (λ l. c.to_be_bytes-start.result ++ l) c.in_ok-from_slice-2.ensures.items ∙ cut ∙ c.deref.ensures.value in
    let here : bound table c.in-Some.entry.now.items ≡ c.in-Some.to.now =
    c.loop-entry.invariant.bounds c.in-Some.entry.now.items c.in-Some.to.now (subst (λ l. Among l c.in-Some.entry.now.items c.in-Some.to.now) (sym more) (inl (refl, refl))) in
    let there : bound table (start ++ name.items) ≡ Some to = ap (bound table) whole ∙ here ∙ c.in-Some-to.is in
    let names = c.loop-entry.names.items in
    let pushed : c.push.new.self.items ≡ names ++ (name, to) ∷ [] = c.in_ok-push.ensures.items in
    let P = λ (n : Vec ℕ Global × Binding). bound table (entry c.args.directory n.0.items) ≡ Some n.1 in
    record {
      told = subst (All P) (sym pushed) (All-push P names (name, to) c.loop-entry.invariant.told there);
      bounds = λ k v h. c.loop-entry.invariant.bounds k v (subst (λ l. Among l k v) (sym more) (inr h));
      ascends = rest_ascends now left at more c.loop-entry.invariant.ascends;
      begins = rest_begins start now left at more c.loop-entry.invariant.begins;
      all = λ n t h. ⊎_elim
          (λ listed. inl (name_kept names c.push.new.self.items (name, to) n t pushed listed))
          (λ among. ⊎_elim
          (λ here.
          let same : start ++ name.items ≡ start ++ n = whole ∙ here.0 in
          let both : Some to ≡ Some t = sym there ∙ ap (bound table) same ∙ h in
          let one : to ≡ t = cc in
          inl (name_new names c.push.new.self.items (name, to) n t pushed (same_rest start name.items n same) one))
          (λ behind. inr behind)
          (subst (λ l. Among l (start ++ n) (Some t)) more among))
          (c.loop-entry.invariant.all n t h);
    }

pub loop-entry-preserved : goal.loop-entry-preserved
loop-entry-preserved c =
    let table = c.args.self.now in
    let start : List ℕ = to_be_bytes w64 c.args.directory in
    let now : List Cell = c.loop-entry.entry-iterator in
    let left : List Cell = c.next.new.self in
    let at : Cell = (c.in-Some.entry.now, c.in-Some.to.now) in
    let more : now ≡ at ∷ left = rest_more deref_pair now left c.next.result (c.in-Some.entry, c.in-Some.to) c.in-Some.is c.next.ensures.steps in
    record {
      told = c.loop-entry.invariant.told;
      bounds = λ k v h. c.loop-entry.invariant.bounds k v (subst (λ l. Among l k v) (sym more) (inr h));
      ascends = rest_ascends now left at more c.loop-entry.invariant.ascends;
      begins = rest_begins start now left at more c.loop-entry.invariant.begins;
      all = λ n t h. ⊎_elim
          (λ listed. inl listed)
          (λ among. ⊎_elim
          (λ here.
          let free : at.1 ≡ Some t = here.1 in
          absurd (cc (free, c.in_default-to.is)))
          (λ behind. inr behind)
          (subst (λ l. Among l (start ++ n) (Some t)) more among))
          (c.loop-entry.invariant.all n t h);
    }

pub returns-clause-all : goal.returns-clause-all
returns-clause-all c =
    let start : List ℕ = to_be_bytes w64 c.args.directory in
    let now : List Cell = c.loop-entry.entry-iterator in
    let left : List Cell = c.next.new.self in
    λ name to h.
    ⊎_elim
    (λ listed. listed)
    (λ among. elim c.match-next.branch [
      | in-None w ↦ absurd (subst (λ (l : List Cell). Among l (start ++ name) (Some to)) (rest_all deref_pair now left c.next.result w.in-None.is c.next.ensures.steps) among)
      | in-Some+in_default w ↦
          let at : Cell = (w.in-Some.entry.now, w.in-Some.to.now) in
          let more : now ≡ at ∷ left = rest_more deref_pair now left c.next.result (w.in-Some.entry, w.in-Some.to) w.in-Some.is c.next.ensures.steps in
          absurd (none_behind start now left at name (Some to) more c.loop-entry.invariant.ascends c.loop-entry.invariant.begins
          (λ rest is. not_prefixed c.to_be_bytes-start.result w.deref.result.now w.in_default.ensures.cases rest (w.deref.ensures.value ∙ is ∙ ap (λ l. l ++ rest) (sym c.to_be_bytes-start.ensures)))
          among)
    ])
    (c.loop-entry.invariant.all name to h)
