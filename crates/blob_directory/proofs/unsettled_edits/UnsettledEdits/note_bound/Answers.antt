use Rattle.std.proofs.Common.{◌≡◌, ◌≤◌, ◌∙◌, ap, arith, length, map, subst, sym, take, true, List}
use Rattle.std.specs.List.{list_all}
use Rattle.std.proofs.lemmas.List.{length-map}
use Rattle.blob_directory.specs.Indexes.{is_indexed, is_noted}
use Rattle.blob_directory.specs.Syncs.{unbound}
use Rattle.blob_directory.specs.declared.unsettled.Unsettled.{Unsettled}
use Rattle.blob_directory.proofs.Indexes.{all_mapped, indexed_unbound, noted_unbound, written}
use Rattle.blob_directory.proofs.unsettled_edits.UnsettledEdits.note_bound.Goals as goal

pub invariant_of-self : goal.invariant_of-self
invariant_of-self c =
    let self = c.args.self.now in
    let edits : List Unsettled = self.edits.items in
    let f = unbound c.args.directory in
    let now : c.note_bound.new.edits ≡ map f edits = c.note_bound.ensures ∙ ap (map f) c.deref_mut.ensures.value in
    let long = ap (λ (l : List Unsettled). length l) now ∙ length-map edits f in
    let all = written c.note_bound.new.edits edits self.edits.len long self.edits.ok.0 ∙ now in
    let same = ap (λ (l : List Unsettled). length l) all ∙ length-map edits f in
    let indexed = self.indexed_within in
    let noted = self.noted_within in
    record {
      indexed_within = omega (arith, same, indexed);
      noted_within = omega (arith, same, noted);
      are_indexed = subst (λ (l : List Unsettled). list_all (is_indexed self.index) (take self.indexed l) ≡ true) (sym all)
          (all_mapped (is_indexed self.index) f (λ e h. indexed_unbound self.index c.args.directory e h) self.indexed edits self.are_indexed);
      are_noted = subst (λ (l : List Unsettled). list_all is_noted (take self.noted l) ≡ true) (sym all)
          (all_mapped is_noted f (λ e h. noted_unbound c.args.directory e h) self.noted edits self.are_noted);
    }
