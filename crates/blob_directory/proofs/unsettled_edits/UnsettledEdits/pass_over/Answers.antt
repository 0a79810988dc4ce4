use Rattle.std.proofs.Common.{◌≡◌, ◌≤◌, ◌∙◌, ap, arith, false, length, map, subst, sym, take, true, List}
use Rattle.std.specs.List.{list_all}
use Rattle.std.proofs.lemmas.List.{length-map}
use Rattle.blob_directory.specs.Indexes.{is_indexed, is_noted}
use Rattle.blob_directory.specs.Syncs.{marked}
use Rattle.blob_directory.specs.declared.unsettled.Unsettled.{Unsettled}
use Rattle.blob_directory.proofs.Indexes.{all_mapped, all_taken, noted_marked, written}
use Rattle.blob_directory.proofs.unsettled_edits.UnsettledEdits.pass_over.Goals as goal

pub invariant_of-self : goal.invariant_of-self
invariant_of-self c =
    let self = c.args.self.now in
    let edits : List Unsettled = self.edits.items in
    let f = marked (λ _. false) in
    let now : c.pass_over.new.edits ≡ map f edits = c.pass_over.ensures ∙ ap (map f) c.deref_mut.ensures.value in
    let long = ap (λ (l : List Unsettled). length l) now ∙ length-map edits f in
    let all = written c.pass_over.new.edits edits self.edits.len long self.edits.ok.0 ∙ now in
    let same = ap (λ (l : List Unsettled). length l) all ∙ length-map edits f in
    let indexed = self.indexed_within in
    let count = c.len-self.ensures in
    record {
      indexed_within = omega (arith, same, indexed);
      noted_within = omega (arith, same, count);
      are_indexed = subst (λ (l : List Unsettled). list_all (is_indexed self.index) (take self.indexed l) ≡ true) (sym all)
          (all_mapped (is_indexed self.index) f (λ e h. h) self.indexed edits self.are_indexed);
      are_noted = subst (λ (l : List Unsettled). list_all is_noted (take c.len-self.result l) ≡ true) (sym all)
          (all_taken is_noted c.len-self.result (map f edits) (noted_marked edits));
    }
