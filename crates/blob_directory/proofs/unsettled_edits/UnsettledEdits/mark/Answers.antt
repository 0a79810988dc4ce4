use Rattle.std.proofs.Common.{◌≡◌, ◌≤◌, ◌∙◌, ap, arith, length, refl, subst, sym, take, true, List}
use Rattle.std.specs.List.{list_all}
use Rattle.blob_directory.specs.Indexes.{is_indexed}
use Rattle.blob_directory.specs.Syncs.{Marks}
use Rattle.blob_directory.specs.declared.unsettled.Unsettled.{Unsettled}
use Rattle.blob_directory.proofs.Indexes.{marked_indexed, marked_long, written}
use Rattle.blob_directory.proofs.unsettled_edits.UnsettledEdits.mark.Goals as goal

pub invariant_of-self : goal.invariant_of-self
invariant_of-self c =
    let self = c.args.self.now in
    let edits : List Unsettled = self.edits.items in
    let old = c.deref_mut.result.now in
    let new = c.want.new.edits in
    let marks = c.want.ensures.marks in
    let refused = c.want.ensures.refused in
    let long = marked_long c.want.result c.args.settles c.args.synced old new marks refused ∙ ap (λ (l : List Unsettled). length l) c.deref_mut.ensures.value in
    let all = written new edits self.edits.len long self.edits.ok.0 in
    let same = ap (λ (l : List Unsettled). length l) all ∙ long in
    let indexed = self.indexed_within in
    record {
      indexed_within = omega (arith, same, indexed);
      noted_within = omega arith;
      are_indexed = subst (λ (l : List Unsettled). list_all (is_indexed self.index) (take self.indexed l) ≡ true) (sym all)
          (marked_indexed c.want.result c.args.settles c.args.synced old new marks refused self.index self.indexed
          (subst (λ (l : List Unsettled). list_all (is_indexed self.index) (take self.indexed l) ≡ true) (sym c.deref_mut.ensures.value) self.are_indexed));
      are_noted = refl;
    }
