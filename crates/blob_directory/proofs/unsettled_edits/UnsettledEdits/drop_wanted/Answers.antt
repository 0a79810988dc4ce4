use Rattle.std.proofs.Common.{rules, ◌≡◌, ◌≤◌, ◌∙◌, ap, arith, filter, length, refl, subst, sym, take, true, List}
use Rattle.std.specs.List.{list_all}
use Rattle.std.proofs.lemmas.Fn.{filter_same}
use Rattle.std.proofs.lemmas.List.{take_all}
use Rattle.blob_directory.specs.Indexes.{is_indexed, unwanted}
use Rattle.blob_directory.specs.declared.unsettled.Unsettled.{Unsettled}
use Rattle.blob_directory.proofs.Indexes.{all_filtered, all_taken}
use Rattle.blob_directory.proofs.unsettled_edits.UnsettledEdits.drop_wanted.Goals as goal
use Rattle.blob_directory.proofs.unsettled_edits.UnsettledEdits.drop_wanted.Goals.{then-is_indexed, else-is_indexed}

pub invariant_of-self : goal.invariant_of-self
invariant_of-self c =
    let self = c.args.self.now in
    let edits : List Unsettled = self.edits.items in
    let left : c.retain.new.self.items ≡ filter unwanted edits = filter_same _ unwanted _ (λ x b f' h. search rules) _ _ c.retain.ensures.filtered in
    let indexed : (c.if-is_indexed.self ≤ length c.retain.new.self.items) × (list_all (is_indexed self.index) (take c.if-is_indexed.self c.retain.new.self.items) ≡ true) =
    elim c.if-is_indexed.branch [
      | then-is_indexed w ↦
          let now = w.self-is in
          let count = w.len-self.ensures in
          let long = c.retain.new.self.ok.0 in
          let same = w.if-is_indexed.true in
          let before = c.len.ensures in
          let was = self.edits.ok.0 in
          let whole : list_all (is_indexed self.index) edits ≡ true =
          subst (λ (l : List Unsettled). list_all (is_indexed self.index) l ≡ true) (take_all self.indexed edits (omega (arith, same, before, was))) self.are_indexed in (
            omega (arith, now, count, long),
            subst (λ (l : List Unsettled). list_all (is_indexed self.index) (take c.if-is_indexed.self l) ≡ true) (sym left)
                (all_taken (is_indexed self.index) c.if-is_indexed.self (filter unwanted edits) (all_filtered (is_indexed self.index) unwanted edits whole)),
          )
      | else-is_indexed w ↦
          let now = w.self-is in
          (omega (arith, now), ap (λ n. list_all (is_indexed self.index) (take n c.retain.new.self.items)) now)
    ] in
    record { indexed_within = indexed.0; noted_within = omega arith; are_indexed = indexed.1; are_noted = refl }

pub returns : goal.returns
returns c = filter_same _ unwanted _ (λ x b f' h. search rules) _ _ c.retain.ensures.filtered
