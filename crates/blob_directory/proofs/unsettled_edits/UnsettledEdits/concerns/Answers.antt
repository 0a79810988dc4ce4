use Rattle.std.proofs.Common.{rules, ◌≡◌, ◌≤◌, ◌∙◌, ap, arith, drop, false, length, refl, sym, take, true, List}
use Rattle.std.specs.List.{list_all}
use Rattle.blob_directory.specs.Indexes.{has, is_indexed}
use Rattle.blob_directory.specs.declared.unsettled.Unsettled.{Unsettled}
use Rattle.blob_directory.proofs.Indexes.{about_none, all_taken, indexed_more, indexed_without, keeps_indexed, keeps_others}
use Rattle.blob_directory.proofs.unsettled_edits.UnsettledEdits.concerns.Goals as goal

pub invariant_of-self-in-Break-1 : goal.invariant_of-self-in-Break-1
invariant_of-self-in-Break-1 c =
    let self = c.args.self.now in
    record {
      indexed_within = self.indexed_within;
      noted_within = self.noted_within;
      are_indexed = keeps_indexed self.index c.add_all.new.index (take self.indexed self.edits.items) c.add_all.ensures.keeps self.are_indexed;
      are_noted = self.are_noted;
    }

pub invariant_of-self-then-not-contains : goal.invariant_of-self-then-not-contains
invariant_of-self-then-not-contains c =
    let self = c.args.self.now in
    let edits : List Unsettled = self.edits.items in
    let new = c.add_all.new.index in
    let all : list_all (is_indexed new) edits ≡ true = indexed_more self.index new self.indexed edits c.deref.result.now c.add_all.ensures.keeps self.are_indexed c.deref.ensures.value c.in_ok-add_all.ensures.added in
    record {
      indexed_within = omega (arith, c.len-self.ensures);
      noted_within = self.noted_within;
      are_indexed = all_taken (is_indexed new) c.len-self.result edits all;
      are_noted = self.are_noted;
    }

pub returns-then-not-contains-clause-none : goal.returns-then-not-contains-clause-none
returns-then-not-contains-clause-none c _ =
    let self = c.args.self.now in
    let edits : List Unsettled = self.edits.items in
    let new = c.add_all.new.index in
    let all : list_all (is_indexed new) edits ≡ true = indexed_more self.index new self.indexed edits c.deref.result.now c.add_all.ensures.keeps self.are_indexed c.deref.ensures.value c.in_ok-add_all.ensures.added in
    let absent : has new c.args.number ≡ false = search rules in
    about_none new c.args.number edits all absent

pub invariant_of-self-then-about_any : goal.invariant_of-self-then-about_any
invariant_of-self-then-about_any c =
    let self = c.args.self.now in
    let edits : List Unsettled = self.edits.items in
    let new = c.add_all.new.index in
    let all : list_all (is_indexed new) edits ≡ true = indexed_more self.index new self.indexed edits c.deref.result.now c.add_all.ensures.keeps self.are_indexed c.deref.ensures.value c.in_ok-add_all.ensures.added in
    record {
      indexed_within = omega (arith, c.len-self.ensures);
      noted_within = self.noted_within;
      are_indexed = all_taken (is_indexed new) c.len-self.result edits all;
      are_noted = self.are_noted;
    }

pub invariant_of-self-2 : goal.invariant_of-self-2
invariant_of-self-2 c =
    let self = c.args.self.now in
    let edits : List Unsettled = self.edits.items in
    let new = c.add_all.new.index in
    let all : list_all (is_indexed new) edits ≡ true = indexed_more self.index new self.indexed edits c.deref.result.now c.add_all.ensures.keeps self.are_indexed c.deref.ensures.value c.in_ok-add_all.ensures.added in
    let n = c.args.number in
    let less = c.remove.new.self in
    record {
      indexed_within = omega (arith, c.len-self.ensures);
      noted_within = self.noted_within;
      are_indexed = all_taken (is_indexed less) c.len-self.result edits
          (indexed_without new less n edits (keeps_others new less n c.remove.ensures.updates.2) (search rules) all);
      are_noted = self.are_noted;
    }
