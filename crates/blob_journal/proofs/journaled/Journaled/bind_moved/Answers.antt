use Rattle.std.proofs.Common.{rules, ◌≡◌, ◌++◌, List, [], false, get_or, length, map, ap, arith, refl, subst, sym, ◌∙◌}
use Rattle.std.proofs.Math.Logic.{∥∥₁_map}
use Rattle.std.proofs.lemmas.Bool.{both_ways}
use Rattle.std.proofs.lemmas.List.{append-nil, get_or_append_left, length-append}
use Rattle.blob_directory.specs.declared.unsettled.Unsettled.{Unsettled}
use Rattle.blob_directory.specs.Indexes.{about_any}
use Rattle.blob_directory.specs.Syncs.{moved_into, unbound}
use Rattle.blob_journal.specs.Found.{IsKept}
use Rattle.blob_journal.specs.Settling.{unsettled_of}
use Rattle.blob_journal.proofs.Again.{adds_twice, bound_more, map_parts, tells_none, tells_twice, unbound_kept, names_twice}
use Rattle.blob_journal.proofs.Fixed.{keeps_between}
use Rattle.blob_journal.proofs.Unwanted.{none_moved, unbound_none}
use Rattle.blob_journal.proofs.journaled.Journaled.bind_moved.Goals as goal

pub returns-in_err-bind_one-clause-told : goal.returns-in_err-bind_one-clause-told
returns-in_err-bind_one-clause-told g c = let i = c.loop-at.invariant in tells_twice _ _ _ i.names.table i.told c.bind_one.ensures.told

pub loop-at-preserved : goal.loop-at-preserved
loop-at-preserved g c =
    let self = c.args.self.now in
    let mid = c.loop-at.self in
    let i = c.loop-at.invariant in
    let b = c.in_ok-bind_one.ensures.bound in
    let long : length (unsettled_of mid) ≡ length (unsettled_of self ++ i.more) = ap (λ (l : List Unsettled). length l) i.adds.is in
    let both = length-append (unsettled_of self) i.more in
    record {
      names = names_twice _ _ _ i.names c.bind_one.ensures.names;
      told = tells_twice _ _ _ i.names.table i.told c.bind_one.ensures.told;
      more = i.more ++ b.more;
      adds = adds_twice _ _ _ i.more b.more i.adds b.adds;
      bound = λ k e low under is. bound_more self mid c.args.directory c.loop-at.at k e i.more b.more i.names.table
          (λ before. i.bound k e before under is)
          (λ now. b.bound e (omega (arith, now, under, long, both))
          (is ∙ sym (get_or_append_left (unsettled_of self) i.more e k under) ∙ ap (λ (l : List Unsettled). get_or l k e) (sym i.adds.is) ∙ ap (λ n. get_or (unsettled_of mid) n e) now))
          low;
    }

pub invariant_of-self : goal.invariant_of-self
invariant_of-self g c =
    let self = c.args.self.now in
    record {
      partition = self.partition;
      name = self.name;
      current = self.current;
      given = self.given;
      numbered = self.numbered;
      accepted = self.accepted;
      kept = subst (λ (es : List Unsettled). ∥ IsKept self.store self.journal es ∥₁) (sym c.concerns.ensures.same) self.kept;
    }

pub returns-then-not-branch-clause-bound : goal.returns-then-not-branch-clause-bound
returns-then-not-branch-clause-bound g c =
    let edits : List Unsettled = unsettled_of c.args.self.now in
    let d = c.args.directory in
    let none : about_any d edits ≡ false = c.in_ok-concerns.ensures.none (search rules) in
    record {
      more = [];
      is = c.concerns.ensures.same ∙ sym (unbound_none d edits none) ∙ sym (append-nil (map (unbound d) edits));
      bound = λ e there moved. absurd (both_ways (moved_into d e.about) (none_moved d edits none e there) moved);
    }

pub loop-at-init : goal.loop-at-init
loop-at-init g c = record {
  names = search rules;
  told = tells_none _ _ refl;
  more = [];
  adds = record { is = c.concerns.ensures.same ∙ sym (append-nil (unsettled_of c.args.self.now)); plain = λ d. refl };
  bound = λ k e low. absurd (omega (arith, low));
}

pub invariant_of-self-2 : goal.invariant_of-self-2
invariant_of-self-2 g c =
    let mid = c.loop-at.self in
    record {
      partition = mid.partition;
      name = mid.name;
      current = mid.current;
      given = mid.given;
      numbered = mid.numbered;
      accepted = mid.accepted;
      kept = ∥∥₁_map mid.kept (λ k. unbound_kept mid.store mid.journal (unsettled_of mid) _ c.args.directory c.note_bound.ensures k);
    }

pub returns-clause-bound : goal.returns-clause-bound
returns-clause-bound g c =
    let self = c.args.self.now in
    let i = c.loop-at.invariant in
    let d = c.args.directory in
    let end = ap (λ (l : List Unsettled). length l) (c.as_slice-at-end.ensures ∙ c.concerns.ensures.same) in
    let test = c.loop-at-test.false in
    record {
      more = i.more;
      is = c.note_bound.ensures ∙ ap (map (unbound d)) i.adds.is ∙ map_parts (unbound d) (unsettled_of self) i.more ∙ ap (λ (l : List Unsettled). map (unbound d) (unsettled_of self) ++ l) (i.adds.plain d);
      bound = λ e there. let low = there.1 in i.bound there.0 e (omega (arith, low, test, end)) there.1 (sym there.2);
    }

pub returns-in_err-bind_one-clause-names : goal.returns-in_err-bind_one-clause-names
returns-in_err-bind_one-clause-names g c = names_twice _ _ _ c.loop-at.invariant.names c.bind_one.ensures.names

pub returns-clause-names : goal.returns-clause-names
returns-clause-names g c = let i = c.loop-at.invariant.names in record { table = i.table; log = i.log; still = keeps_between _ c.args.self.now c.loop-at.self _ refl refl i.still }
