use Rattle.std.proofs.Common.{rules, ◌≡◌, ◌∙◌, Some, ap, false, map, subst, sym, true, List}
use Rattle.std.specs.List.{list_all}
use Rattle.blob_directory.specs.Indexes.{about_any, decisive, unwanted}
use Rattle.blob_directory.specs.Syncs.{Marks, marked}
use Rattle.blob_directory.specs.UnsettledEdits.{edits_listed}
use Rattle.blob_directory.specs.declared.unsettled.Unsettled.{Unsettled}
use Rattle.blob_directory.proofs.Indexes.{unwanted_marked, wants_none}
use Rattle.blob_directory.proofs.unsettled_edits.UnsettledEdits.want.Goals as goal

pub returns-then-not-branch-clause-marks : goal.returns-then-not-branch-clause-marks
returns-then-not-branch-clause-marks c =
    let edits = edits_listed c.args.self.now in
    let number : decisive c.args.settles c.args.synced ≡ Some c.in-Some.number = search rules in
    let none : about_any c.in-Some.number edits ≡ false = c.in_ok-concerns.ensures.none (search rules) in
    record {
      wants = λ _. false;
      exactly = wants_none c.args.settles c.args.synced edits c.in-Some.number number none;
      is = c.pass_over.ensures ∙ ap (map (marked (λ _. false))) c.concerns.ensures.same;
    }

pub returns-then-not-branch-clause-none : goal.returns-then-not-branch-clause-none
returns-then-not-branch-clause-none c _ = ap (list_all unwanted) c.pass_over.ensures ∙ unwanted_marked (edits_listed c.concerns.new.self)
