use Rattle.std.proofs.Common.{◌≡◌, ℕ, ◌+◌, ◌-◌, ◌<◌, ◌≤◌, Bool, false, not, ◌||◌, ◌&&◌, List, [], ◌∷◌, ◌++◌, length, map, replicate, Some, None, is_some, ap, ap₂, subst, sym, ◌∙◌, rules}
use Rattle.std.proofs.lemmas.List.Elements.{All-from_get_or}
use Rattle.blob_packed.specs.Records.{Record, found_from}
use Rattle.blob_directory.specs.Names.{Same, all_edited}
use Rattle.blob_directory.specs.Profiles.{Rule, all_counts, counts, counts_in, follows_any, kept_edits, lost_behind, names_told, seen_one, with_found, with_seen}
use Rattle.blob_directory.specs.Records.{Found, edit_found, edits_from}
use Rattle.blob_directory.specs.Rules.{SameRule, rule_in, rule_of}
use Rattle.blob_directory.specs.Tables.{bound}
use Rattle.blob_directory.proofs.Fitting.{told_fits}
use Rattle.blob_directory.proofs.Journals.{flags_long, one_flag, one_record}
use Rattle.blob_directory.proofs.Rules.{follows_same, lost_same, seen_next}
use Rattle.blob_directory.proofs.tree.kept_names.Goals as goal

pub loop-found-preserved : goal.loop-found-preserved
loop-found-preserved c =
    let rule : Rule = rule_of c.args.keeps c.args.edits.now in
    let same : SameRule (rule_in c.in_ok-rule.rule) rule = c.in_ok-rule.ensures in
    let flags : List Bool = c.loop-found.kept.items in
    let between : List Bool = c.pass_over.new.kept.items in
    let new : List Bool = c.push.new.self.items in
    let next : ℕ = length flags in
    let number : ℕ = c.in-Some.found.number in
    let r : Record = (c.in-Some.found.bytes.now, c.in-Some.found.is_settled) in
    let left : List ℕ = c.loop-found.left.now in
    let more : List ℕ = c.in-Some.found.rest.now in
    let lost : Bool = c.loop-found.is_lost in
    let behind : Bool = c.loop-found.is_behind in
    let passed : Bool = c.in_ok-is_lost.is_lost in
    let missed : Bool = c.is_behind-is_behind.result in
    let now : Bool = c.is_next_lost-is_lost.result in
    let missing : Bool = c.is_next_behind-is_behind.result in
    let at : c.len.result ≡ next = c.len.ensures ∙ c.loop-found.kept.ok.0 in
    let there : c.len-in-Some.result ≡ next = c.len-in-Some.ensures ∙ c.loop-found.kept.ok.0 in
    let step : found_from next left ≡ replicate (number - next) None ++ (Some r ∷ found_from (number + 1) more) =
    subst (λ (n : ℕ). found_from n left ≡ replicate (number - n) None ++ (Some r ∷ found_from (number + 1) more)) at c.in-Some.ensures.found in
    let low : next ≤ number = subst (λ (n : ℕ). n ≤ number) at c.in-Some.ensures.number in
    let gap : between ≡ flags ++ replicate (number - next) false = c.in_ok-is_lost.ensures.kept in
    let behind_gap : passed ≡ lost_behind rule lost (number - next) =
    c.in_ok-is_lost.ensures.lost ∙ lost_same (rule_in c.in_ok-rule.rule) rule lost (number - next) same in
    let missed_gap : missed ≡ (behind || follows_any rule next (number - next)) =
    c.is_behind-is_behind.ensures
    ∙ ap (λ (n : ℕ). behind || follows_any (rule_in c.in_ok-rule.rule) n (number - n)) there
    ∙ ap (λ (b : Bool). behind || b) (follows_same (rule_in c.in_ok-rule.rule) rule next (number - next) same) in
    let f : Found = edit_found (Some r) in
    let shown : Found = seen_one (rule.is_seen number) (rule.is_followed number && not missed) f in
    let marked : seen_one c.is_seen-is_seen.result c.is_in_log-is_in_log.result f ≡ shown =
    ap₂ (λ (a b : Bool). seen_one a b f) (c.is_seen-is_seen.ensures ∙ same.seen number)
    (c.is_in_log-is_in_log.ensures ∙ ap (λ (b : Bool). b && not missed) (same.followed number)) in
    let kept : c.in_ok-has_edit.is_kept ≡ counts passed shown = c.in_ok-has_edit.ensures.kept ∙ ap (counts passed) marked in
    let named : Same (bound c.keep.new.names) (with_found (bound c.loop-found.names) passed shown) =
    λ e. c.in_ok-has_edit.ensures.names e ∙ ap (λ (x : Found). with_found (bound c.loop-found.names) passed x e) marked in
    let then : missing ≡ (missed || (rule.is_followed number && not (is_some f))) =
    c.is_next_behind-is_behind.ensures
    ∙ ap₂ (λ (a b : Bool). missed || (a && not b)) (same.followed number) c.in_ok-has_edit.ensures.there in
    let rest : List Found = with_seen rule missing (number + 1) (edits_from (number + 1) more) in
    let next_seen : with_seen rule behind next (edits_from next left) ≡ replicate (number - next) None ++ (shown ∷ rest) =
    seen_next rule behind missed next number left more r low step missed_gap
    ∙ ap (λ (b : Bool). replicate (number - next) None ++ (shown ∷ with_seen rule b (number + 1) (edits_from (number + 1) more))) (sym then) in
    let after : now ≡ (passed || (rule.is_prefix && not (counts passed shown))) =
    c.is_next_lost-is_lost.ensures ∙ ap₂ (λ (a b : Bool). passed || (a && not b)) same.prefix kept in
    let pushed : new ≡ between ++ c.in_ok-has_edit.is_kept ∷ [] = c.in_ok-push.ensures.items in
    let long : number + 1 ≡ length new = sym (flags_long flags between new c.in_ok-has_edit.is_kept number low gap pushed) in
    record {
      kept = subst (λ (n : ℕ). new ++ all_counts rule now (with_seen rule missing n (edits_from n more)) ≡ counts_in rule c.args.bytes.now) long
          (one_flag rule lost passed now c.in_ok-has_edit.is_kept flags between new (number - next) (with_seen rule behind next (edits_from next left))
          rest shown (counts_in rule c.args.bytes.now)
          next_seen gap behind_gap kept after pushed c.loop-found.invariant.kept);
      names = subst (λ (n : ℕ). Same (all_edited (bound c.keep.new.names) (kept_edits rule now (with_seen rule missing n (edits_from n more)))) (names_told rule c.args.bytes.now)) long
          (one_record rule lost passed now (bound c.loop-found.names) (bound c.keep.new.names) (number - next) (with_seen rule behind next (edits_from next left))
          rest shown (names_told rule c.args.bytes.now)
          next_seen behind_gap named after c.loop-found.invariant.names);
    }

pub returns-clause-fit : goal.returns-clause-fit
returns-clause-fit c =
    let rule : Rule = rule_of c.args.keeps c.args.edits.now in
    let bytes : List ℕ = c.args.bytes.now in
    let left : List ℕ = c.loop-found.left.now in
    let lost : Bool = c.loop-found.is_lost in
    let next : ℕ = length c.loop-found.kept.items in
    let at : c.len.result ≡ next = c.len.ensures ∙ c.loop-found.kept.ok.0 in
    let done : found_from c.len.result left ≡ [] = search rules in
    let none : found_from next left ≡ [] = ap (λ (n : ℕ). found_from n left) (sym at) ∙ done in
    let names : Same (bound c.loop-found.names) (names_told rule bytes) =
    λ e. ap (λ l. all_edited (bound c.loop-found.names) (kept_edits rule lost (with_seen rule c.loop-found.is_behind next (map edit_found l))) e) (sym none) ∙ c.loop-found.invariant.names e in
    λ e to h. told_fits rule bytes (All-from_get_or (λ b. b < 256) bytes 0 (λ i l. (c.type_inv.bytes i).fits)) e to (sym (names e) ∙ h)
