use Rattle.std.proofs.Common.{rules, arith, ◌≡◌, ◌<◌, ◌^◌, ◌-◌, ◌++◌, Option, None, IfSome, refl, true, string_bytes, ap, sym, ◌∙◌, subst}
use Rattle.std.proofs.lemmas.Bool.{OnFalse_at, OnTrue_at}
use Rattle.blob_tree.specs.Trees.{left_after}
use Rattle.blob_explore.specs.Explorations.{VisitsNext, explored_script, path_of}
use Rattle.blob_explore.specs.Outcomes.{replies_text, shared_text}
use Rattle.blob_explore.specs.SharedCalls.{HasShared, replies_of, shared_replies}
use Rattle.blob_explore.specs.declared.exploration.Leaf.{Leaf}
use Rattle.blob_explore.proofs.Exploring.{found_all, found_more}
use Rattle.blob_explore.proofs.outcomes.visit_leaves.Goals as goal

pub returns-in_default-clause-leaves : goal.returns-in_default-clause-leaves
returns-in_default-clause-leaves c begun none =
    let first = c.args.exploration.now in
    let e = c.visits.exploration in
    let ended : path_of e ≡ None = search rules in
    found_all c.outcomes.ensures.run c.every_run.ensures (explored_script first) first e c.args.last true
    c.visits.found refl begun c.visits.invariant.visited (λ _ t. ap (left_after t) ended) (λ e. absurd (cc)) none

pub visits-preserved : goal.visits-preserved
visits-preserved c =
    let first = c.args.exploration.now in
    let e = c.visits.exploration in
    let last = c.args.last in
    let leaf = c.in-Some.leaf in
    let front = string_bytes c.visits.found.shared in
    let own = string_bytes c.in_ok-text.text in
    let V : Option Leaf → Type 0 = λ found. IfSome found (λ leaf. HasShared e → VisitsNext e leaf c.next.new.self) in
    let visits : HasShared e → VisitsNext e leaf c.next.new.self = subst V c.in-Some.is c.in_ok-leaf.ensures.leaf in
    let same : shared_replies e ≡ shared_replies first = c.visits.invariant.replies in
    let here : c.shared-in-visits.result.now ≡ shared_replies e = c.shared-in-visits.ensures ∙ c.next.ensures.replies in
    let front_is : front ≡ shared_text last c.shared-in-visits.result.now = c.visits.invariant.front ∙ ap (shared_text last) (sym same ∙ sym here) in
    let text : front ++ own ≡ replies_text last (replies_of e leaf) =
    ap (λ f. f ++ own) front_is ∙ sym c.in_ok-text.ensures.ok ∙ ap (λ rs. replies_text last (rs ++ c.deref.result.now)) here
    ∙ ap (λ rs. replies_text last (shared_replies e ++ rs)) c.deref.ensures.value in
    let few : c.visits.found.leaves < 2 ^ 64 - 1 = omega arith in
    record {
      most = search (rules, arith);
      shared = λ s. c.next.ensures.shared (c.visits.invariant.shared s);
      replies = c.next.ensures.replies ∙ same;
      front = c.add.ensures.shared ∙ c.visits.invariant.front;
      visited = found_more first e c.next.new.self leaf last own c.visits.found c.add.new.self c.visits.invariant.visited
          (λ b. visits (c.visits.invariant.shared b.shared)) c.next.ensures.script few text c.in_ok-add.ensures.counts;
    }

pub returns-clause-leaves : goal.returns-clause-leaves
returns-clause-leaves c begun none =
    let first = c.args.exploration.now in
    found_all c.outcomes.ensures.run c.every_run.ensures (explored_script first) first c.visits.exploration c.args.last c.is_done.result
    c.visits.found refl begun c.visits.invariant.visited (λ is. OnTrue_at is c.is_done.ensures.done) (λ is. OnFalse_at is c.is_done.ensures.more) none
