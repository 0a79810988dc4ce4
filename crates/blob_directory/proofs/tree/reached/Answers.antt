use Rattle.std.proofs.Common.{◌≡◌, ◌&&◌, ◌-◌, ℕ, List, [], ◌∷◌, ◌++◌, Bool, true, not, None, Option, Some, Vec, Global, sym, ap, subst, ◌∙◌, inl, inr, ⊎_elim, take, get_or}
use Rattle.std.specs.List.{All, Contains}
use Rattle.std.proofs.lemmas.Bool.{and_parts, eqb-true, false≢true}
use Rattle.std.proofs.lemmas.List.Elements.{All-contains, All-from_all_within, All-pop, All-push, All-same, All-nil, All-weaker, AllWithin-more, AllWithin-none, AllWithin-upto, Contains-append_cases, Contains-append_left, Contains-push, at_read}
use Rattle.blob_directory.specs.declared.edit.Binding.{Binding}
use Rattle.blob_directory.specs.declared.edit.Kind.TheVariants.{Directory}
use Rattle.blob_directory.specs.Counts.{link_count}
use Rattle.blob_directory.specs.Names.{Names, entry}
use Rattle.blob_directory.specs.Tables.{bound}
use Rattle.blob_directory.specs.Trees.{has_directory, is_directory}
use Rattle.blob_directory.proofs.Walks.{Closed, Kept, all_found, all_seen, added_name, finds_same, is_kind, kept_grows, not_in_none, only_one, walk_begins}
use Rattle.blob_directory.proofs.Counts.{counts_added, named_nowhere}
use Rattle.blob_directory.proofs.Links.{links_added, named_added}
use Rattle.blob_directory.proofs.tree.reached.Goals.{then-branch+in_ok-push-2, else-branch}
use Rattle.blob_directory.proofs.tree.reached.Goals as goal

unbound : {A : Type 0} {x : A} → ◌≡◌ {A = Option A} None (Some x) → ⊥
unbound e = cc

pub loop-init : goal.loop-init
loop-init c =
    let names : Names = bound c.args.names.now in
    let seen : ℕ → Bool = has_directory c.in_ok-tree.tree in
    let dirs = c.in_ok-tree.ensures.directories in
    let next : List ℕ = c.push.new.self.items in
    let P : ℕ → Type 0 = λ d. seen d ≡ true in
    let pushed : next ≡ 1 ∷ [] = c.in_ok-push.ensures.items ∙ ap (λ l. l ++ 1 ∷ []) c.new-next.ensures.items in
    record {
      links = λ e i h. absurd (unbound (sym (c.in_ok-tree.ensures.names e) ∙ h));
      named = λ i h. absurd (false≢true (sym (c.in_ok-tree.ensures.links i) ∙ h));
      counts = λ i. named_nowhere (bound c.in_ok-tree.tree.names) c.in_ok-tree.ensures.names i (link_count c.in_ok-tree.tree i);
      walked = walk_begins names (bound c.in_ok-tree.tree.names) seen c.in_ok-tree.ensures.names dirs;
      left = All-same P next (1 ∷ []) pushed (All-push P [] 1 (All-nil P) (dirs 1));
      closed = λ d s. inl (subst (λ l. Contains l d) (sym pushed) (subst (Contains (1 ∷ [])) (eqb-true 1 d (sym (dirs d) ∙ s)) (Contains-push [] 1)));
    }

pub returns-in_default-clause-finds : goal.returns-in_default-clause-finds
returns-in_default-clause-finds c =
    let names : Names = bound c.args.names.now in
    let found : Names = bound c.loop.tree.names in
    let seen : ℕ → Bool = has_directory c.loop.tree in
    let none : c.pop.new.self.items ≡ [] = c.in_default.ensures.rest ∙ ap (λ n. take (n - 1) c.loop.next.items) c.in_default.ensures.cases.0 in
    let empty : c.loop.next.items ≡ [] = c.in_default.ensures.items ∙ ap (λ l. l ++ []) none in
    λ told same. finds_same found names told same
    (all_found names found seen c.loop.invariant.walked (λ d s. ⊎_elim (λ x. absurd (not_in_none c.loop.next.items d empty x)) (λ y. y) (c.loop.invariant.closed d s)))

pub returns-in_default-clause-places : goal.returns-in_default-clause-places
returns-in_default-clause-places c =
    let names : Names = bound c.args.names.now in
    let found : Names = bound c.loop.tree.names in
    let seen : ℕ → Bool = has_directory c.loop.tree in
    let none : c.pop.new.self.items ≡ [] = c.in_default.ensures.rest ∙ ap (λ n. take (n - 1) c.loop.next.items) c.in_default.ensures.cases.0 in
    let empty : c.loop.next.items ≡ [] = c.in_default.ensures.items ∙ ap (λ l. l ++ []) none in
    λ e to h.
    let at = (c.loop.invariant.walked.within e to h).1 in (
      at.directory,
      at.name,
      at.is,
      all_seen names found seen c.loop.invariant.walked (λ d s. ⊎_elim (λ x. absurd (not_in_none c.loop.next.items d empty x)) (λ y. y) (c.loop.invariant.closed d s)) at.directory at.reached,
    )

pub loop-name-init : goal.loop-name-init
loop-name-init c =
    let seen : ℕ → Bool = has_directory c.loop.tree in
    let directory = c.in-Some.directory in
    let left : List ℕ = c.pop.new.self.items in
    let before : c.loop.next.items ≡ left ++ directory ∷ [] = c.in-Some.ensures.items in
    let popped = All-pop (λ (d : ℕ). seen d ≡ true) c.loop.next.items left (Some directory) before c.loop.invariant.left in
    record {
      links = c.loop.invariant.links;
      named = c.loop.invariant.named;
      counts = c.loop.invariant.counts;
      walked = c.loop.invariant.walked;
      left = popped.0;
      here = popped.1;
      closed = λ d s. ⊎_elim
          (λ x. ⊎_elim (λ y. inr (inl y)) (λ y. inl (only_one directory d y)) (Contains-append_cases left (directory ∷ []) d (subst (λ l. Contains l d) before x)))
          (λ y. inr (inr y))
          (c.loop.invariant.closed d s);
      kept = AllWithin-none (λ (n : Vec ℕ Global × Binding). Kept (bound c.loop.tree.names) seen (entry directory n.0.items) n.1) c.deref-name-items.result.now 0;
    }

pub loop-name-preserved : goal.loop-name-preserved
loop-name-preserved c =
    let names : Names = bound c.args.names.now in
    let directory = c.in-Some.directory in
    let found : Names = bound c.loop-name.tree.names in
    let found' : Names = bound c.add.new.self.names in
    let seen : ℕ → Bool = has_directory c.loop-name.tree in
    let seen' : ℕ → Bool = has_directory c.add.new.self in
    let items : List (Vec ℕ Global × Binding) = c.deref-name-items.result.now in
    let item : Vec ℕ Global × Binding = c.loop-name-item.result in
    let told = λ (n : Vec ℕ Global × Binding). names (entry directory n.0.items) ≡ Some n.1 in
    let all : All told items = subst (All told) (sym c.deref-name-items.ensures.value) c.in_ok-names_in.ensures.told in
    let here : told item = subst told (sym c.loop-name-item.is) (all c.loop-name.name-index item c.loop-name-test.true) in
    let there : names (entry directory c.deref.result.now) ≡ Some item.1 = ap (λ l. names (entry directory l)) c.deref.ensures.value ∙ here in
    let added = added_name names found found' seen seen' directory c.deref.result.now item.1 there c.loop-name.invariant.walked c.loop-name.invariant.here
    c.in_ok-add.ensures.names c.in_ok-add.ensures.directories in
    let next : List ℕ = c.loop-name.next.items in
    let next' : List ℕ = c.if-branch.next.items in
    let new : c.in_ok-add.field-0 ≡ (is_directory item.1.kind && not (seen item.1.inode)) = c.in_ok-add.ensures.new in
    let P = λ (d : ℕ). seen' d ≡ true in
    let before : All P next = All-weaker (λ (d : ℕ). seen d ≡ true) P (λ d s. added.grows.directories d s) next c.loop-name.invariant.left in
    let keeps : (d : ℕ) → Contains next d → Contains next' d = λ d h. elim c.if-branch.branch [
      | then-branch+in_ok-push-2 w ↦
          let pushed : next' ≡ next ++ item.1.inode ∷ [] = ap (λ (v : Vec ℕ Global). v.items) w.next-is ∙ w.in_ok-push-2.ensures.items in
          subst (λ l. Contains l d) (sym pushed) (Contains-append_left next (item.1.inode ∷ []) d h)
      | else-branch w ↦ subst (λ (v : Vec ℕ Global). Contains v.items d) (sym w.next-is) h
    ] in
    let gets : (is_directory item.1.kind && not (seen item.1.inode)) ≡ true → Contains next' item.1.inode = λ e. elim c.if-branch.branch [
      | then-branch+in_ok-push-2 w ↦
          let pushed : next' ≡ next ++ item.1.inode ∷ [] = ap (λ (v : Vec ℕ Global). v.items) w.next-is ∙ w.in_ok-push-2.ensures.items in
          subst (λ l. Contains l item.1.inode) (sym pushed) (Contains-push next item.1.inode)
      | else-branch w ↦ absurd (false≢true (sym w.if-branch.false ∙ new ∙ e))
    ] in
    record {
      links = links_added c.loop-name.tree c.add.new.self (entry directory c.deref.result.now) item.1 c.in_ok-add.ensures.names c.in_ok-add.ensures.links c.loop-name.invariant.links;
      named = named_added c.loop-name.tree c.add.new.self (entry directory c.deref.result.now) item.1 added.grows.names added.kept.0 c.in_ok-add.ensures.links c.loop-name.invariant.named;
      counts = counts_added c.loop-name.tree c.add.new.self (entry directory c.deref.result.now) item.1 c.in_ok-add.ensures.names c.in_ok-add.ensures.counts c.loop-name.invariant.counts;
      walked = added.walked;
      left = elim c.if-branch.branch [
        | then-branch+in_ok-push-2 w ↦
            let pushed : next' ≡ next ++ item.1.inode ∷ [] = ap (λ (v : Vec ℕ Global). v.items) w.next-is ∙ w.in_ok-push-2.ensures.items in
            let kind : item.1.kind ≡ Directory = is_kind item.1.kind (and_parts (is_directory item.1.kind) (not (seen item.1.inode)) (sym new ∙ w.if-branch.true)).0 in
            All-same P next' (next ++ item.1.inode ∷ []) pushed (All-push P next item.1.inode before (added.kept.1 kind))
        | else-branch w ↦ subst (λ (v : Vec ℕ Global). All P v.items) (sym w.next-is) before
      ];
      here = added.grows.directories directory c.loop-name.invariant.here;
      closed = λ d s. ⊎_elim
          (λ old. ⊎_elim
          (λ x. inl x)
          (λ y. inr (⊎_elim
          (λ x. inl (keeps d x))
          (λ x. inr (λ name to h. kept_grows found found' seen seen' (entry d name) to added.grows (x name to h)))
          y))
          (c.loop-name.invariant.closed d old))
          (λ x. inr (inl (subst (Contains next') (sym x.0) (gets x.1))))
          (added.down d s);
      kept =
          let K = λ (n : Vec ℕ Global × Binding). Kept found' seen' (entry directory n.0.items) n.1 in
          let mine : K item = subst (λ l. Kept found' seen' (entry directory l) item.1) c.deref.ensures.value added.kept in
          AllWithin-more K items 0 c.loop-name.name-index
          (λ k d lo hi. kept_grows found found' seen seen' (entry directory (get_or items k d).0.items) (get_or items k d).1 added.grows (c.loop-name.invariant.kept k d lo hi))
          (at_read items K c.loop-name.name-index item c.loop-name-test.true c.loop-name-item.is mine);
    }

pub loop-preserved : goal.loop-preserved
loop-preserved c =
    let names : Names = bound c.args.names.now in
    let directory = c.in-Some.directory in
    let found : Names = bound c.loop-name.tree.names in
    let seen : ℕ → Bool = has_directory c.loop-name.tree in
    let items : List (Vec ℕ Global × Binding) = c.deref-name-items.result.now in
    let K = λ (n : Vec ℕ Global × Binding). Kept found seen (entry directory n.0.items) n.1 in
    let all : All K items = All-from_all_within K items (AllWithin-upto K items 0 c.loop-name.name-index _ c.loop-name-test.false c.loop-name.invariant.kept) in
    let mine : Closed names found seen directory = λ name to h.
    let n = c.in_ok-names_in.ensures.all name to h in
    let kept : K n.0 = All-contains K items n.0 all (subst (λ (l : List (Vec ℕ Global × Binding)). Contains l n.0) (sym c.deref-name-items.ensures.value) n.1) in
    subst (λ b. Kept found seen (entry directory name) b) n.3 (subst (λ l. Kept found seen (entry directory l) n.0.1) n.2 kept) in
    record {
      links = c.loop-name.invariant.links;
      named = c.loop-name.invariant.named;
      counts = c.loop-name.invariant.counts;
      walked = c.loop-name.invariant.walked;
      left = c.loop-name.invariant.left;
      closed = λ d s. ⊎_elim (λ x. inr (subst (Closed names found seen) (sym x) mine)) (λ y. y) (c.loop-name.invariant.closed d s);
    }
