-- How many names a file has, while names are added.
use Rattle.std.proofs.Common.{◌≡◌, ◌+◌, ◌&&◌, ◌++◌, ◌⊎◌, ℕ, List, [], ◌∷◌, Bool, true, false, not, None, Some, nat_eq, refl, sym, ap, subst, ◌∙◌, inl, inr, ⊎_elim, arith, add-zero, length-append, if◌then◌else◌}
use Rattle.std.specs.Cmp.Lexicographic.{bytes_decides}
use Rattle.std.specs.List.{Contains}
use Rattle.std.specs.Str.{bytes_eq}
use Rattle.std.proofs.lemmas.Bool.{eq-eqb, false≢true}
use Rattle.std.proofs.lemmas.List.Elements.{Contains-append_left, Contains-push}
use Rattle.blob_directory.specs.declared.edit.Binding.{Binding}
use Rattle.blob_directory.specs.declared.tree.Tree.{Tree}
use Rattle.blob_directory.specs.Counts.{CountsNames, NamedAtMost, count_then, link_count}
use Rattle.blob_directory.specs.Names.{Names, Same, changed, file}
use Rattle.blob_directory.specs.Tables.{bound}
use Rattle.blob_directory.specs.Trees.{added, has_directory, is_directory}

unbound : (to : Binding) → None ≡ Some to → ⊥
unbound to e = cc

-- no name
pub named_nowhere : (names : Names) → Same names (λ _. None) → (i n : ℕ) → NamedAtMost names i n
named_nowhere names none i n = record {
  entries = [];
  few = omega arith;
  each = λ e is. absurd (unbound (file i) (sym (none e) ∙ is));
}

same_binding : (to : Binding) (i : ℕ) → Some to ≡ Some (file i) → to ≡ file i
same_binding to i e = cc

-- one more name, unless it's a second one of a directory
module _ (names names' : Names) (e : List ℕ) (to : Binding) (again : Bool) (same : Same names' (if again then names else changed names (e, Some to))) (i : ℕ) where
  over : (x : List ℕ) (c : Bool) → bytes_eq e x ≡ c → (if c then Some to else names x) ≡ Some (file i) → ((e ≡ x) × (to ≡ file i)) ⊎ (names x ≡ Some (file i))
  over x true y is = inl ((bytes_decides e x).0 y, same_binding to i is)
  over x false n is = inr is

  at : (x : List ℕ) (b : Bool) → (if b then names else changed names (e, Some to)) x ≡ Some (file i) → ((e ≡ x) × (to ≡ file i)) ⊎ (names x ≡ Some (file i))
  at x true is = inr is
  at x false is = over x (bytes_eq e x) refl is

  new_or_old : (x : List ℕ) → names' x ≡ Some (file i) → ((e ≡ x) × (to ≡ file i)) ⊎ (names x ≡ Some (file i))
  new_or_old x is = at x again (sym (same x) ∙ is)

  one_more : (n : ℕ) → NamedAtMost names i n → NamedAtMost names' i (n + 1)
  one_more n old = record {
    entries = old.entries ++ e ∷ [];
    few = omega (arith, length-append old.entries (e ∷ []), old.few);
    each = λ x is. ⊎_elim
        (λ y. subst (Contains (old.entries ++ e ∷ [])) y.0 (Contains-push old.entries e))
        (λ y. Contains-append_left old.entries (e ∷ []) x (old.each x y))
        (new_or_old x is);
  }

  no_more : (n : ℕ) → (to ≡ file i → ⊥) → NamedAtMost names i n → NamedAtMost names' i n
  no_more n other old = record {
    entries = old.entries;
    few = old.few;
    each = λ x is. ⊎_elim (λ y. absurd (other y.1)) (λ y. old.each x y) (new_or_old x is);
  }

  pub named_then : (n : ℕ) (b : Bool) → (not (is_directory to.kind) && nat_eq to.inode i) ≡ b → NamedAtMost names i n → NamedAtMost names' i (n + (if b then 1 else 0))
  named_then n true _ old = one_more n old
  named_then n false off old = rw add-zero (no_more n (λ one. false≢true (sym off ∙ ap (λ (t : Binding). not (is_directory t.kind) && nat_eq t.inode i) one ∙ eq-eqb i i refl)) old)

pub counts_added : (tree tree' : Tree) (e : List ℕ) (to : Binding)
    → Same (bound tree'.names) (added tree e to) → ((i : ℕ) → link_count tree' i ≡ count_then tree to i) → CountsNames tree → CountsNames tree'
counts_added tree tree' e to same counts h = λ i.
    subst (NamedAtMost (bound tree'.names) i) (sym (counts i))
    (named_then (bound tree.names) (bound tree'.names) e to (is_directory to.kind && has_directory tree to.inode) same i (link_count tree i)
    (not (is_directory to.kind) && nat_eq to.inode i) refl (h i))
