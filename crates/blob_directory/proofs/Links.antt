-- The files that a tree counts.
use Rattle.std.proofs.Common.{◌≡◌, ℕ, List, Bool, true, false, ◌&&◌, not, Some, nat_eq, refl, sym, ap, ap₂, ◌∙◌, ⊎_elim, if◌then◌else◌}
use Rattle.std.specs.Str.{bytes_eq}
use Rattle.std.proofs.lemmas.Bool.{and_parts, eq-eqb, eqb-true, false≢true, or_cases, or_left, or_right}
use Rattle.blob_directory.specs.declared.edit.Binding.{Binding}
use Rattle.blob_directory.specs.declared.edit.Kind.{Kind}
use Rattle.blob_directory.specs.declared.edit.Kind.TheVariants.{File, Directory}
use Rattle.blob_directory.specs.declared.tree.Tree.{Tree}
use Rattle.blob_directory.specs.Names.{Same, changed, file}
use Rattle.blob_directory.specs.Tables.{bound}
use Rattle.blob_directory.specs.Trees.{HasLinks, HasNamedLinks, added, has_directory, has_link, is_directory, links_then}

same_binding : (to : Binding) (i : ℕ) → Some to ≡ Some (file i) → to ≡ file i
same_binding to i e = cc

-- one more name
pub links_added : (tree tree' : Tree) (e : List ℕ) (to : Binding) → Same (bound tree'.names) (added tree e to) → ((i : ℕ) → has_link tree' i ≡ links_then tree to i) → HasLinks tree → HasLinks tree'
links_added tree tree' e to same links h = λ x i is. links i ∙ at x i (is_directory to.kind && has_directory tree to.inode) (sym (same x) ∙ is)
  where
    mine : (i : ℕ) → to ≡ file i → links_then tree to i ≡ true
    mine i one = or_right (has_link tree i) _ (ap (λ (b : Binding). not (is_directory b.kind) && nat_eq b.inode i) one ∙ eq-eqb i i refl)

    over : (x : List ℕ) (i : ℕ) (c : Bool) → (if c then Some to else bound tree.names x) ≡ Some (file i) → links_then tree to i ≡ true
    over x i true is = mine i (same_binding to i is)
    over x i false is = or_left (has_link tree i) _ (h x i is)

    at : (x : List ℕ) (i : ℕ) (b : Bool) → (if b then bound tree.names else changed (bound tree.names) (e, Some to)) x ≡ Some (file i) → links_then tree to i ≡ true
    at x i true is = or_left (has_link tree i) _ (h x i is)
    at x i false is = over x i (bytes_eq e x) is

file_kind : (k : Kind) → not (is_directory k) ≡ true → k ≡ File
file_kind File e = refl
file_kind Directory e = absurd (false≢true e)

file_of : (to : Binding) (i : ℕ) → to.kind ≡ File → to.inode ≡ i → to ≡ file i
file_of to i k n = ap₂ (λ (x : ℕ) (y : Kind). record { inode = x; kind = y }) n k

-- a file that one more name counts is bound to it, or had a name before
pub named_added : (tree tree' : Tree) (e : List ℕ) (to : Binding)
    → ((x : List ℕ) (t : Binding) → bound tree.names x ≡ Some t → bound tree'.names x ≡ Some t) → (to.kind ≡ File → bound tree'.names e ≡ Some to)
    → ((i : ℕ) → has_link tree' i ≡ links_then tree to i) → HasNamedLinks tree → HasNamedLinks tree'
named_added tree tree' e to grows here links h = λ i is. ⊎_elim
    (λ y. let old = h i y in (old.0, grows old.0 (file i) old.1))
    (λ y.
    let parts = and_parts (not (is_directory to.kind)) (nat_eq to.inode i) y in
    let kind = file_kind to.kind parts.0 in
    (e, here kind ∙ ap Some (file_of to i kind (eqb-true to.inode i parts.1))))
    (or_cases (has_link tree i) (not (is_directory to.kind) && nat_eq to.inode i) (sym (links i) ∙ is))
