-- Links of the files that a recovery opens again.
use Rattle.std.proofs.Common.{◌≡◌, ◌⊎◌, ℕ, false, true, List, [], ◌∷◌, cond, inl, inr, ⊎_elim, Option, None, Some, sym, ap, subst, ◌∙◌, if◌then◌else◌}
use Rattle.std.specs.Prelude.{unwrap_or}
use Rattle.std.specs.BTreeMap.{BTreeMap, get, is_at}
use Rattle.std.specs.Map.{lookup}
use Rattle.std.specs.Ordering.{is_eq, nat_cmp}
use Rattle.std.proofs.lemmas.Bool.{cases_Bool, cond-false, cond-true}
use Rattle.blob_directory.specs.declared.tree.Tree.{Tree}
use Rattle.blob_directory.specs.Counts.{CountsNames, NamedAtMost, link_count}
use Rattle.blob_directory.specs.Tables.{bound}
use Rattle.blob_fs.specs.declared.file_system.File.{File}
use Rattle.blob_fs.specs.Named.{AllNamed, CountsLinks, links_in}
use Rattle.blob_fs.proofs.Recovering.{Ascend, ascend_parts, key_apart, key_is, key_self, none_after}

none_some : {A : Type 0} {x : A} → ◌≡◌ {A = Option A} None (Some x) → ⊥
none_some e = cc

-- each file is among those that are left, or has the links that the tree counts
abbrev pub CountsAllBut : Tree → List (ℕ × ℕ) → BTreeMap ℕ File → Type 0
CountsAllBut tree rest files = (i : ℕ)
    → ((lookup (is_at (nat_cmp i)) rest ≡ get nat_cmp tree.links i) × (get nat_cmp files i ≡ None))
    ⊎ ((lookup (is_at (nat_cmp i)) rest ≡ None) × (links_in (get nat_cmp files i) ≡ link_count tree i))

-- one more file
module _ (tree : Tree) (k links : ℕ) (rest : List (ℕ × ℕ)) (sorted : Ascend ((k, links) ∷ rest)) (before after : BTreeMap ℕ File) (file : File)
    (added : (q : ℕ) → get nat_cmp after q ≡ cond (is_eq (nat_cmp k q)) (Some file) (get nat_cmp before q)) (has : file.links ≡ links) (there : file.is_gone ≡ false) where
  first : (i : ℕ) → is_eq (nat_cmp i k) ≡ true → lookup (is_at (nat_cmp i)) ((k, links) ∷ rest) ≡ Some links
  first i y = cond-true (is_eq (nat_cmp i k)) (Some links) (lookup (is_at (nat_cmp i)) rest) y

  later : (i : ℕ) → is_eq (nat_cmp i k) ≡ false → lookup (is_at (nat_cmp i)) ((k, links) ∷ rest) ≡ lookup (is_at (nat_cmp i)) rest
  later i n = cond-false (is_eq (nat_cmp i k)) (Some links) (lookup (is_at (nat_cmp i)) rest) n

  others : (i : ℕ) → is_eq (nat_cmp i k) ≡ false → get nat_cmp after i ≡ get nat_cmp before i
  others i n = added i ∙ cond-false (is_eq (nat_cmp k i)) (Some file) (get nat_cmp before i) (key_apart i k n)

  here : (i : ℕ) → i ≡ k → links_in (get nat_cmp after i) ≡ links
  here i e =
      let self : is_eq (nat_cmp k i) ≡ true = ap (λ (x : ℕ). is_eq (nat_cmp k x)) e ∙ key_self k in
      ap links_in (added i ∙ cond-true (is_eq (nat_cmp k i)) (Some file) (get nat_cmp before i) self) ∙ ap (λ b. if b then 0 else file.links) there ∙ has

  none_left : (i : ℕ) → i ≡ k → lookup (is_at (nat_cmp i)) rest ≡ None
  none_left i e = ap (λ (x : ℕ). lookup (is_at (nat_cmp x)) rest) e ∙ none_after k rest (ascend_parts (k, links) rest sorted).0

  pub counts_more : CountsAllBut tree ((k, links) ∷ rest) before → CountsAllBut tree rest after
  counts_more h i = ⊎_elim
      (λ y. let e : i ≡ k = key_is i k y in
      inr (
        none_left i e,
        here i e ∙ ⊎_elim
            (λ w. sym (ap (λ o. unwrap_or o 0) (sym w.0 ∙ first i y)))
            (λ w. absurd (none_some (sym w.0 ∙ first i y)))
            (h i),
      ))
      (λ n. ⊎_elim
      (λ w. inl (sym (later i n) ∙ w.0, others i n ∙ w.1))
      (λ w. inr (sym (later i n) ∙ w.0, ap links_in (others i n) ∙ w.1))
      (h i))
      (cases_Bool (is_eq (nat_cmp i k)))

-- none is left
pub counts_all : (tree : Tree) (files : BTreeMap ℕ File) → CountsAllBut tree [] files → CountsLinks tree files
counts_all tree files h i = ⊎_elim (λ w. ap links_in w.1 ∙ ap (λ o. unwrap_or o 0) w.0) (λ w. w.1) (h i)

-- then no file has more names than links
pub all_named : (tree : Tree) (files : BTreeMap ℕ File) → CountsNames tree → CountsLinks tree files → AllNamed (bound tree.names) files
all_named tree files names links = λ i. subst (NamedAtMost (bound tree.names) i) (sym (links i)) (names i)
