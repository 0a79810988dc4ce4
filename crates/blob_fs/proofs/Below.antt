-- The directories above one, step by step.
use Rattle.std.proofs.Common.{◌≡◌, ◌<◌, ◌+◌, ◌-◌, ◌==◌, ℕ, zero, suc, List, Option, None, Some, ap, subst, sym, ◌∙◌, arith}
use Rattle.std.specs.Prelude.{◌≢◌, if◌then◌else◌, option_and_then}
use Rattle.std.proofs.lemmas.Bool.{cases_order, cond-false, ne_eqb}
use Rattle.std.proofs.Math.Logic.{⊎_elim}
use Rattle.std.specs.BTreeMap.{BTreeMap, get}
use Rattle.std.specs.Ordering.{nat_cmp}
use Rattle.blob_directory.specs.declared.edit.Binding.{Binding}
use Rattle.blob_directory.specs.declared.edit.Kind.TheVariants.{Directory}
use Rattle.blob_directory.specs.declared.table.Table.{Table}
use Rattle.blob_directory.specs.Names.{entry}
use Rattle.blob_directory.specs.Tables.{bound}
use Rattle.blob_fs.specs.declared.file_system.FileSystem.{FileSystem}
use Rattle.blob_fs.specs.Files.{KeepsNames, SameDirectories, names_of}
use Rattle.blob_fs.specs.Below.{IsNotBelow, StaysApart, StaysOutside, above, parent_in}

some_same : {x y : ℕ} → Some x ≡ Some y → x ≡ y
some_same e = cc

none_some : {x : ℕ} → ◌≡◌ {A = Option ℕ} None (Some x) → ⊥
none_some e = cc

module _ (map : BTreeMap ℕ ℕ) (inode directory : ℕ) where
  -- none of the first steps leads to the inode
  abbrev pub NoneBefore : ℕ → Type 0
  NoneBefore n = (steps : ℕ) → steps < n → above map steps directory ≢ Some inode

  next_is : (n : ℕ) → suc n ≡ n + 1
  next_is n = omega arith

  step : (n at : ℕ) (found : Option ℕ) → above map n directory ≡ Some at → get nat_cmp map at ≡ found
      → above map (suc n) directory ≡ option_and_then (λ up. if up == 1 then None else Some up) found
  step n at found here is = ap (option_and_then (parent_in map)) here ∙ ap (option_and_then (λ (x : ℕ). if x == 1 then None else Some x)) is

  pub above_next : (n at up : ℕ) → above map n directory ≡ Some at → get nat_cmp map at ≡ Some up → up ≢ 1 → above map (n + 1) directory ≡ Some up
  above_next n at up here is low =
      subst (λ (m : ℕ). above map m directory ≡ Some up) (next_is n) (step n at (Some up) here is ∙ cond-false (up == 1) None (Some up) (ne_eqb up 1 low))

  -- the root is reached, or there is no directory above
  pub above_root : (n at up : ℕ) → above map n directory ≡ Some at → get nat_cmp map at ≡ Some up → up ≡ 1 → above map (suc n) directory ≡ None
  above_root n at up here is root = step n at (Some up) here is ∙ ap (λ (x : ℕ). if x == 1 then None else Some x) root

  pub above_none : (n at : ℕ) → above map n directory ≡ Some at → get nat_cmp map at ≡ None → above map (suc n) directory ≡ None
  above_none n at here is = step n at None here is

  ended : (n k : ℕ) → above map n directory ≡ None → above map (n + k) directory ≡ None
  ended n zero none = subst (λ (m : ℕ). above map m directory ≡ None) (let e : n ≡ n + 0 = omega arith in e) none
  ended n (suc k) none =
      subst (λ (m : ℕ). above map m directory ≡ None) (let e : suc (n + k) ≡ n + suc k = omega arith in e) (ap (option_and_then (parent_in map)) (ended n k none))

  other : (n at : ℕ) → above map n directory ≡ Some at → at ≢ inode → above map n directory ≢ Some inode
  other n at here differ e = differ (some_same (sym here ∙ e))

  pub none_next : (n at : ℕ) → NoneBefore n → above map n directory ≡ Some at → at ≢ inode → NoneBefore (n + 1)
  none_next n at none here differ steps low = ⊎_elim
      (λ e. subst (λ (m : ℕ). above map m directory ≢ Some inode) (sym e) (other n at here differ))
      (λ x. ⊎_elim (λ less. none steps less) (λ more. absurd (omega (arith, low, more))) x)
      (cases_order steps n)

  -- beyond the end there is none
  pub none_at_all : (n at : ℕ) → NoneBefore n → above map n directory ≡ Some at → at ≢ inode → above map (suc n) directory ≡ None → (steps : ℕ) → above map steps directory ≢ Some inode
  none_at_all n at none here differ end steps = ⊎_elim
      (λ e. subst (λ (m : ℕ). above map m directory ≢ Some inode) (sym e) (other n at here differ))
      (λ x. ⊎_elim (λ less. none steps less)
      (λ more. let past : steps ≡ suc n + (steps - suc n) = omega (arith, more) in
      λ e. none_some (sym (ended (suc n) (steps - suc n) end) ∙ subst (λ (m : ℕ). above map m directory ≡ Some inode) past e)) x)
      (cases_order steps n)

one_binding : {x y : Binding} → Some x ≡ Some y → x ≡ y
one_binding e = cc

-- by a call that has changed neither names nor directories
pub stays_apart : {R : Type 0} (fs one : FileSystem R) (from : ℕ) (old : List ℕ) (to : ℕ) (moved : Binding) → names_of one (entry from old) ≡ Some moved → KeepsNames fs one → SameDirectories fs one
    → (moved.kind ≡ Directory → IsNotBelow one moved.inode to) → StaysApart fs from old to
stays_apart fs one from old to moved is names same apart other there kind =
    let e : moved ≡ other = one_binding (sym is ∙ ap (λ (t : Table). bound t (entry from old)) names ∙ there) in
    subst (λ (m : BTreeMap ℕ ℕ). StaysOutside m other.inode to) same
    (subst (λ (b : Binding). IsNotBelow one b.inode to) e (apart (subst (λ (b : Binding). b.kind ≡ Directory) (sym e) kind)))
