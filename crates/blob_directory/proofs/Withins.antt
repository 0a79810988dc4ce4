-- Names of which each binding is one of some other names.
use Rattle.std.proofs.Common.{◌≡◌, ℕ, None, List, ◌++◌, true, Some, sym, ap, ◌∙◌, ⊎_elim, length, drop, take, nat_eq}
use Rattle.std.specs.Cmp.Lexicographic.{pointwise}
use Rattle.std.proofs.lemmas.Bool.{cases_Bool, cond-true, cond-false}
use Rattle.std.proofs.lemmas.List.{take-append-drop}
use Rattle.std.specs.Cmp.Lexicographic.{bytes_decides, same_text}
use Rattle.std.specs.Str.{bytes_eq}
use Rattle.blob_directory.specs.declared.edit.Binding.{Binding}
use Rattle.blob_directory.specs.Names.{Names, Reached, Root, Below, Same, Within, changed, entry}

-- one more binding, which the other names have, in a directory that the root reaches
pub within_changed : (a b names : Names) (d : ℕ) (name : List ℕ) (to : Binding)
    → Same b (changed a (entry d name, Some to)) → names (entry d name) ≡ Some to → Reached names d → Within a names → Within b names
within_changed a b names d name to same has there within =
    λ e t h. ⊎_elim
    (λ y.
    let key : entry d name ≡ e = (bytes_decides (entry d name) e).0 y in
    let found : Some to ≡ Some t = sym (cond-true (bytes_eq (entry d name) e) (Some to) (a e) y) ∙ sym (same e) ∙ h in
    (ap names (sym key) ∙ has ∙ found, record { directory = d; name = name; is = sym key; reached = there }))
    (λ n. within e t (sym (cond-false (bytes_eq (entry d name) e) (Some to) (a e) n) ∙ sym (same e) ∙ h))
    (cases_Bool (bytes_eq (entry d name) e))

pub reached_same : (a b : Names) (d : ℕ) → Same a b → Reached a d → Reached b d
reached_same a b _ same Root = Root
reached_same a b _ same (Below d name i there has) = Below d name i (reached_same a b d same there) (sym (same (entry d name)) ∙ has)

-- the same of names that bind the same
pub within_same : (names a b : Names) → Same a b → Within names a → Within names b
within_same names a b same within =
    λ e t h.
    let was = within e t h in
    (sym (same e) ∙ was.0, record { directory = was.1.directory; name = was.1.name; is = was.1.is; reached = reached_same a b was.1.directory same was.1.reached })

-- what a prefix is cut off
pub prefixed : (start key rest : List ℕ) → pointwise nat_eq (take (length start) key) start ≡ true → rest ≡ drop (length start) key → start ++ rest ≡ key
prefixed start key rest e r =
    ap (λ l. l ++ rest) (sym (same_text (take (length start) key) start (sym e)))
    ∙ ap (λ l. take (length start) key ++ l) r
    ∙ take-append-drop (length start) key

clash : {T : Type 0} (t : T) → None ≡ Some t → ⊥
clash t e = cc

-- names that bind nothing
pub nothing_within : (a b : Names) → Same a (λ _. None) → Within a b
nothing_within a b none = λ e t h. absurd (clash t (sym (none e) ∙ h))
