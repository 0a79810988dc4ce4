-- The directories on a path, one after another.
use Rattle.std.proofs.Common.{◌≡◌, ℕ, List, [], ◌∷◌, ◌++◌, Some, Err, IfOk, Ok, OnOk, Result, Vec, append_assoc, append-nil, ap, refl, subst, sym, ◌∙◌}
use Rattle.std.specs.Global.{Global}
use Rattle.blob_directory.specs.declared.edit.Binding.{Binding}
use Rattle.blob_directory.specs.Tables.{HasAll, HasOnly}
use Rattle.blob_directory.specs.Names.{Edit, Names, directory_at, entry}
use Rattle.blob_directory.specs.Paths.{IsPlace, Leads, LeadsTo, path_names}
use Rattle.blob_fs.specs.declared.file_system.FileSystem.{FileSystem}
use Rattle.blob_fs.specs.Calls.{Makes}
use Rattle.blob_fs.specs.Files.{names_of}
use Rattle.blob_fs.specs.Paths.{IsBound, Lists, MakesAt}

leads_more : (names : Names) (from : ℕ) (path : List (List ℕ)) (to : ℕ) (name : List ℕ) (d : ℕ) → Leads names from path to → names (entry to name) ≡ Some (directory_at d) → Leads names from (path ++ name ∷ []) d
leads_more names from [] to name d h is = (d, subst (λ (n : ℕ). names (entry n name) ≡ Some (directory_at d)) h is, refl)
leads_more names from (first ∷ path) to name d h is = (h.0, h.1, leads_more names h.0 path to name d h.2 is)

-- some names of a path lead to a directory, and these are left
pub record Walked (names : Names) (path : List ℕ) (directory : ℕ) (left : List (List ℕ)) : Type 0 where
  pub above : List (List ℕ)
  pub is : path_names path ≡ above ++ left
  pub leads : Leads names 1 above directory

pub walk_begins : (names : Names) (path : List ℕ) (left : List (List ℕ)) → path_names path ≡ left → Walked names path 1 left
walk_begins names path left is = record { above = []; is = is; leads = refl }

pub walked_more : (names : Names) (path : List ℕ) (directory d : ℕ) (name : List ℕ) (left : List (List ℕ)) → Walked names path directory (name ∷ left)
    → names (entry directory name) ≡ Some (directory_at d) → Walked names path d left
walked_more names path directory d name left w is = record {
  above = w.above ++ name ∷ [];
  is = w.is ∙ sym (append_assoc w.above (name ∷ []) left);
  leads = leads_more names 1 w.above directory name d w.leads is;
}

pub walked_on : (names : Names) (path : List ℕ) (directory : ℕ) (left left' : List (List ℕ)) → Walked names path directory left → left ≡ left' → Walked names path directory left'
walked_on names path directory left left' w same = subst (λ (l : List (List ℕ)). Walked names path directory l) same w

pub leads_to : (names : Names) (path : List ℕ) (directory : ℕ) (left : List (List ℕ)) → Walked names path directory left → left ≡ [] → LeadsTo names path directory
leads_to names path directory left w none =
    subst (λ (l : List (List ℕ)). Leads names 1 l directory) (sym (w.is ∙ ap (λ (l : List (List ℕ)). w.above ++ l) none ∙ append-nil w.above)) w.leads

pub is_place : (names : Names) (path : List ℕ) (directory : ℕ) (name : List ℕ) (left : List (List ℕ)) → Walked names path directory (name ∷ left) → left ≡ [] → IsPlace names path directory name
is_place names path directory name left w none = record { above = w.above; is = w.is ∙ ap (λ (l : List (List ℕ)). w.above ++ name ∷ l) none; leads = w.leads }

-- what a call by number made, at the place of a path
pub makes_at : {R T E : Type 0} (r : Result T E) (path : List ℕ) (edit : ℕ → List ℕ → Edit) (fs fs' : FileSystem R) (directory : ℕ) (name : List ℕ)
    → IsPlace (names_of fs) path directory name → OnOk r (Makes (edit directory name) fs fs') → OnOk r (MakesAt path edit fs fs')
makes_at (Ok x) path edit fs fs' directory name place made = record { directory = directory; name = name; place = place; made = made }
makes_at (Err e) path edit fs fs' directory name place made = tt

pub bound_at : {E : Type 0} (r : Result Binding E) (names : Names) (path : List ℕ) (directory : ℕ) (name : List ℕ) → IsPlace names path directory name
    → IfOk r (λ b. names (entry directory name) ≡ Some b) → IfOk r (λ b. IsBound names path b)
bound_at (Ok b) names path directory name place bound = record { directory = directory; name = name; place = place; bound = bound }
bound_at (Err e) names path directory name place bound = tt

pub lists_at : {E : Type 0} (r : Result (Vec (Vec ℕ Global × Binding) Global) E) (names : Names) (path : List ℕ) (directory : ℕ) → LeadsTo names path directory
    → IfOk r (λ v. HasOnly names directory v.items) → IfOk r (λ v. HasAll names directory v.items) → IfOk r (λ v. Lists names path v.items)
lists_at (Ok v) names path directory leads only all = record { directory = directory; leads = leads; only = only; all = all }
lists_at (Err e) names path directory leads only all = tt
