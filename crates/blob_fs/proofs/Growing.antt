-- Lists of edits that grow, by what calls returned.
use Rattle.std.proofs.Common.{◌≡◌, List, [], ◌∷◌, ◌++◌, Some, false, ap₂, subst, sym, ◌∙◌}
use Rattle.std.specs.Prelude.{Err, IfOk, Ok, OnErr, OnOk, Result}
use Rattle.blob_directory.specs.Names.{Edit}
use Rattle.blob_directory.specs.Records.{Found}
use Rattle.blob_journal.specs.Told.{Grows}
use Rattle.blob_journal.proofs.Growing.{grows_added, grows_same}

-- no edit was told
pub grows_kept : (a b : List Found) → b ≡ a → Grows a b
grows_kept a b same = subst (λ (l : List Found). Grows a l) (sym same) (grows_same a)

pub grows_then : (a b c : List Found) → Grows a b → c ≡ b → Grows a c
grows_then a b c g same = subst (λ (l : List Found). Grows a l) (sym same) g

pub grows_from : (a b c : List Found) → b ≡ a → Grows b c → Grows a c
grows_from a b c same g = subst (λ (l : List Found). Grows l c) same g

-- one was, if the call returned Ok
pub grows_made : {T E : Type 0} (r : Result T E) (a b : List Found) (f : Found) → OnOk r (b ≡ a ++ f ∷ []) → OnErr r (b ≡ a) → Grows a b
grows_made (Ok x) a b f made kept = subst (λ (l : List Found). Grows a l) (sym made) (grows_added a (f ∷ []))
grows_made (Err e) a b f made kept = grows_kept a b kept

pub grows_by : {T E : Type 0} (r : Result T E) (a b : List Found) (f : T → Found) → IfOk r (λ x. b ≡ a ++ f x ∷ []) → OnErr r (b ≡ a) → Grows a b
grows_by (Ok x) a b f made kept = subst (λ (l : List Found). Grows a l) (sym made) (grows_added a (f x ∷ []))
grows_by (Err e) a b f made kept = grows_kept a b kept

-- the same edit was told
pub told_as : (a b c : List Found) (e f : Edit) → e ≡ f → b ≡ a → c ≡ b ++ Some (e, false) ∷ [] → c ≡ a ++ Some (f, false) ∷ []
told_as a b c e f same before added = added ∙ ap₂ (λ (l : List Found) (x : Edit). l ++ Some (x, false) ∷ []) before same
