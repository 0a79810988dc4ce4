-- What is pending of a name's current incarnation is what its retirement takes.
use Rattle.std.proofs.Common.{◌≡◌, ℕ, Bool, cond, List, [], Option, Some, None, refl, ◌∙◌, ap}
use Rattle.blob_model.specs.Directory.{Directory, current}
use Rattle.blob_model.specs.Files.{is_removed_by}
use Rattle.blob_model.specs.Pending.{Pending}
use Rattle.blob_model.specs.Places.{Place}
use Rattle.blob_model.specs.Stands.{retire}
use Rattle.blob_pending.proofs.Removing.{is_place, is_current_place}

retired_at : (lists : Place → List Pending) (o : Option Place) (a : Place) → cond (is_place o a) [] (lists a) ≡ retire lists o a
retired_at lists None a = refl
retired_at lists (Some o) a = refl

pub admits_current : (d : Directory) (p n : List ℕ) (lists : Place → List Pending) (a : Place) → cond (is_removed_by d p (Some n) a) [] (lists a) ≡ retire lists (current d p n) a
admits_current d p n lists a = ap (λ (b : Bool). cond b [] (lists a)) (is_current_place d p n a) ∙ retired_at lists (current d p n) a
