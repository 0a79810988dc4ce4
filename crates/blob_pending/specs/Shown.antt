-- The lists as contracts see them: without the index.
use Rattle.std.specs.Prelude.{ℕ, List, Some}
use Rattle.blob_model.specs.Directory.{Directory}
use Rattle.blob_model.specs.Places.{Place}
use Rattle.blob_pending.specs.Lists.{RetiresRemoved}
use Rattle.blob_pending.specs.declared.lists.Distinct.{Distinct}

pub record Shown (O : Type 0) : Type 0 where
  pub all : Distinct O

-- nothing is pending of the name's current incarnation, and of the others the same
abbrev pub RetiresCurrent : {O : Type 0} → (O → Place) → Directory → List ℕ → List ℕ → Distinct O → Distinct O → Type 0
RetiresCurrent place d p n old new = RetiresRemoved place d p (Some n) old.lists.items new.lists.items
