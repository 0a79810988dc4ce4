-- Lists that are changed at one place, after capacity was reserved for it.
use Rattle.std.proofs.Common.{◌≡◌, List, cond, ◌∙◌, ap, ap₂}
use Rattle.blob_model.specs.Durable.{with_at}
use Rattle.blob_model.specs.Pending.{Pending}
use Rattle.blob_model.specs.Places.{Place, same_place}

pub after_room : (f g h : Place → List Pending) (p o : Place) (x : List Pending → List Pending) → ((a : Place) → g a ≡ f a) → ((a : Place) → h a ≡ with_at g p (x (g p)) a) → p ≡ o → (a : Place) → h a ≡ with_at f o (x (f o)) a
after_room f g h p o x room new here a =
    new a ∙ ap (λ (q : Place). cond (same_place q a) (x (g q)) (g a)) here ∙ ap₂ (λ (y : List Pending) (z : List Pending). cond (same_place o a) (x y) z) (room o) (room a)
