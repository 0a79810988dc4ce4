use Rattle.std.proofs.Common.{arith, ◌≡◌, ◌++◌, ◌∷◌, ◌+◌, ℕ, List, [], take, sym, ap, ◌∙◌}
use Rattle.std.specs.Prelude.{String, Vec}
use Rattle.std.specs.Global.{Global}
use Rattle.std.proofs.lemmas.List.{map-append, take_more}
use Rattle.blob_script.specs.Preambles.{Image, images_of}
use Rattle.blob_distinct.specs.Images.{image_of}
use Rattle.blob_distinct.proofs.images.copies.Goals as goal

images_more : (xs all new : List (String Global × Vec ℕ Global × Vec ℕ Global)) (x y : String Global × Vec ℕ Global × Vec ℕ Global) (i : ℕ)
    → images_of all ≡ images_of (take i xs) → new ≡ all ++ y ∷ [] → image_of y ≡ image_of x → take (i + 1) xs ≡ take i xs ++ x ∷ [] → images_of new ≡ images_of (take (i + 1) xs)
images_more xs all new x y i before now same more =
    ap images_of now ∙ map-append image_of all (y ∷ []) ∙ ap (λ (is : List Image). is ++ image_of y ∷ []) before ∙ ap (λ (im : Image). images_of (take i xs) ++ im ∷ []) same
    ∙ sym (ap images_of more ∙ map-append image_of (take i xs) (x ∷ []))

pub loop-image-preserved : goal.loop-image-preserved
loop-image-preserved c =
    let all = c.args.images.now in
    let i = c.loop-image.image-index in
    let more : take (i + 1) all ≡ take i all ++ c.image-item.result ∷ [] = take_more all i c.image-item.result (omega arith) ∙ ap (λ x. take i all ++ x ∷ []) (sym c.image-item.is) in
    images_more all c.loop-image.all.items c.push.new.self.items c.image-item.result c.in_ok-copy.copy i c.loop-image.invariant c.in_ok-push.ensures.items c.in_ok-copy.ensures.ok more
