use Rattle.std.proofs.Common.{◌≡◌, ◌∙◌, sym, ap, ap₂, ◌&&◌, Bool, List, ℕ, take, drop}
use Rattle.std.proofs.lemmas.List.{drop-drop}
use Rattle.blob_pending.specs.Contents.{are_zeros}
use Rattle.blob_pending.proofs.Zeros.{joined}
use Rattle.blob_pending.proofs.content.has_32_zeros.Goals as goal

pub returns : goal.returns
returns c =
    let i = c.args.at in
    let bytes = c.args.bytes.now in
    let rest = drop i bytes in
    let first : (c.has_8_zeros.result && c.has_8_zeros-2.result) ≡ are_zeros (take 16 rest) =
    ap₂ (λ (x y : Bool). x && y) c.has_8_zeros.ensures (c.has_8_zeros-2.ensures ∙ ap (λ (ys : List ℕ). are_zeros (take 8 ys)) (sym (drop-drop 8 i bytes))) ∙ sym (joined 8 8 rest) in
    let second : (c.has_8_zeros-3.result && c.has_8_zeros-4.result) ≡ are_zeros (take 16 (drop 16 rest)) =
    ap₂ (λ (x y : Bool). x && y) (c.has_8_zeros-3.ensures ∙ ap (λ (ys : List ℕ). are_zeros (take 8 ys)) (sym (drop-drop 16 i bytes)))
    (c.has_8_zeros-4.ensures ∙ ap (λ (ys : List ℕ). are_zeros (take 8 ys)) (sym (drop-drop 24 i bytes) ∙ sym (drop-drop 8 16 rest))) ∙ sym (joined 8 8 (drop 16 rest)) in
    ap₂ (λ (x y : Bool). x && y) first second ∙ sym (joined 16 16 rest)
