use Rattle.std.proofs.Common.{rules, ◌≡◌, ◌∙◌, sym, ap, take, length, [], ℕ, List, arith}
use Rattle.std.proofs.lemmas.List.{length-take-le, take-replicate}
use Rattle.blob_pending.specs.Contents.{bytes_of, zeros_in}
use Rattle.blob_pending.proofs.Zeros.{zeros_need}
use Rattle.blob_pending.proofs.content.Content.as_slice.Goals as goal

pub slice_bounds-result-end : goal.slice_bounds-result-end
slice_bounds-result-end c =
    let none : c.self.inside.held.items ≡ [] = search rules in
    let need : zeros_in c.args.self.now ≡ c.self.inside.len =
    ap zeros_in (sym c.self.view_is) ∙ ap (λ (held : List ℕ). zeros_in (bytes_of held c.self.inside.len)) none ∙ zeros_need c.self.inside.len in
    sym (length-take-le c.self.inside.len c.args.zeros.now (omega (arith, need, c.requires.enough)))

pub returns-then-is_empty : goal.returns-then-is_empty
returns-then-is_empty c =
    let len = c.self.inside.len in
    let none : c.self.inside.held.items ≡ [] = search rules in
    let need : zeros_in c.args.self.now ≡ len =
    ap zeros_in (sym c.self.view_is) ∙ ap (λ (held : List ℕ). zeros_in (bytes_of held len)) none ∙ zeros_need len in
    ap (λ (z : List ℕ). take len z) c.requires.zeros ∙ take-replicate len (length c.args.zeros.now) 0 (omega (arith, need, c.requires.enough))
    ∙ sym (sym c.self.view_is ∙ ap (λ (held : List ℕ). bytes_of held len) none)
