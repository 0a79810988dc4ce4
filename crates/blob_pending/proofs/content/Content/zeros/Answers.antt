use Rattle.std.proofs.Common.{rules, ◌≡◌, ◌∙◌, sym, ap, [], ℕ, List}
use Rattle.blob_pending.specs.Contents.{bytes_of, zeros_in}
use Rattle.blob_pending.proofs.Zeros.{zeros_need}
use Rattle.blob_pending.proofs.content.Content.zeros.Goals as goal

pub returns-then-is_empty : goal.returns-then-is_empty
returns-then-is_empty c =
    let none : c.self.inside.held.items ≡ [] = search rules in
    sym (ap zeros_in (sym c.self.view_is) ∙ ap (λ (held : List ℕ). zeros_in (bytes_of held c.self.inside.len)) none ∙ zeros_need c.self.inside.len)
