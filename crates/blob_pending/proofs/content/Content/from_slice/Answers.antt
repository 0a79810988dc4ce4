use Rattle.std.proofs.Common.{rules, ◌≡◌, ◌∙◌, sym, ap, length, [], ℕ, List}
use Rattle.blob_pending.specs.Contents.{bytes_of}
use Rattle.blob_pending.proofs.Zeros.{held_whole, zeros_of}
use Rattle.blob_pending.proofs.content.Content.from_slice.Goals.{then-may_be_zeros+then-is_of_zeros, else-may_be_zeros+in_ok-held}
use Rattle.blob_pending.proofs.content.Content.from_slice.Goals as goal

pub returns : goal.returns
returns c =
    let bytes = c.args.bytes.now in
    elim c.if-may_be_zeros.branch [
      | then-may_be_zeros+then-is_of_zeros w ↦
          let none : c.if-may_be_zeros.held.items ≡ [] = search rules in
          ap (λ (held : List ℕ). bytes_of held (length bytes)) none ∙ zeros_of bytes (sym w.is_of_zeros.ensures ∙ w.if-is_of_zeros.true)
      | else-may_be_zeros+in_ok-held w ↦
          let all : c.if-may_be_zeros.held.items ≡ bytes = search rules in
          ap (λ (held : List ℕ). bytes_of held (length bytes)) all ∙ held_whole bytes
    ]
