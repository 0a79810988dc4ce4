use Rattle.std.proofs.Common.{ℕ, ◌∷◌, List, take, drop, ap, ap₂, sym, ◌∙◌, arith}
use Rattle.blob_directory.specs.Paths.{path_names}
use Rattle.blob_directory.proofs.Paths.{Begins, first, none}
use Rattle.blob_directory.proofs.path.first_name.Goals as goal

pub returns-then-is_empty-clause-none : goal.returns-then-is_empty-clause-none
returns-then-is_empty-clause-none c =
    none c.args.path.now c.split_at.result.1.now (c.split_at.ensures.back ∙ ap (λ (n : ℕ). drop n c.args.path.now) c.slashes_before.ensures.value) c.if-is_empty.ensures

pub returns-clause-names : goal.returns-clause-names
returns-clause-names c =
    let left : List ℕ = c.split_at.result.1.now in
    let begins : Begins c.args.path.now left = first c.args.path.now left (c.split_at.ensures.back ∙ ap (λ (n : ℕ). drop n c.args.path.now) c.slashes_before.ensures.value) c.if-is_empty.ensures in
    begins.names ∙ sym (ap₂ (λ (x : List ℕ) (l : List ℕ). x ∷ path_names l)
    (c.split_at-2.ensures.front ∙ ap (λ (n : ℕ). take n left) c.length_before_slash.ensures.value)
    (c.split_at-2.ensures.back ∙ ap (λ (n : ℕ). drop n left) c.length_before_slash.ensures.value))

pub returns-clause-shorter : goal.returns-clause-shorter
returns-clause-shorter c =
    let left : List ℕ = c.split_at.result.1.now in
    let begins : Begins c.args.path.now left = first c.args.path.now left (c.split_at.ensures.back ∙ ap (λ (n : ℕ). drop n c.args.path.now) c.slashes_before.ensures.value) c.if-is_empty.ensures in
    omega (arith, begins.some, c.split_at.ensures.back_len, c.split_at-2.ensures.back_len, c.length_before_slash.ensures.value)
