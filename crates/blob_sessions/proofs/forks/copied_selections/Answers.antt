use Rattle.std.proofs.Common.{ℕ, Bool, List, Vec, Global, ◌≡◌, ◌∙◌, map, ap, ap₂}
use Rattle.std.specs.Prelude.{vec_len}
use Rattle.std.specs.List.{AllZip, each_same}
use Rattle.blob_draws.specs.Rows.{row_in}
use Rattle.blob_sessions.proofs.Copying.{seen_alike}
use Rattle.blob_sessions.proofs.forks.copied_selections.Goals as goal

-- a clone of a row
abbrev CopiesRow : ℕ × Vec Bool Global → ℕ × Vec Bool Global → Type 0
CopiesRow v w = (w.0 ≡ v.0) × (AllZip (λ x y. y ≡ x) v.1.items w.1.items × (vec_len w.1 ≡ vec_len v.1))

pub returns-clause-ok : goal.returns-clause-ok
returns-clause-ok c =
    let rows = λ (items : List (ℕ × Vec Bool Global)). map row_in items in
    ap rows c.new.ensures
    ∙ seen_alike row_in CopiesRow (λ v w e. ap₂ (λ (n : ℕ) (choices : List Bool). (n, choices)) e.0 (each_same v.1.items w.1.items e.1.0)) c.rows.result.now c.in_ok-to_vec.field-0.items c.in_ok-to_vec.ensures.ok
    ∙ ap rows c.rows.ensures
