use Rattle.std.proofs.Common.{ℕ, Vec, Global, ◌≡◌}
use Rattle.std.specs.Prelude.{vec_len}
use Rattle.std.specs.List.{AllZip, each_same}
use Rattle.blob_sessions.proofs.Copying.{seen_alike}
use Rattle.blob_sessions.proofs.forks.copied_names.Goals as goal

pub returns-clause-ok : goal.returns-clause-ok
returns-clause-ok c =
    seen_alike (λ (name : Vec ℕ Global). name.items) (λ v w. AllZip (λ x y. y ≡ x) v.items w.items × (vec_len w ≡ vec_len v)) (λ v w e. each_same v.items w.items e.0)
    c.args.names.now.items c.in_ok-clone.field-0.items c.in_ok-clone.ensures.cases.0
