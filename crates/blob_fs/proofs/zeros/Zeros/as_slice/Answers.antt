use Rattle.std.proofs.Common.{◌≤◌, ℕ, length, replicate, ap, subst, sym, ◌∙◌}
use Rattle.std.proofs.lemmas.List.{length-replicate, length-take-le, take-replicate}
use Rattle.blob_fs.specs.Zeros.{bytes_of, IsReady}
use Rattle.blob_fs.proofs.zeros.Zeros.as_slice.Goals as goal

-- as many of some zeros
front : (n size : ℕ) → n ≤ size → n ≤ length (replicate {A = ℕ} size 0)
front n size fits = subst (λ (k : ℕ). n ≤ k) (sym (length-replicate {A = ℕ} size 0)) fits

pub slice_bounds-result-end : goal.slice_bounds-result-end
slice_bounds-result-end c =
    sym (length-take-le c.in-Ready.count (replicate {A = ℕ} 1048576 0) (front c.in-Ready.count 1048576 (subst IsReady c.in-Ready.is c.self.invariant)))

pub returns-in-Ready : goal.returns-in-Ready
returns-in-Ready c =
    take-replicate {X = ℕ} c.in-Ready.count 1048576 0 (subst IsReady c.in-Ready.is c.self.invariant)
    ∙ ap bytes_of (sym c.in-Ready.is) ∙ c.self.view_is
