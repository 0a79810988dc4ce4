-- Records that fit, front and back.
use Rattle.std.proofs.Common.{◌≡◌, ℕ, suc, ◌+◌, List, [], ◌∷◌, ◌++◌, Bool, length, subst, arith}
use Rattle.blob_packed.specs.Records.{FitFrom, Record}

same_number : (m n : ℕ) (records : List Record) → m ≡ n → FitFrom m records → FitFrom n records
same_number m n records is fit = subst (λ (k : ℕ). FitFrom k records) is fit

pub fit_append : (m n : ℕ) (before rest : List Record) → m ≡ n + length before → FitFrom n before → FitFrom m rest → FitFrom n (before ++ rest)
fit_append m n [] rest is fit also = same_number m n rest (omega arith) also
fit_append m n (r ∷ before) rest is fit also = (fit.0, fit.1, fit_append m (suc n) before rest (omega arith) fit.2 also)

pub fit_before : (n : ℕ) (before rest : List Record) → FitFrom n (before ++ rest) → FitFrom n before
fit_before n [] rest fit = tt
fit_before n (r ∷ before) rest fit = (fit.0, fit.1, fit_before (suc n) before rest fit.2)

pub fit_behind : (m n : ℕ) (before rest : List Record) → m ≡ n + length before → FitFrom n (before ++ rest) → FitFrom m rest
fit_behind m n [] rest is fit = same_number n m rest (omega arith) fit
fit_behind m n (r ∷ before) rest is fit = fit_behind m (suc n) before rest (omega arith) fit.2

-- a record that is written again fits as before
pub fit_again : (n : ℕ) (before after : List Record) (bytes : List ℕ) (was is : Bool) → FitFrom n (before ++ (bytes, was) ∷ after) → FitFrom n (before ++ (bytes, is) ∷ after)
fit_again n [] after bytes was is fit = fit
fit_again n (r ∷ before) after bytes was is fit = (fit.0, fit.1, fit_again (suc n) before after bytes was is fit.2)
