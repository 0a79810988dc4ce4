-- Steps of the runs of a failed write.
use Rattle.std.proofs.Common.{◌≡◌, ℕ, suc, ◌≤◌, Bool, true, false, List, [], ◌∷◌, ◌++◌, map, All, Some, None, refl, sym, ◌∙◌, ap, arith}
use Rattle.std.specs.Prelude.{Result, Ok, Err, OnOk, is_err}
use Rattle.std.proofs.lemmas.Bool.{false≢true}
use Rattle.std.proofs.lemmas.List.{reverse-append}
use Rattle.blob_header.specs.declared.error.Error.{Error}
use Rattle.blob_header.specs.Refusals.{Refusal, error_of, refusal_of}
use Rattle.blob_model.specs.Runs.{Run}
use Rattle.blob_faulty.specs.declared.write_runs.Piece.{Piece}
use Rattle.blob_faulty.specs.Pieces.{run_of, runs_in, EndsWithin}

-- what a call ensures, by its answer
pub ok_holds : {T E P : Type 0} (r : Result T E) → is_err r ≡ false → OnOk r P → P
ok_holds (Ok x) n h = h
ok_holds (Err e) n h = absurd (false≢true (sym n))

pub is_refused : {T : Type 0} (r : Result T Error) → is_err r ≡ true → (x : Refusal) × (error_of r ≡ Some x)
is_refused (Ok x) y = absurd (false≢true y)
is_refused (Err e) y = (refusal_of e, refl)

pub is_done : {T : Type 0} (r : Result T Error) → is_err r ≡ false → error_of r ≡ None
is_done (Ok x) n = refl
is_done (Err e) n = absurd (false≢true (sym n))

pub not_stale : (b : Bool) → (b ≡ false → ⊥) → b ≡ true
not_stale true h = refl
not_stale false h = absurd (h refl)

-- the last piece is the next run
pub popped : (old new : List Piece) (x : Piece) → old ≡ new ++ x ∷ [] → runs_in old ≡ run_of x ∷ runs_in new
popped old new x e = ap runs_in e ∙ ap (map run_of) (reverse-append new (x ∷ []))

pub later_within : (a b : ℕ) (r : Run) (rs : List Run) → a ≤ b → All (EndsWithin a) (r ∷ rs) → All (EndsWithin b) rs
later_within a b r rs le all k d h = omega (arith, all (suc k) d (omega (arith, h)))

pub first_within : (a : ℕ) (r : Run) (rs : List Run) → All (EndsWithin a) (r ∷ rs) → EndsWithin a r
first_within a r rs all = all 0 r (omega arith)
