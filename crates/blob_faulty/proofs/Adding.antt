-- What a wrapper's calls add to the logs of the files that it represents.
use Rattle.std.proofs.Common.{◌≡◌, ◌≢◌, ℕ, ◌<◌, Bool, true, false, List, [], ◌∷◌, length, Option, Some, None, cond, refl, sym, ap, subst, arith}
use Rattle.std.specs.Prelude.{option_map}
use Rattle.blob_model.specs.Live.{is_idle}
use Rattle.blob_model.specs.Places.{Place, same_place}
use Rattle.blob_model.specs.Directory.{Directory}
use Rattle.blob_model.specs.Durable.{Durable, with_changed}
use Rattle.blob_model.specs.Bytes.{overlay, reach}
use Rattle.blob_model.specs.Files.{Files}
use Rattle.blob_model.specs.Log.{Loose, Kept}
use Rattle.blob_model.specs.declared.mode.PartialWriteMode.{PartialWriteMode}
use Rattle.blob_model.specs.Rates.{Rate}
use Rattle.blob_model.specs.Pending.{Pending}
use Rattle.blob_model.specs.Stands.{StandsFor}
use Rattle.blob_model.proofs.Bytes.{same_bytes, length-overlay_by, at_other}
use Rattle.blob_model.proofs.FileSteps.{stands_same}
use Rattle.blob_faulty.specs.declared.storage.Storage.{Storage}
use Rattle.blob_draws.specs.Changes.{loose}
use Rattle.blob_draws.specs.Recorded.{kept_entries}
use Rattle.blob_faulty.specs.Wrapper.{pending_of, KeepsRecords, Stands}

-- StandsFor at other numbers
pub numbered_so : (names : Directory) (bytes : Durable) (lists : Place → List Pending) (w w' m m' : ℕ) (f : Files) → w' ≡ w → m' ≡ m → StandsFor names bytes lists w m f → StandsFor names bytes lists w' m' f
numbered_so names bytes lists w w' m m' f e g s = subst (λ (n : ℕ). StandsFor names bytes lists n m' f) (sym e) (subst (λ (n : ℕ). StandsFor names bytes lists w n f) (sym g) s)

pub at_each : {bytes bytes' : Durable} → bytes' ≡ bytes → (a : Place) → bytes' a ≡ bytes a
at_each e a = ap (λ (g : Durable). g a) e

-- nothing is recorded
pub keeps_stands : {S R O : Type 0} (place : O → Place) (names names' : Directory) (bytes bytes' : Durable) (old new : Storage S R O) (files : Files) →
    names' ≡ names → bytes' ≡ bytes → KeepsRecords place old new → Stands place names bytes old files → Stands place names' bytes' new files
keeps_stands place names names' bytes bytes' old new files named same k s =
    numbered_so names' bytes' (pending_of place new) _ _ _ _ files k.numbers.next_write k.numbers.next_marker
    (stands_same names names' bytes bytes' (pending_of place old) (pending_of place new) _ _ files named (at_each same) k.pending s)

-- what is recorded of a write with bytes
pub kept_some : (o : ℕ) (b : List ℕ) → 0 < length b → kept_entries o b ≡ Kept o b ∷ []
kept_some o [] h = absurd (omega arith)
kept_some o (x ∷ b) h = refl

pub loose_some : (k : PartialWriteMode × Rate) (n o : ℕ) (b : List ℕ) → 0 < length b → loose (Some k) n o b ≡ Loose (record { number = n; offset = o; bytes = b; mode = k.0; rate = k.1 }) ∷ []
loose_some k n o [] h = absurd (omega arith)
loose_some k n o (x ∷ b) h = refl

pub bytes_some : (b : List ℕ) → 0 < length b → b ≢ []
bytes_some [] h = absurd (omega arith)
bytes_some (x ∷ b) h = λ e. cc

pub some_byte : (b : List ℕ) → b ≢ [] → 0 < length b
some_byte [] some = absurd (some refl)
some_byte (x ∷ b) some = omega arith

-- a write that has something to do
pub nothing_not : (sync : Bool) (b : List ℕ) → (sync ≡ true → b ≢ []) → is_idle sync b ≡ false
nothing_not true [] some = absurd (some refl refl)
nothing_not true (x ∷ b) some = refl
nothing_not false b some = refl

-- an empty range
pub nothing_changed : (f : Durable) (o : Place) (p : ℕ) (b : List ℕ) → length b ≡ 0 → f ≡ with_changed f o (λ x. overlay x p b)
nothing_changed f o p b none = sym (λ i a. push (same_place o a) (f a) i)
  where
    same : (x : List ℕ) → overlay x p b ≡ x
    same x = same_bytes _ _ (omega (arith, length-overlay_by x p b (λ _. true), ap (λ n. reach p n (λ _. true)) none)) (λ q. at_other x p b (λ _. true) q (λ l u. absurd (omega (arith, none, l, u))))

    at : (r : Option (List ℕ)) → option_map (λ x. overlay x p b) r ≡ r
    at None = refl
    at (Some x) = ap Some (same x)

    push : (t : Bool) (r : Option (List ℕ)) → cond t (option_map (λ x. overlay x p b) r) r ≡ r
    push true r = at r
    push false r = refl
