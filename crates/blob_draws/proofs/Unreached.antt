-- What writes and resizes that don't reach a byte record, and leave of live bytes and the tracked size.
use Rattle.std.proofs.Common.{◌≡◌, ℕ, ◌+◌, ◌-◌, ◌<◌, ◌≤◌, min, max, ◌&&◌, ◌||◌, List, [], ◌∷◌, Bool, true, false, Option, Some, None, refl, ap, length, take, arith, nat_lt, nat_le}
use Rattle.std.proofs.lemmas.Bool.{leb-false, lt-leb, cond_both, or_parts}
use Rattle.rand_core.specs.Stream.{Stream}
use Rattle.blob_model.specs.Bytes.{lies, write_live}
use Rattle.blob_model.specs.Live.{all_written}
use Rattle.blob_model.specs.declared.mode.PartialWriteMode.{PartialWriteMode}
use Rattle.blob_model.specs.Persistence.{HasByte, any_touches}
use Rattle.blob_model.specs.Rates.{Rate, sample}
use Rattle.blob_header.specs.Refusals.{Refusal, Injected, BlobMissing}
use Rattle.blob_model.specs.Runs.{Run, runs, kept_runs}
use Rattle.blob_model.proofs.Persistence.{runs_untouched, has_written, has_runs, has_resized}
use Rattle.blob_draws.specs.declared.config.Config.{Config}
use Rattle.blob_draws.specs.declared.config.ResizeConfig.{ResizeConfig}
use Rattle.blob_draws.specs.Faults.{WriteFate, Done, Unsynced, Failed, ResizeFate, Resizes, Stays, Reaches, write_fate, retention, resize_fate, partly}
use Rattle.blob_draws.specs.Changes.{loose, size_of_runs, write_changes, resize_changes}
use Rattle.blob_draws.specs.Recorded.{recorded_write, live_of_write, live_of_resize, size_of_write, size_of_resize}

-- What a write records lies within its range.

module _ (p offset : ℕ) (bytes : List ℕ) (out : lies offset (length bytes) p ≡ false) where
  loose_out : (retained : Option (PartialWriteMode × Rate)) (number : ℕ) → any_touches p (loose retained number offset bytes) ≡ false
  loose_out retained number = by_bytes bytes out where
    by_bytes : (x : List ℕ) → lies offset (length x) p ≡ false → any_touches p (loose retained number offset x) ≡ false
    by_bytes [] o = refl
    by_bytes (y ∷ ys) o = by_kept retained where
      by_kept : (r : Option (PartialWriteMode × Rate)) → any_touches p (loose r number offset (y ∷ ys)) ≡ false
      by_kept None = refl
      by_kept (Some r) = ap (λ (t : Bool). t || false) o

  changes_out : (fate : WriteFate) (retained : Option (PartialWriteMode × Rate)) (number : ℕ) (sync : Bool) (answer : Option Refusal) → any_touches p ((write_changes fate retained sync offset bytes answer).entries number) ≡ false
  changes_out Done retained number true None = ap (λ (t : Bool). t || false) out
  changes_out Done retained number true (Some (BlobMissing q n)) = refl
  changes_out Done retained number false None = loose_out retained number
  changes_out Unsynced retained number sync (Some Injected) = loose_out retained number
  changes_out (Failed chosen) retained number sync (Some Injected) = runs_untouched p offset bytes chosen out
  changes_out (Failed chosen) retained number sync (Some (BlobMissing q n)) = refl
  changes_out fate retained number true answer = refl
  changes_out fate retained number false answer = refl

  pub write_out : (config : Config) (number : ℕ) (stream : Stream) (sync : Bool) (answer : Option Refusal) → any_touches p (recorded_write config number stream sync offset bytes answer) ≡ false
  write_out config number stream sync answer = changes_out (write_fate config sync offset bytes stream).0 (retention config.write_rate) number sync answer

-- Live bytes and the tracked size of a write that doesn't hold it.

first_has : (p v : ℕ) (live : List ℕ) (rs : List Run) → any_touches p (kept_runs rs) ≡ false → HasByte p v live → HasByte p v (all_written live (take 1 rs))
first_has p v live [] out has = has
first_has p v live (r ∷ rs) out has = has_written live p v r.0 r.1 (or_parts (lies r.0 (length r.1) p) (any_touches p (kept_runs rs)) out).0 has

module _ (p v offset : ℕ) (bytes : List ℕ) (out : lies offset (length bytes) p ≡ false) (live : List ℕ) (has : HasByte p v live) where
  there : HasByte p v (write_live live offset bytes)
  there = has_written live p v offset bytes out has

  changes_have : (fate : WriteFate) (retained : Option (PartialWriteMode × Rate)) (sync : Bool) (answer : Option Refusal) → HasByte p v ((write_changes fate retained sync offset bytes answer).live live)
  changes_have Done retained true None = there
  changes_have Done retained true (Some (BlobMissing q n)) = there
  changes_have Done retained false None = there
  changes_have Unsynced retained sync (Some Injected) = there
  changes_have (Failed chosen) retained sync (Some Injected) = has_runs live p v offset bytes chosen out has
  changes_have (Failed chosen) retained sync (Some (BlobMissing q n)) = first_has p v live (runs offset bytes chosen) (runs_untouched p offset bytes chosen out) has
  changes_have fate retained true answer = has
  changes_have fate retained false answer = has

  pub write_has : (config : Config) (stream : Stream) (sync : Bool) (answer : Option Refusal) → HasByte p v (live_of_write config stream sync live offset bytes answer)
  write_has config stream sync answer = changes_have (write_fate config sync offset bytes stream).0 (retention config.write_rate) sync answer

runs_grow : (size : ℕ) (rs : List Run) → size ≤ size_of_runs size rs
runs_grow size [] = omega arith
runs_grow size (r ∷ rs) = omega (arith, runs_grow (max size (r.0 + length r.1)) rs)

changes_grow : (fate : WriteFate) (retained : Option (PartialWriteMode × Rate)) (sync : Bool) (size offset : ℕ) (bytes : List ℕ) (answer : Option Refusal) → size ≤ (write_changes fate retained sync offset bytes answer).size size
changes_grow Done retained true size offset bytes None = omega arith
changes_grow Done retained false size offset bytes None = omega arith
changes_grow Unsynced retained sync size offset bytes (Some Injected) = omega arith
changes_grow (Failed chosen) retained sync size offset bytes (Some Injected) = runs_grow size (runs offset bytes chosen)
changes_grow (Failed chosen) retained sync size offset bytes (Some (BlobMissing q n)) = omega arith
changes_grow Done retained true size offset bytes (Some (BlobMissing q n)) = omega arith
changes_grow fate retained true size offset bytes answer = omega arith
changes_grow fate retained false size offset bytes answer = omega arith

pub write_grows : (config : Config) (stream : Stream) (sync : Bool) (size offset : ℕ) (bytes : List ℕ) (answer : Option Refusal) → size ≤ size_of_write config stream sync size offset bytes answer
write_grows config stream sync size offset bytes answer = changes_grow (write_fate config sync offset bytes stream).0 (retention config.write_rate) sync size offset bytes answer

-- A resize that fails reaches a size above the lesser of the two.

abbrev pub IsAbove : ℕ → ResizeFate → Type 0
IsAbove low (Resizes survives) = Unit {0}
IsAbove low Stays = Unit {0}
IsAbove low (Reaches size) = low < size

pub reached_above : (rate : Option ResizeConfig) (size len : ℕ) (stream : Stream) → IsAbove (min size len) (resize_fate rate size len stream).0
reached_above None size len stream = tt
reached_above (Some c) size len stream =
    let d = sample c.failure_rate stream in
    cond_both d.0 (partly size len (sample c.partial_rate d.1)) (Resizes (sample c.failure_rate d.1).0, (sample c.failure_rate d.1).1) (λ r. IsAbove (min size len) r.0)
    (λ _. part (sample c.partial_rate d.1)) (λ _. tt)
  where
    part : (d : Bool × Stream) → IsAbove (min size len) (partly size len d).0
    part d = cond_both {A = ResizeFate × Stream} (d.0 && nat_lt 1 (max size len - min size len)) _ (Stays, d.1) (λ r. IsAbove (min size len) r.0) (λ _. omega arith) (λ _. tt)

module _ (p len low : ℕ) (out : nat_le len p ≡ false) (below : p < low) where
  pub resize_out : (fate : ResizeFate) (answer : Option Refusal) (number : ℕ) → IsAbove low fate → any_touches p ((resize_changes fate len answer).entries number) ≡ false
  resize_out (Resizes true) None number above = ap (λ (t : Bool). t || false) out
  resize_out (Resizes false) None number above = refl
  resize_out (Reaches size) (Some Injected) number above = ap (λ (t : Bool). t || false) (lt-leb size p (omega arith))
  resize_out (Resizes survives) (Some refusal) number above = refl
  resize_out fate answer number above = refl

  pub resize_has : (fate : ResizeFate) (v : ℕ) (live : List ℕ) (answer : Option Refusal) → IsAbove low fate → HasByte p v live → HasByte p v (live_of_resize fate live len answer)
  resize_has (Resizes survives) v live None above has = has_resized live p v len out has
  resize_has (Reaches size) v live (Some Injected) above has = has_resized live p v size (lt-leb size p (omega arith)) has
  resize_has fate v live answer above has = has

  pub resize_counts : (fate : ResizeFate) (size : ℕ) (answer : Option Refusal) → IsAbove low fate → p < size → p < size_of_resize fate size len answer
  resize_counts (Resizes survives) size None above counts = leb-false len p out
  resize_counts (Reaches reached) size (Some Injected) above counts = omega arith
  resize_counts fate size answer above counts = counts
