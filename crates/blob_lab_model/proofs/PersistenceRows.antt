-- Worked examples of fixed bytes: those next to a write that a crash keeps in part, and why opens must be exclusive.
use Rattle.std.proofs.Common.{◌≡◌, ◌≤◌, ◌<◌, ℕ, List, [], ◌∷◌, true, false, Some, None, refl, arith}
use Rattle.std.specs.Prelude.{codes}
use Rattle.rand_core.specs.Steps.{stream_of}
use Rattle.rand_core.specs.Stream.{next_u64}
use Rattle.blob_model.specs.Bytes.{overlay_by, resize}
use Rattle.blob_model.specs.Draws.{front}
use Rattle.blob_model.specs.Rates.{sample}
use Rattle.blob_header.specs.Refusals.{Injected}
use Rattle.blob_draws.specs.declared.config.Config.{Config}
use Rattle.blob_model.specs.declared.mode.PartialWriteMode.TheVariants.{Prefix}
use Rattle.blob_script.specs.Acts.{Act, Open, OpenLoose, Configure, Close, Through, Read, Write, Resize, Sync, StartSync, Crash, Remove}
use Rattle.blob_lab_model.specs.After.{after_act}
use Rattle.blob_lab_model.specs.Answers.{answer}
use Rattle.blob_lab_model.specs.Fixed.{Byte, reaches, Fixes, HasDurably}
use Rattle.blob_script.specs.Settings.{no_rates}
use Rattle.blob_lab_model.specs.Scripted.{only}
use Rattle.blob_lab_model.specs.States.{State, start}
use Rattle.blob_script.specs.Told as told

abbrev partition : List ℕ
partition = codes "p"

abbrev name : List ℕ
name = 98 ∷ []

abbrev byte : ℕ → ℕ → Byte
byte position value = record { partition = partition; name = name; position = position; value = value }

abbrev opens : Act
opens = Open partition name (Some (0, 0))

-- a crash keeps a prefix of an unsynced write, with rate 1/2 per byte
abbrev halving : Config
halving = record no_rates { write_rate = Some (record { failure_rate = record { numerator = 0; denominator = 1 }; retention_rate = record { numerator = 1; denominator = 2 }; mode = Prefix }) }

-- a state after a call that returns Ok
abbrev done : State → Act → State
done v act = after_act v act None (answer v act).1

-- Bytes that stay.

abbrev written : State
written = done (done (start [] (only (0 ∷ 18446744073709551615 ∷ [])) no_rates) opens) (Through 0 (Write 0 (97 ∷ 98 ∷ 99 ∷ []) false))

-- a sync fixes the live bytes
sync_fixes : Fixes written (Through 0 Sync) None (byte 0 97)
unfolding overlay_by resize
sync_fixes = (refl, (omega arith, refl))

-- so does a started sync if its outcome is Ok, before it is finished
start_fixes : Fixes written (Through 0 StartSync) None (byte 0 97)
unfolding overlay_by resize
start_fixes = (refl, refl, (omega arith, refl))

-- but no byte past their end
none_past_the_end : Fixes written (Through 0 Sync) None (byte 3 0) → ⊥
unfolding overlay_by resize
none_past_the_end fixes = let low : 3 < 3 = fixes.1.0 in omega arith

abbrev synced : State
synced = done (done written (Through 0 Sync)) (Configure halving)

-- a write touches the bytes of its range regardless of its result, and a resize those from its length on
write_reaches : reaches synced (Through 0 (Write 1 (88 ∷ 89 ∷ []) false)) None (byte 1 98) ≡ true
write_reaches = refl

write_beside : reaches synced (Through 0 (Write 1 (88 ∷ 89 ∷ []) false)) None (byte 0 97) ≡ false
write_beside = refl

resize_reaches : reaches synced (Through 0 (Resize 1)) None (byte 1 98) ≡ true
resize_reaches = refl

resize_above : reaches synced (Through 0 (Resize 1)) None (byte 0 97) ≡ false
resize_above = refl

failed_write_reaches : reaches synced (Through 0 (Write 1 (88 ∷ 89 ∷ []) false)) (Some Injected) (byte 1 98) ≡ true
failed_write_reaches = refl

-- a removal touches all bytes if it returns Ok
removal_reaches : reaches synced (Remove partition None) None (byte 0 97) ≡ true
removal_reaches = refl

failed_removal_reaches_none : reaches synced (Remove partition None) (Some Injected) (byte 0 97) ≡ false
failed_removal_reaches_none = refl

-- a stale handle touches none
stale_reaches_none : reaches (done (done synced (Remove partition (Some name))) opens) (Through 0 (Write 0 (88 ∷ []) false)) None (byte 0 97) ≡ false
stale_reaches_none = refl

abbrev loosened : State
loosened = done synced (Through 0 (Write 1 (88 ∷ 89 ∷ []) false))

-- a SYNC write fixes its own bytes, and not the zeros before them
sync_write_fixes : Fixes loosened (Through 0 (Write 4 (90 ∷ []) true)) None (byte 4 90)
unfolding sample
sync_write_fixes = (refl, omega arith, (omega arith, refl))

gap_isn't_fixed : Fixes loosened (Through 0 (Write 4 (90 ∷ []) true)) None (byte 3 0) → ⊥
gap_isn't_fixed fixes = let low : 4 ≤ 3 = fixes.1 in omega arith

-- the crash keeps one byte of the pending write, and the fixed bytes stay
abbrev kept : State
kept = done (done (done (done loosened (Through 0 (Write 4 (90 ∷ []) true))) Crash) (Close 0)) opens

reads : (answer kept (Through 1 (Read 0 5))).0 ≡ told.Bytes (97 ∷ 88 ∷ 99 ∷ 0 ∷ 90 ∷ [])
unfolding overlay_by resize front sample next_u64 stream_of
reads = refl

-- an open fixes all durable bytes that it finds
open_fixes : Fixes (done (done (done loosened (Through 0 (Write 4 (90 ∷ []) true))) Crash) (Close 0)) opens None (byte 1 88)
unfolding overlay_by resize front sample next_u64 stream_of
open_fixes = (refl, (omega arith, refl))

-- Why opens must be exclusive: a sync through another handle changes a byte that a SYNC write fixed, and no call
-- touched it.

abbrev first : State
first = done (done (done (start [] (only []) no_rates) opens) (Through 0 (Write 0 (97 ∷ []) false))) (Through 0 Sync)

abbrev both : State
both = done first (OpenLoose partition name (Some (0, 0)))

second_fixes : Fixes both (Through 1 (Write 0 (98 ∷ []) true)) None (byte 0 98)
second_fixes = (refl, omega arith, (omega arith, refl))

abbrev fixed : State
fixed = done both (Through 1 (Write 0 (98 ∷ []) true))

sync_reaches_none : reaches fixed (Through 0 Sync) None (byte 0 98) ≡ false
sync_reaches_none = refl

changed_all_the_same : HasDurably (done fixed (Through 0 Sync)).files (byte 0 97)
unfolding overlay_by resize
changed_all_the_same = (omega arith, refl)
