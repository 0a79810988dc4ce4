-- A worked run: a SYNC write over an earlier pending one, and a crash that keeps all.
use Rattle.std.proofs.Common.{◌≡◌, ℕ, List, [], ◌∷◌, true, false, Some, None, refl}
use Rattle.std.specs.Prelude.{codes}
use Rattle.hex.specs.Hex.{encode_lower}
use Rattle.blob_model.specs.Bytes.{overlay_by, resize}
use Rattle.blob_header.specs.Checksum.{crc32c, low_bits, with_bit}
use Rattle.blob_model.specs.Draws.{front}
use Rattle.blob_header.specs.Header.{region}
use Rattle.blob_header.specs.Parse.{page_tests}
use Rattle.blob_model.specs.Rates.{sample}
use Rattle.blob_header.specs.Refusals.{BlobAlreadyOpen}
use Rattle.blob_header.specs.Resolve.{resolution, is_torn}
use Rattle.blob_draws.specs.declared.config.Config.{Config}
use Rattle.blob_model.specs.declared.mode.PartialWriteMode.TheVariants.{Prefix}
use Rattle.blob_script.specs.Acts.{Act, Open, Configure, Through, Read, Write, Sync, Crash, Reopen}
use Rattle.blob_lab_model.specs.After.{after_act}
use Rattle.blob_lab_model.specs.Answers.{answer}
use Rattle.blob_lab_model.specs.Scripted.{scripted_stream, only}
use Rattle.blob_script.specs.Settings.{no_rates}
use Rattle.blob_lab_model.specs.States.{State, start}
use Rattle.blob_script.specs.Told as told

abbrev partition : List ℕ
partition = codes "p"

abbrev name : List ℕ
name = 98 ∷ []

abbrev opens : Act
opens = Open partition name (Some (0, 0))

abbrev retaining : Config
retaining = record no_rates { write_rate = Some (record { failure_rate = record { numerator = 0; denominator = 1 }; retention_rate = record { numerator = 1; denominator = 1 }; mode = Prefix }) }

abbrev done : State → Act → State
done v act = after_act v act None (scripted_stream ([], None))

abbrev opened : State
opened = done (done (start [] (only []) no_rates) (Configure retaining)) opens

-- the first open creates the blob
first_open : (answer (start [] (only []) no_rates) opens).0 ≡ told.Opened 0 0 0
first_open = refl

-- a second one fails
second_open : (answer opened opens).0 ≡ told.Failed (BlobAlreadyOpen partition (encode_lower name))
second_open = refl

abbrev written : State
written = done (done (done opened (Through 0 Sync)) (Through 0 (Write 0 (97 ∷ 98 ∷ 99 ∷ []) false))) (Through 0 (Write 1 (88 ∷ []) true))

-- the handle reads both writes
live_read : (answer written (Through 0 (Read 0 3))).0 ≡ told.Bytes (97 ∷ 88 ∷ 99 ∷ [])
unfolding overlay_by resize sample
live_read = refl

-- the pending write is drawn, with one choice per byte
crash_draws : (answer written Crash).0 ≡ told.Crashed ((0, true ∷ true ∷ true ∷ []) ∷ [])
unfolding front sample
crash_draws = refl

-- after the crash, the SYNC write is on top
crash_leaves : (answer (done (done (done written Crash) Reopen) opens) (Through 1 (Read 0 3))).0 ≡ told.Bytes (97 ∷ 88 ∷ 99 ∷ [])
unfolding front sample overlay_by resize resolution region is_torn page_tests crc32c low_bits with_bit
crash_leaves = refl
