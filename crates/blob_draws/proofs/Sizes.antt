-- The tracked size of a handle that doesn't find its blob missing stays the length of its live bytes.
use Rattle.std.proofs.Common.{◌≡◌, ℕ, ◌+◌, max, Bool, true, false, List, [], ◌∷◌, length, Option, Some, None, refl, sym, ◌∙◌, ap, arith}
use Rattle.rand_core.specs.Stream.{Stream}
use Rattle.blob_model.specs.Bytes.{resize, write_live}
use Rattle.blob_model.specs.Live.{all_written}
use Rattle.blob_header.specs.Refusals.{Refusal, BlobMissing, Injected}
use Rattle.blob_model.specs.Runs.{Run, runs}
use Rattle.blob_model.proofs.Bytes.{length-overlay_by, length-resized, reach_all}
use Rattle.blob_draws.specs.declared.config.Config.{Config}
use Rattle.blob_model.specs.declared.mode.PartialWriteMode.{PartialWriteMode}
use Rattle.blob_model.specs.Rates.{Rate}
use Rattle.blob_draws.specs.Faults.{WriteFate, Done, Unsynced, Failed, ResizeFate, Resizes, Reaches, write_fate, retention}
use Rattle.blob_draws.specs.Changes.{size_of_runs, write_changes}
use Rattle.blob_draws.specs.Recorded.{live_of_write, live_of_resize, size_of_write, size_of_resize}

abbrev IsFound : Option Refusal → Type 0
IsFound answer = (p n : List ℕ) → answer ≡ Some (BlobMissing p n) → ⊥

-- a write grows bytes to its end
pub length-written : (x : List ℕ) (o : ℕ) (b : List ℕ) → length (write_live x o b) ≡ max (length x) (o + length b)
length-written x o [] = length-overlay_by (resize x (max (length x) o)) o [] (λ _. true) ∙ omega (arith, length-resized x (max (length x) o))
length-written x o (b ∷ bs) =
    length-overlay_by (resize x (max (length x) o)) o (b ∷ bs) (λ _. true)
    ∙ omega (arith, length-resized x (max (length x) o), reach_all o (length (b ∷ bs)) (omega arith))

write_sized : (size : ℕ) (live : List ℕ) (o : ℕ) (b : List ℕ) → size ≡ length live → max size (o + length b) ≡ length (write_live live o b)
write_sized size live o b e = ap (λ k. max k (o + length b)) e ∙ sym (length-written live o b)

runs_sized : (size : ℕ) (live : List ℕ) (rs : List Run) → size ≡ length live → size_of_runs size rs ≡ length (all_written live rs)
runs_sized size live [] e = e
runs_sized size live (r ∷ rs) e = runs_sized (max size (r.0 + length r.1)) (write_live live r.0 r.1) rs (write_sized size live r.0 r.1 e)

changes_sized : (fate : WriteFate) (retained : Option (PartialWriteMode × Rate)) (sync : Bool) (size : ℕ) (live : List ℕ) (o : ℕ) (b : List ℕ) (answer : Option Refusal) → IsFound answer → size ≡ length live →
    (write_changes fate retained sync o b answer).size size ≡ length ((write_changes fate retained sync o b answer).live live)
changes_sized Done retained true size live o b None found e = write_sized size live o b e
changes_sized Done retained false size live o b None found e = write_sized size live o b e
changes_sized Done retained true size live o b (Some (BlobMissing p n)) found e = absurd (found p n refl)
changes_sized Unsynced retained sync size live o b (Some Injected) found e = write_sized size live o b e
changes_sized (Failed chosen) retained sync size live o b (Some Injected) found e = runs_sized size live (runs o b chosen) e
changes_sized (Failed chosen) retained sync size live o b (Some (BlobMissing p n)) found e = absurd (found p n refl)
changes_sized fate retained true size live o b answer found e = e
changes_sized fate retained false size live o b answer found e = e

pub sized_after_write : (config : Config) (stream : Stream) (sync : Bool) (size : ℕ) (live : List ℕ) (o : ℕ) (b : List ℕ) (answer : Option Refusal) → IsFound answer → size ≡ length live →
    size_of_write config stream sync size o b answer ≡ length (live_of_write config stream sync live o b answer)
sized_after_write config stream sync size live o b answer found e = changes_sized (write_fate config sync o b stream).0 (retention config.write_rate) sync size live o b answer found e

pub sized_after_resize : (fate : ResizeFate) (size : ℕ) (live : List ℕ) (len : ℕ) (answer : Option Refusal) → size ≡ length live → size_of_resize fate size len answer ≡ length (live_of_resize fate live len answer)
sized_after_resize (Resizes survives) size live len None e = sym (length-resized live len)
sized_after_resize (Reaches reached) size live len (Some Injected) e = sym (length-resized live reached)
sized_after_resize fate size live len answer e = e
