-- The bytes of a store are those of the files that its laboratory represents.
use Rattle.std.proofs.Common.{◌≡◌, ℕ, ◌==◌, ◌&&◌, true, List, [], ◌++◌, Option, Some, None, refl, ap, ◌∙◌, arith}
use Rattle.std.specs.Prelude.{unwrap_or, is_some}
use Rattle.blob_header.specs.Header.{data_start, region}
use Rattle.blob_model.specs.Directory.{Directory, File, Raw, Incarnation, is_current, is_that}
use Rattle.blob_model.specs.Files.{durable_at, log_of, raw_again}
use Rattle.blob_model.specs.Log.{Entry, durable_after}
use Rattle.blob_model.specs.Opening.{place_of}
use Rattle.blob_model.specs.Pending.{Pending}
use Rattle.blob_model.specs.Places.{Place}
use Rattle.blob_model.specs.Stands.{StandsAt}
use Rattle.blob_faulty.specs.Wrapper.{inner_of as store_of, pending_of}
use Rattle.blob_memory.specs.Laws.{currents}
use Rattle.blob_memory.specs.Listing.{raw_only}
use Rattle.blob_memory.specs.Store.{directory, durable, raw_blob}
use Rattle.blob_lab_model.specs.States.{State}
use Rattle.blob_lab_store.specs.LabStands.{Wrapper, Wraps}
use Rattle.blob_states.specs.Crashed.{durable_file, image_lines}
use Rattle.blob_states.specs.Recorded.{Name}

filled : (x : Option (List ℕ)) (list : List Pending) (base : List ℕ) (log : List Entry) → is_some x ≡ true → StandsAt x list base log → unwrap_or x [] ≡ durable_after base log
filled None list base log e s = cc
filled (Some bytes) list base log e s = s.durable

is_itself : (n m : ℕ) → ((n == n) && (m == m)) ≡ true
is_itself n m = grind arith

raw_is : (w : Wrapper) (v : State) → Wraps w v → (p n : List ℕ) → raw_blob (store_of w) p n ≡ durable_file v.files p n
raw_is w v wraps p n =
    by (names.file p n) refl ∙ ap (λ (d : Directory). raw_only (raw_again (durable_at v.files) p n (d.file p n))) wraps.files.directory
  where
    names : Directory
    names = directory (store_of w)

    by : (file : Option File) → names.file p n ≡ file
        → raw_only (raw_again (λ o. unwrap_or (durable (store_of w) o) []) p n file) ≡ raw_only (raw_again (durable_at v.files) p n file)
    by None e = refl
    by (Some (Raw bytes)) e = refl
    by (Some (Incarnation number layout version)) e =
        let o : Place = place_of p n number layout in
        let current : is_current names o ≡ true = ap (λ (x : Option File). is_that x number (data_start layout)) e ∙ is_itself number (data_start layout) in
        let bytes : unwrap_or (durable (store_of w) o) [] ≡ durable_at v.files o =
        filled (durable (store_of w) o) (pending_of (λ a. a) w o) (v.files.base o) (log_of v.files.log o) (currents (store_of w).contents o ∙ current) (wraps.files.at o) in
        ap (λ (b : List ℕ). Some (region layout version ++ b)) bytes

pub lines_are : (w : Wrapper) (v : State) → Wraps w v → (names : List Name) → image_lines (raw_blob (store_of w)) names ≡ image_lines (durable_file v.files) names
lines_are w v wraps names = λ i. image_lines (λ p n. raw_is w v wraps p n i) names
