-- The raw and the logical bytes of a name's file.
use Rattle.std.proofs.Common.{◌≡◌, ℕ, ◌<◌, ◌≤◌, ◌^◌, ◌∙◌, ⊎_elim, true, cond, List, ◌++◌, length, drop, get_or, Option, Some, None, Result, Ok, Err, refl, sym, ap, arith, length-append}
use Rattle.std.specs.Prelude.{option_map}
use Rattle.std.proofs.lemmas.Bool.{lt-ltb, le-leb, and_from, false≢true}
use Rattle.blob_header.specs.declared.error.Error.{Error}
use Rattle.blob_header.specs.declared.version.BlobVersion.{BlobVersion}
use Rattle.blob_header.specs.declared.layout.Layout.{Layout}
use Rattle.blob_header.specs.Header.{data_start, region}
use Rattle.blob_header.specs.HeaderLaws.{HasHeader}
use Rattle.blob_header.specs.Parse.{Accepted, Failure, VersionMismatch, every_layout}
use Rattle.blob_header.specs.Versions.{is_in_range}
use Rattle.blob_header.specs.Resolve.{resolution, refusing, AnswersAs}
use Rattle.blob_header.specs.Refusals.{Refusal}
use Rattle.blob_header.proofs.Headers.{has_header}
use Rattle.blob_header.proofs.NoneSide.{length_region}
use Rattle.blob_model.proofs.RawFiles.{drop_region}
use Rattle.blob_header.proofs.Reopening.{reopens, reopened_all}
use Rattle.blob_memory.specs.declared.contents.Contents.{Contents}
use Rattle.blob_memory.specs.declared.item.Item.{Item}
use Rattle.blob_memory.specs.declared.item.Item.TheVariants.{Raw, Held}
use Rattle.blob_memory.specs.Contents.{directory_of, durable_of, file_of, file_when}
use Rattle.blob_memory.specs.Listing.{raw_bytes, raw_only, raw_blob_of, left_behind_header, logical_found}
use Rattle.blob_memory.specs.Numbers.{item_number}
use Rattle.blob_memory.specs.Partitions.{item_at}
use Rattle.blob_memory.proofs.Directories.{file_again}

abbrev pub Found : Type 0
Found = Result (Option (ℕ × BlobVersion × ℕ)) Failure

-- if the resolution fails, the blob has no header
pub refused_none : (p n raw : List ℕ) (r : Found) (e : Error) → AnswersAs (Err e) (refusing p n r) → left_behind_header r raw ≡ None
refused_none p n raw (Ok None) e h = refl
refused_none p n raw (Err failure) e h = refl
refused_none p n raw (Ok (Some found)) e h = absurd (⊎_elim (λ k. ok_err k) (λ k. false≢true k.0) h) where
  ok_err : {A : Type 0} {x : A} {y : Refusal} → Ok x ≡ Err y → ⊥
  ok_err z = cc

pub answered : (p n : List ℕ) (r : Found) (x : Option (ℕ × BlobVersion × ℕ)) → refusing p n r ≡ Ok x → r ≡ Ok x
answered p n (Ok y) x h = cc
answered p n (Err failure) x h = absurd cc

-- the data offset of a header is within the blob
pub offset_within : (raw : List ℕ) (a : Accepted) (size : ℕ) (version : BlobVersion) (offset : ℕ) → ((i : ℕ) → get_or raw i 0 < 256) → resolution raw a ≡ Ok (Some (size, version, offset)) → offset ≤ length raw
offset_within raw a size version offset small h = within (has_header raw a (size, version, offset) small h) where
  within : HasHeader raw a size version.0 offset → offset ≤ length raw
  within k = omega (arith, k.starts, ap length k.whole, length-append (region k.layout version.0) (drop offset raw), length_region k.layout version.0)

-- a region and the bytes after it
pub behind_region : (layout : Layout) (version : ℕ) (bytes : List ℕ) → version < 2 ^ 16 → logical_found (region layout version ++ bytes) ≡ Some bytes
behind_region layout version bytes fits =
    ap (λ (r : Found). left_behind_header r (region layout version ++ bytes)) found
    ∙ ap (λ (b : List ℕ). Some b) (drop_region layout version bytes)
  where
    inside : is_in_range 0 65535 version ≡ true
    inside = and_from _ _ (le-leb 0 version (omega arith)) (le-leb version 65535 (omega arith))

    found : resolution (region layout version ++ bytes) (every_layout 0 65535) ≡ Ok (Some (length bytes, record { 0 = version }, data_start layout))
    found = reopens layout version bytes (every_layout 0 65535) fits ∙ reopened_all 0 65535 layout version (length bytes)
        ∙ ap (λ b. cond b (Ok (Some (length bytes, record { 0 = version }, data_start layout))) (Err (VersionMismatch 0 65535 version))) inside

pub raw_blob_is : (s : Contents) (p n : List ℕ) → raw_blob_of (directory_of s) (durable_of s) p n ≡ option_map raw_bytes (item_at s.partitions p n)
raw_blob_is s p n = sym (ap raw_only (file_again s.first s.next (item_at s.partitions) s.numbered p n)) ∙ at (item_at s.partitions p n) (s.numbered p n) where
  at : (x : Option Item) → ((k : ℕ) → item_number x ≡ Some k → k < s.next) → raw_only (file_of s.next x) ≡ option_map raw_bytes x
  at None below = refl
  at (Some (Raw bytes)) below = refl
  at (Some (Held h)) below = ap (λ t. raw_only (Some (file_when t h))) (lt-ltb h.number s.next (below h.number refl))
