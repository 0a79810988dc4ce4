-- The openings of the files of a store.
use Rattle.std.proofs.Common.{◌≡◌, ◌⊎◌, inl, inr, ℕ, ◌≤◌, ◌<◌, ◌^◌, List, ◌++◌, length, drop, Bool, true, false, Option, Some, None, Result, Ok, Err, refl, sym, ap, ap₂, ◌∙◌, subst, arith, length-append}
use Rattle.std.specs.Prelude.{if◌then◌else◌}
use Rattle.std.proofs.lemmas.Bool.{false≢true}
use Rattle.std.specs.Range.{range_inclusive_start, range_inclusive_end}
use Rattle.std.specs.declared.ops.RangeInclusive.{RangeInclusive}
use Rattle.blob_header.specs.declared.layout.Layout.{Layout}
use Rattle.blob_header.specs.declared.layout.Layout.TheVariants.{V0, V1}
use Rattle.blob_header.specs.declared.version.BlobVersion.{BlobVersion}
use Rattle.blob_model.specs.Directory.{Raw}
use Rattle.blob_header.specs.Header.{data_start, region}
use Rattle.blob_header.specs.HeaderLaws.{HasHeader}
use Rattle.blob_model.specs.Opening.{Opening, Continues, Begins, Declines, opening, opening_raw, layout_from}
use Rattle.blob_header.specs.Parse.{Accepted, Failure, InvalidChecksum, accepted_ranges, every_layout}
use Rattle.blob_header.specs.Refusals.{Refusal, BlobVersionMismatch, IsMemoryError, refusal_of}
use Rattle.blob_header.specs.declared.error.Error.{Error}
use Rattle.blob_header.specs.Resolve.{resolution, refusing, AnswersAs}
use Rattle.blob_header.specs.Versions.{is_in_range}
use Rattle.blob_header.proofs.NoneSide.{length_region}
use Rattle.blob_model.proofs.RawFiles.{from_start, raw_opens}
use Rattle.blob_memory.specs.declared.item.Held.{Held}
use Rattle.blob_model.specs.Directory.{directory_made, place_made}
use Rattle.blob_model.specs.Durable.{with_at}
use Rattle.blob_model.specs.Opening.{IsOpened, Continued, Begun, place_of}
use Rattle.blob_model.specs.Places.{Place}
use Rattle.blob_memory.specs.declared.contents.Contents.{Contents}
use Rattle.blob_memory.specs.declared.found.Found.{Found}
use Rattle.blob_memory.specs.Contents.{file_when, directory_of, durable_of}
use Rattle.blob_memory.specs.Found.{opening_with, opening_of, IsFound, IsFoundBy}
use Rattle.std.specs.Bool.{then_some}
use Rattle.std.specs.Prelude.{not}

-- the opening of an incarnation, current or ended
abbrev pub held_opening : Bool → Held → Bool → ℕ → ℕ → Opening
held_opening accepts h true first last = if accepts then Begins h.layout h.version.0 h.bytes.items else Declines (BlobVersionMismatch first last h.version.0)
held_opening accepts h false first last = if accepts then Continues h.number h.layout h.version.0 else Declines (BlobVersionMismatch first last h.version.0)

pub held_opens : (p n : List ℕ) (b : Bool) (h : Held) (first last : ℕ) → h.version.0 < 2 ^ 16
    → opening p n (Some (file_when b h)) first last ≡ held_opening (is_in_range first last h.version.0) h b first last
held_opens p n false h first last fits = refl
held_opens p n true h first last fits = raw_opens p n h.layout h.version.0 h.bytes.items first last fits

-- the result of `resolve` as the resolution that defines the opening of a raw file
abbrev Answer : Type 0
Answer = Option (ℕ × BlobVersion × ℕ)

abbrev back : Result Answer Refusal → Result Answer Failure
back (Ok x) = Ok x
back (Err e) = Err InvalidChecksum

abbrev declines : Result Answer Refusal → Opening
declines (Ok x) = Continues 0 V0 0
declines (Err e) = Declines e

abbrev is_answer : Result Answer Refusal → Bool
is_answer (Ok x) = true
is_answer (Err e) = false

answered : (p n : List ℕ) (r : Result Answer Failure) (x : Answer) → refusing p n r ≡ Ok x → r ≡ Ok x
answered p n (Ok y) x e = ap back e
answered p n (Err f) x e = absurd (false≢true (ap is_answer e))

declined : (p n raw : List ℕ) (last : ℕ) (r : Result Answer Failure) (x : Refusal) → refusing p n r ≡ Err x → opening_raw p n raw last r ≡ Declines x
declined p n raw last (Ok y) x e = absurd (false≢true (sym (ap is_answer e)))
declined p n raw last (Err f) x e = ap declines e

module _ (layouts : RangeInclusive Layout) (versions : RangeInclusive BlobVersion) (oldest : range_inclusive_start layouts ≡ V0) (newest : range_inclusive_end layouts ≡ V1) where
  any : accepted_ranges layouts versions ≡ every_layout (range_inclusive_start versions).0 (range_inclusive_end versions).0
  any = λ i. record { oldest = oldest i; newest = newest i; least = (range_inclusive_start versions).0; greatest = (range_inclusive_end versions).0 }

  -- the resolution of a raw file that is accepted or must be created
  pub resolves_to : (p n raw : List ℕ) (x : Answer) → refusing p n (resolution raw (accepted_ranges layouts versions)) ≡ Ok x
      → resolution raw (every_layout (range_inclusive_start versions).0 (range_inclusive_end versions).0) ≡ Ok x
  resolves_to p n raw x e = ap (resolution raw) (sym any) ∙ answered p n (resolution raw (accepted_ranges layouts versions)) x e

  -- the opening of a raw file that isn't accepted
  pub declines_as : (p n raw : List ℕ) (e : Error) → AnswersAs {T = Answer} (Err e) (refusing p n (resolution raw (accepted_ranges layouts versions)))
      → IsMemoryError e ⊎ (opening p n (Some (Raw raw)) (range_inclusive_start versions).0 (range_inclusive_end versions).0 ≡ Declines (refusal_of e))
  declines_as p n raw e (inl h) = inr (ap (λ a. opening_raw p n raw (range_inclusive_end versions).0 (resolution raw a)) (sym any) ∙ declined p n raw (range_inclusive_end versions).0 (resolution raw (accepted_ranges layouts versions)) (refusal_of e) h)
  declines_as p n raw e (inr h) = inl h.1

-- an existing header ends within the file
pub header_within : (raw : List ℕ) (a : Accepted) (size version offset : ℕ) → HasHeader raw a size version offset → offset ≤ length raw
header_within raw a size version offset h =
    let whole : length raw ≡ length (region h.layout version ++ drop offset raw) = ap length h.whole in
    omega (arith, whole, length-append (region h.layout version) (drop offset raw), length_region h.layout version, h.starts)

pub header_layout : (raw : List ℕ) (a : Accepted) (size version offset : ℕ) (layout : Layout) → layout ≡ layout_from offset → HasHeader raw a size version offset → data_start layout ≡ offset
header_layout raw a size version offset layout e h = ap data_start (e ∙ ap layout_from h.starts ∙ from_start h.layout) ∙ sym h.starts

pub held_declined : (h : Held) (b : Bool) (first last : ℕ) → is_in_range first last h.version.0 ≡ false
    → held_opening (is_in_range first last h.version.0) h b first last ≡ Declines (BlobVersionMismatch first last h.version.0)
held_declined h true first last e = ap (λ t. held_opening t h true first last) e
held_declined h false first last e = ap (λ t. held_opening t h false first last) e

pub held_accepted : (h : Held) (b : Bool) (first last : ℕ) → is_in_range first last h.version.0 ≡ true
    → held_opening (is_in_range first last h.version.0) h b first last ≡ opening_with (then_some (not b) h.number) h.layout h.version.0 h.bytes.items
held_accepted h true first last e = ap (λ t. held_opening t h true first last) e
held_accepted h false first last e = ap (λ t. held_opening t h false first last) e

module _ (s : Contents) (p n : List ℕ) (first last : ℕ) (f : Found) (opens : opening p n ((directory_of s).file p n) first last ≡ opening_of f) (o : Place) (live : List ℕ) (version : BlobVersion)
    (lives : live ≡ f.live.items) (versioned : version ≡ f.version) where
  -- an open that continues the current incarnation
  pub continues : (k : ℕ) → f.number ≡ Some k → IsFound s p n f → o ≡ place_of p n k f.layout
      → IsOpened (directory_of s) (durable_of s) (directory_of s) (durable_of s) p n first last o live version.0
  continues k numbered found at =
      let there : durable_of s (place_of p n k f.layout) ≡ Some f.live.items = subst (λ m. IsFoundBy m f.is_file s p n f.layout f.version f.live.items) numbered found in
      Continued k f.layout
      (opens ∙ ap (λ m. opening_with m f.layout f.version.0 f.live.items) numbered ∙ ap (λ (v : BlobVersion). Continues k f.layout v.0) (sym versioned))
      at (ap (durable_of s) at ∙ there ∙ ap Some (sym lives)) refl refl

  -- an open that begins a new incarnation
  pub begins : (t : Contents) → f.number ≡ None → o ≡ place_made (directory_of s) p n f.layout
      → directory_of t ≡ directory_made (directory_of s) p n f.layout f.version.0
      → durable_of t ≡ with_at (durable_of s) (place_made (directory_of s) p n f.layout) (Some f.live.items)
      → IsOpened (directory_of s) (durable_of s) (directory_of t) (durable_of t) p n first last o live version.0
  begins t numbered at made kept = Begun f.layout
      (opens ∙ ap (λ m. opening_with m f.layout f.version.0 f.live.items) numbered ∙ ap₂ (λ (v : BlobVersion) (x : List ℕ). Begins f.layout v.0 x) (sym versioned) (sym lives))
      at
      (made ∙ ap (λ (v : BlobVersion). directory_made (directory_of s) p n f.layout v.0) (sym versioned))
      (kept ∙ ap₂ (λ (a : Place) (x : List ℕ). with_at (durable_of s) a (Some x)) (sym at) (sym lives))
