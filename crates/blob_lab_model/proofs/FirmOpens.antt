-- Opens keep a byte fixed.
use Rattle.std.proofs.Common.{◌≡◌, ℕ, ◌<◌, ◌≤◌, ◌++◌, ◌&&◌, ◌%◌, ◌/◌, ◌^◌, List, [], ◌∷◌, Bool, true, false, cond, Option, Some, refl, sym, ap, ◌∙◌, subst, arith, ⊎_elim, replicate}
use Rattle.std.specs.Int.{to_be_bytes, w16, w32}
use Rattle.std.specs.Str.{bytes_eq}
use Rattle.std.proofs.lemmas.Bool.{cases_Bool, false≢true}
use Rattle.blob_header.specs.declared.layout.Layout.{Layout}
use Rattle.blob_header.specs.declared.layout.Layout.TheVariants.{V0, V1}
use Rattle.blob_header.specs.Checksum.{crc32c}
use Rattle.blob_model.specs.Directory.{File, Raw, Incarnation, place_made}
use Rattle.blob_model.specs.Files.{Files, log_of, create, with_opening, after_open}
use Rattle.blob_header.specs.Header.{region, prelude, magic_of, layout_number}
use Rattle.blob_model.specs.Opening.{Opening, Continues, Begins, Declines, opening}
use Rattle.blob_model.specs.Persistence.{HasByte}
use Rattle.blob_model.specs.Places.{Place, same_place}
use Rattle.blob_header.specs.Refusals.{Refusal, BlobVersionMismatch}
use Rattle.blob_model.specs.SamePlace.{same_place_exact}
use Rattle.blob_header.specs.Versions.{is_in_range}
use Rattle.blob_model.proofs.Persistence.{fixed_beside, fixed_made}
use Rattle.blob_model.proofs.RawFiles.{raw_opens}
use Rattle.blob_lab_model.specs.Answers.{kept_at}
use Rattle.blob_lab_model.specs.Fixed.{Byte, is_of}
use Rattle.blob_lab_model.specs.States.{Held}
use Rattle.blob_lab_model.proofs.Firm.{IsFirm, Now, Behind, at, of_parts}
use Rattle.blob_lab_model.proofs.FirmFiles.{file_beside}
use Rattle.blob_model.proofs.Opened.{with_file_here}

-- A region has the version's low sixteen bits.

version_low : (v : ℕ) → to_be_bytes w16 v ≡ to_be_bytes w16 (v % 2 ^ 16)
version_low v =
    let high : v / 256 % 256 ≡ v % 65536 / 256 % 256 = omega arith in
    let low : v % 256 ≡ v % 65536 % 256 = omega arith in
    λ i. high i ∷ low i ∷ []

prelude_low : (layout : Layout) (v : ℕ) → prelude layout v ≡ prelude layout (v % 2 ^ 16)
prelude_low layout v = ap (λ (x : List ℕ). magic_of layout ++ to_be_bytes w16 (layout_number layout) ++ x) (version_low v)

region_low : (layout : Layout) (v : ℕ) → region layout v ≡ region layout (v % 2 ^ 16)
unfolding region
region_low V0 v = prelude_low V0 v
region_low V1 v = ap (λ (x : List ℕ). x ++ to_be_bytes w32 (crc32c x) ++ replicate 4084 0) (prelude_low V1 v)

-- An open keeps a byte fixed. No handle is on an incarnation that doesn't exist yet, and such an incarnation has no
-- log.

module _ (f : Files) (handles : List (Option Held)) (b : Byte)
    (given : (i : ℕ) (h : Held) → kept_at handles i ≡ Some h → h.place.number < f.directory.next)
    (fresh : (o : Place) → f.directory.next ≤ o.number → log_of f.log o ≡ []) where
  -- an incarnation of the name itself is created
  begun : (layout : Layout) (version : ℕ) (bytes : List ℕ) → HasByte b.position b.value bytes → IsFirm (create f b.partition b.name layout version bytes) handles b
  begun layout version bytes has =
      let o = place_made f.directory b.partition b.name layout in
      Now f.directory.next layout version
      (with_file_here f.directory.file b.partition b.name (Some (Incarnation f.directory.next layout version)))
      (fixed_made f b.partition b.name layout version b.position b.value bytes (fresh o (omega arith)) has)
      (λ i h here same. absurd (omega (arith, given i h here, ap (λ (a : Place). a.number) (same_place_exact h.place o same))))

  -- an incarnation of another name is created
  apart : (p n : List ℕ) (number : ℕ) (layout l : Layout) → is_of p (Some n) b ≡ false → same_place (place_made f.directory p n l) (at b number layout) ≡ false
  apart p n number layout l other = by_names (bytes_eq p b.partition) (bytes_eq n b.name) _ other where
    by_names : (s t u : Bool) → (s && t) ≡ false → (s && (t && u)) ≡ false
    by_names true true u e = absurd (false≢true (sym e))
    by_names true false u e = refl
    by_names false t u e = refl

  beside : (p n : List ℕ) (l : Layout) (w : ℕ) (bytes : List ℕ) → is_of p (Some n) b ≡ false → IsFirm f handles b → IsFirm (create f p n l w bytes) handles b
  beside p n l w bytes other (Now number layout version e fixed live) =
      Now number layout version (file_beside f.directory.file p n (Some (Incarnation f.directory.next l w)) b other ∙ e)
      (fixed_beside f (at b number layout) b.position b.value p n l w bytes (fresh (place_made f.directory p n l) (omega arith)) (apart p n number layout l other) fixed) live
  beside p n l w bytes other (Behind layout version kept e has) =
      Behind layout version kept (file_beside f.directory.file p n (Some (Incarnation f.directory.next l w)) b other ∙ e) has

  other_opened : (p n : List ℕ) (found : Opening) → is_of p (Some n) b ≡ false → IsFirm f handles b → IsFirm (with_opening f p n found) handles b
  other_opened p n (Continues number layout version) other firm = firm
  other_opened p n (Begins layout version bytes) other firm = beside p n layout version bytes other firm
  other_opened p n (Declines refusal) other firm = firm

  -- the name itself is opened
  goes_on : (c : Bool) (number : ℕ) (layout : Layout) (version : ℕ) (refusal : Refusal) → IsFirm f handles b → IsFirm (with_opening f b.partition b.name (cond c (Continues number layout version) (Declines refusal))) handles b
  goes_on true number layout version refusal firm = firm
  goes_on false number layout version refusal firm = firm

  begins_or_not : (c : Bool) (layout : Layout) (version : ℕ) (bytes : List ℕ) (refusal : Refusal) → HasByte b.position b.value bytes → IsFirm f handles b → IsFirm (with_opening f b.partition b.name (cond c (Begins layout version bytes) (Declines refusal))) handles b
  begins_or_not true layout version bytes refusal has firm = begun layout version bytes has
  begins_or_not false layout version bytes refusal has firm = firm

  own_opened : (first last : ℕ) → IsFirm f handles b → IsFirm (after_open f b.partition b.name first last) handles b
  own_opened first last (Now number layout version e fixed live) =
      subst (λ (x : Option File). IsFirm (with_opening f b.partition b.name (opening b.partition b.name x first last)) handles b) (sym e)
      (goes_on (is_in_range first last version) number layout version (BlobVersionMismatch first last version) (Now number layout version e fixed live))
  own_opened first last (Behind layout version bytes e has) =
      let low = version % 2 ^ 16 in
      let low_e : f.directory.file b.partition b.name ≡ Some (Raw (region layout low ++ bytes)) = e ∙ ap (λ (r : List ℕ). Some (Raw (r ++ bytes))) (region_low layout version) in
      subst (λ (x : Opening). IsFirm (with_opening f b.partition b.name x) handles b)
      (sym (ap (λ (x : Option File). opening b.partition b.name x first last) low_e ∙ raw_opens b.partition b.name layout low bytes first last (omega arith)))
      (begins_or_not (is_in_range first last low) layout low bytes (BlobVersionMismatch first last low) has (Behind layout version bytes e has))

  pub firm_opened : (p n : List ℕ) (first last : ℕ) → IsFirm f handles b → IsFirm (after_open f p n first last) handles b
  firm_opened p n first last firm =
      ⊎_elim
      (λ (own : is_of p (Some n) b ≡ true).
      let e = of_parts f.directory b p n own in
      subst (λ (x : List ℕ × List ℕ). IsFirm (after_open f x.0 x.1 first last) handles b) (λ i. (sym e.0 i, sym e.1 i)) (own_opened first last firm))
      (λ (other : is_of p (Some n) b ≡ false). other_opened p n (opening p n (f.directory.file p n) first last) other firm)
      (cases_Bool (is_of p (Some n) b))
