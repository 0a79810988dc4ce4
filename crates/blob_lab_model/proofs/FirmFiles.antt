-- Steps of the files that keep a byte fixed.
use Rattle.std.proofs.Common.{◌≡◌, ℕ, ◌&&◌, List, Bool, true, false, cond, Option, Some, None, refl, sym, ap, ◌∙◌}
use Rattle.std.specs.Str.{bytes_eq}
use Rattle.std.proofs.lemmas.Bool.{and_left, cond-false, false≢true}
use Rattle.blob_header.specs.declared.layout.Layout.{Layout}
use Rattle.blob_model.specs.Directory.{Directory, File, with_file, directory_without}
use Rattle.blob_model.specs.Files.{Files, admit, after_crash, after_remove, is_removed_by, reopen, raw_again, durable_at}
use Rattle.blob_model.specs.Log.{Choices}
use Rattle.blob_model.proofs.Persistence.{fixed_admitted, fixed_crashed, fixed_removed}
use Rattle.blob_lab_model.specs.Fixed.{Byte, is_of}
use Rattle.blob_lab_model.specs.States.{Held}
use Rattle.blob_lab_model.proofs.Firm.{IsFirm, Now, Behind, at}
use Rattle.blob_lab_model.proofs.Stale.{admitted_directory}

-- retired pending entries, and a crash

pub firm_admitted : (f : Files) (handles : List (Option Held)) (p n : List ℕ) (b : Byte) → IsFirm f handles b → IsFirm (admit f p n) handles b
firm_admitted f handles p n b (Now number layout version e fixed live) =
    Now number layout version (ap (λ (d : Directory). d.file b.partition b.name) (admitted_directory f p n) ∙ e) (fixed_admitted f (at b number layout) b.position b.value p n fixed) live
firm_admitted f handles p n b (Behind layout version bytes e has) =
    Behind layout version bytes (ap (λ (d : Directory). d.file b.partition b.name) (admitted_directory f p n) ∙ e) has

pub firm_crashed : (f : Files) (handles : List (Option Held)) (t : Choices) (b : Byte) → IsFirm f handles b → IsFirm (after_crash f t) handles b
firm_crashed f handles t b (Now number layout version e fixed live) = Now number layout version e (fixed_crashed f (at b number layout) b.position b.value t fixed) live
firm_crashed f handles t b (Behind layout version bytes e has) = Behind layout version bytes e has

-- a rebuilt store

pub firm_reopened : (f : Files) (handles : List (Option Held)) (b : Byte) → IsFirm f handles b → IsFirm (reopen f) handles b
firm_reopened f handles b (Now number layout version e fixed live) =
    Behind layout version (durable_at f (at b number layout)) (ap (raw_again (durable_at f) b.partition b.name) e) fixed.durable
firm_reopened f handles b (Behind layout version bytes e has) = Behind layout version bytes (ap (raw_again (durable_at f) b.partition b.name) e) has

-- Other names.

pub file_beside : (file : List ℕ → List ℕ → Option File) (p n : List ℕ) (x : Option File) (b : Byte) → is_of p (Some n) b ≡ false → with_file file p n x b.partition b.name ≡ file b.partition b.name
file_beside file p n x b other = by_names (bytes_eq p b.partition) (bytes_eq n b.name) other where
  by_names : (s t : Bool) → (s && t) ≡ false → cond s (cond t x (file b.partition b.name)) (file b.partition b.name) ≡ file b.partition b.name
  by_names true true e = absurd (false≢true (sym e))
  by_names true false e = refl
  by_names false t e = refl

file_left : (f : Files) (p : List ℕ) (n : Option (List ℕ)) (b : Byte) → is_of p n b ≡ false → (directory_without f.directory p n).file b.partition b.name ≡ f.directory.file b.partition b.name
file_left f p (Some n) b other = file_beside f.directory.file p n None b other
file_left f p None b other = cond-false (bytes_eq p b.partition) None (f.directory.file b.partition b.name) other

stays : (d : Directory) (p : List ℕ) (n : Option (List ℕ)) (b : Byte) (number : ℕ) (layout : Layout) → is_of p n b ≡ false → is_removed_by d p n (at b number layout) ≡ false
stays d p None b number layout other = and_left (bytes_eq p b.partition) _ other
stays d p (Some n) b number layout other = and_left (bytes_eq p b.partition && bytes_eq n b.name) _ other

pub firm_removed : (f : Files) (handles : List (Option Held)) (p : List ℕ) (n : Option (List ℕ)) (b : Byte) → is_of p n b ≡ false → IsFirm f handles b → IsFirm (after_remove f p n) handles b
firm_removed f handles p n b other (Now number layout version e fixed live) =
    Now number layout version (file_left f p n b other ∙ e) (fixed_removed f (at b number layout) b.position b.value p n (stays f.directory p n b number layout other) fixed) live
firm_removed f handles p n b other (Behind layout version bytes e has) = Behind layout version bytes (file_left f p n b other ∙ e) has
