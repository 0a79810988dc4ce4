-- What calls leave as it was, and the edits that they make, one after another.
use Rattle.std.proofs.Common.{◌≡◌, ◌<◌, ◌≤◌, ◌∙◌, ℕ, arith, refl, subst, sym, ap}
use Rattle.blob_directory.specs.declared.table.Table.{Table}
use Rattle.blob_directory.specs.Names.{Edit, Same, edited}
use Rattle.blob_directory.specs.Tables.{bound}
use Rattle.blob_journal.specs.declared.journaled.Journaled.{Journaled}
use Rattle.blob_journal.specs.Currents.{KeepsFiles}
use Rattle.blob_journal.specs.Fixed.{KeepsOpen}
use Rattle.blob_journal.specs.declared.store.FileBlob.{FileBlob}
use Rattle.blob_journal.specs.Journals.{store_of}
use Rattle.blob_journal.specs.Unchanged.{KeepsNamesAndEdits, UsesFile}
use Rattle.blob_fs.specs.declared.file_system.FileSystem.{FileSystem}
use Rattle.blob_fs.specs.Calls.{Leaves, Makes}
use Rattle.blob_fs.specs.Files.{KeepsNames, KeepsOptions, KeepsTold, MakesEdit, fresh_inode, journaled_of, names_of, told_of}
use Rattle.blob_fs.specs.States.{KeepsFixedAndOptions, KeepsState, KeepsStateBut, KeepsStored}
use Rattle.blob_fs.proofs.Fixed.{SameContents, contents_same, fixed_after, fixed_twice, still_same}
use Rattle.blob_fs.proofs.Growing.{told_as}

pub keeps_self : {R : Type 0} (fs : FileSystem R) → KeepsState fs fs
keeps_self fs = record { names = refl; told = refl; fixed = λ inode at byte below f. f; options = refl }

pub keeps_same : {R : Type 0} (a b : FileSystem R) → b ≡ a → KeepsState a b
keeps_same a b e = subst (λ x. KeepsState a x) (sym e) (keeps_self a)

pub keeps_twice : {R : Type 0} {a b c : FileSystem R} → KeepsState a b → KeepsState b c → KeepsState a c
keeps_twice {R} {a} {b} {c} one two = record {
  names = two.names ∙ one.names;
  told = two.told ∙ one.told;
  fixed = fixed_twice a b c one.fixed two.fixed;
  options = two.options ∙ one.options;
}

pub edits_self : {R : Type 0} (j : Journaled R) → KeepsNamesAndEdits j j
edits_self j = record { names = refl; told = refl; unsettled = refl; log = refl }

pub edits_twice : {R : Type 0} {a b c : Journaled R} → KeepsNamesAndEdits a b → KeepsNamesAndEdits b c → KeepsNamesAndEdits a c
edits_twice one two = record { names = two.names ∙ one.names; told = two.told ∙ one.told; unsettled = two.unsettled ∙ one.unsettled; log = two.log ∙ one.log }

-- the files have the same contents, and the store has changed no name, edit or open file
pub keeps_changed : {R : Type 0} (a b : FileSystem R) → SameContents a.files b.files → fresh_inode b ≡ fresh_inode a → KeepsOptions a b
    → KeepsNamesAndEdits (journaled_of a) (journaled_of b) → KeepsOpen (journaled_of a) (journaled_of b) → KeepsState a b
keeps_changed a b contents number options keeps still =
    let more : fresh_inode a ≤ fresh_inode b = omega (arith, number) in
    record { names = keeps.names; told = keeps.told; fixed = fixed_after a b more contents still; options = options }

-- so after a call that keeps all
pub keeps_opened : {R : Type 0} {a b : FileSystem R} (c : FileSystem R) → KeepsState a b → c.files ≡ b.files → fresh_inode c ≡ fresh_inode b → KeepsOptions b c
    → KeepsNamesAndEdits (journaled_of b) (journaled_of c) → KeepsOpen (journaled_of b) (journaled_of c) → KeepsState a c
keeps_opened {R} {a} {b} c one files number options keeps still =
    keeps_twice one (keeps_changed b c (contents_same b.files c.files files) number options keeps still)

-- the store is the same
pub keeps_contents : {R : Type 0} (a b : FileSystem R) → SameContents a.files b.files → fresh_inode b ≡ fresh_inode a → KeepsOptions a b → journaled_of b ≡ journaled_of a → KeepsState a b
keeps_contents {R} a b contents number options store = keeps_changed a b contents number options
    (subst (λ (j : Journaled R). KeepsNamesAndEdits (journaled_of a) j) (sym store) (edits_self (journaled_of a))) (still_same (journaled_of a) (journaled_of b) store)

pub keeps_as : {R : Type 0} {a b : FileSystem R} (c : FileSystem R) → KeepsState a b → c.files ≡ b.files → fresh_inode c ≡ fresh_inode b → KeepsOptions b c
    → journaled_of c ≡ journaled_of b → KeepsState a c
keeps_as {R} {a} {b} c one files number options store = keeps_twice one (keeps_contents b c (contents_same b.files c.files files) number options store)

-- but for one file
pub keeps_but_then : {R : Type 0} {n : ℕ} {a b c : FileSystem R} → KeepsStateBut n a b → KeepsState b c → KeepsStateBut n a c
keeps_but_then one two = record {
  names = two.names ∙ one.names;
  told = two.told ∙ one.told;
  fixed = λ inode at byte below apart f. two.fixed inode at byte below (one.fixed inode at byte below apart f);
  options = two.options ∙ one.options;
}

-- and that file is new
pub keeps_fresh : {R : Type 0} {n : ℕ} {a b c : FileSystem R} → KeepsState a b → KeepsStateBut n b c → fresh_inode a ≤ n → KeepsState a c
keeps_fresh {R} {n} {a} {b} {c} one two new = record {
  names = two.names ∙ one.names;
  told = two.told ∙ one.told;
  fixed = λ inode at byte below f.
      let old : inode < fresh_inode a = f.numbered in
      two.fixed inode at byte below (λ e. omega (arith, old, new, e)) (one.fixed inode at byte below f);
  options = two.options ∙ one.options;
}

-- Fixed bytes and options.

pub rest_of : {R : Type 0} {a b : FileSystem R} → KeepsState a b → KeepsFixedAndOptions a b
rest_of one = record { fixed = one.fixed; options = one.options }

pub rest_twice : {R : Type 0} {a b c : FileSystem R} → KeepsFixedAndOptions a b → KeepsFixedAndOptions b c → KeepsFixedAndOptions a c
rest_twice {R} {a} {b} {c} one two = record { fixed = fixed_twice a b c one.fixed two.fixed; options = two.options ∙ one.options }

-- the number of the next inode has risen
pub rest_numbered : {R : Type 0} {a b : FileSystem R} (c : FileSystem R) → KeepsFixedAndOptions a b → c.files ≡ b.files → fresh_inode b ≤ fresh_inode c → KeepsOptions b c
    → journaled_of c ≡ journaled_of b → KeepsFixedAndOptions a c
rest_numbered {R} {a} {b} c one files more options store = rest_twice one (record {
  fixed = fixed_after b c more (contents_same b.files c.files files) (still_same (journaled_of b) (journaled_of c) store);
  options = options;
})

-- calls that keep all, before one that doesn't and after it
pub rest_before : {R : Type 0} {a b c : FileSystem R} → KeepsState a b → KeepsFixedAndOptions b c → KeepsFixedAndOptions a c
rest_before one two = rest_twice (rest_of one) two

pub rest_after : {R : Type 0} {a b c : FileSystem R} → KeepsFixedAndOptions a b → KeepsState b c → KeepsFixedAndOptions a c
rest_after one two = rest_twice one (rest_of two)

-- The store below.

pub stored_then : {R : Type 0} {a b c : Journaled R} → KeepsStored a b → KeepsStored b c → KeepsStored a c
stored_then one two = record {
  edits = edits_twice one.edits two.edits;
  files = λ r. two.files (one.files r);
  handles = λ inode file h. two.handles inode file (one.handles inode file h);
}

-- a call on a file
pub stored_used : {R : Type 0} {file file' : FileBlob} {a b c : Journaled R} → KeepsStored a b → KeepsFiles (store_of b) (store_of c) → UsesFile file b file' c → KeepsStored a c
stored_used one files two = stored_then one (record { edits = two.edits; files = files; handles = two.handles })

pub uses_self : {R : Type 0} (file : FileBlob) (j : Journaled R) → UsesFile file j file j
uses_self file j = record { edits = edits_self j; files = λ has r. r; given = λ h. h; handles = λ inode f h. h; ready = λ r. r }

pub uses_twice : {R : Type 0} {f g h : FileBlob} {a b c : Journaled R} → UsesFile f a g b → UsesFile g b h c → UsesFile f a h c
uses_twice one two = record {
  edits = edits_twice one.edits two.edits;
  files = λ has r. two.files (one.given has) (one.files has r);
  given = λ has. two.given (one.given has);
  handles = λ inode file h. two.handles inode file (one.handles inode file h);
  ready = λ r. two.ready (one.ready r);
}

-- Edits.

-- an edit, before and after calls that change no name and no edit
pub makes_after : {R : Type 0} (a b c d : FileSystem R) (e f : Edit) → e ≡ f → KeepsNames a b → KeepsTold a b → Makes e b c → KeepsNames c d → KeepsTold c d → Makes f a d
makes_after a b c d e f same names told m later more = record {
  recorded = told_as (told_of a) (told_of b) (told_of d) e f same told (more ∙ m.recorded);
  names = subst (λ (t : Table). Same (bound t) (edited (names_of a) f)) (sym later)
      (subst (λ (t : Table). Same (names_of c) (edited (bound t) f)) names (subst (λ (x : Edit). MakesEdit x b c) same m.names));
}

-- a refusal
pub leaves_after : {R : Type 0} (a b c d : FileSystem R) → KeepsNames a b → KeepsTold a b → Leaves b c → KeepsNames c d → KeepsTold c d → Leaves a d
leaves_after a b c d names told l later more = record {
  recorded = more ∙ l.recorded ∙ told;
  names = λ e. ap (λ (t : Table). bound t e) (sym names) ∙ l.names e ∙ ap (λ (t : Table). bound t e) (sym later);
}
