-- What a rename does.
use Rattle.std.proofs.Common.{◌≡◌, ◌≢◌, Bool, true, false, List, [], ◌∷◌, ◌++◌, ℕ, Option, Some, None, ap, refl, sym, subst, ◌∙◌}
use Rattle.std.specs.Prelude.{unwrap_or}
use Rattle.std.proofs.lemmas.Bool.{false≢true}
use Rattle.blob_directory.specs.declared.edit.Binding.{Binding}
use Rattle.blob_directory.specs.declared.table.Table.{Table}
use Rattle.blob_directory.specs.declared.unsettled.About.{About}
use Rattle.blob_directory.specs.Names.{Edit, Same, edited, exchanges, moves}
use Rattle.blob_directory.specs.Records.{Found}
use Rattle.blob_directory.specs.Tables.{bound}
use Rattle.blob_journal.specs.Settling.{KeepsUnsettled}
use Rattle.blob_fs.specs.declared.file_system.FileSystem.{FileSystem}
use Rattle.blob_fs.specs.declared.renames.Rename.{Rename}
use Rattle.blob_fs.specs.declared.renames.Rename.TheVariants.{Exchange, NoReplace, Replace}
use Rattle.blob_fs.specs.Calls.{Exchanged, Leaves, Makes, Moved, Renames, Unchanged}
use Rattle.blob_fs.specs.declared.file_system.Options.{Options}
use Rattle.blob_fs.specs.Files.{NotesEdit, about_exchange, about_move, journaled_of, names_of, told_of}
use Rattle.blob_fs.specs.States.{KeepsState}
use Rattle.blob_fs.proofs.Noting.{noted_between}

-- kinds of renames

abbrev is_exchange : Rename → Bool
is_exchange Replace = false
is_exchange NoReplace = false
is_exchange Exchange = true

abbrev keeps_taken : Rename → Bool
keeps_taken Replace = false
keeps_taken NoReplace = true
keeps_taken Exchange = false

pub no_exchange : (how : Rename) → is_exchange how ≡ false → how ≢ Exchange
no_exchange how other e = false≢true (sym other ∙ ap is_exchange e)

pub replaces : (how : Rename) → how ≡ Replace → how ≢ Exchange
replaces how is = no_exchange how (ap is_exchange is)

pub keeps : (how : Rename) → how ≡ NoReplace → how ≢ Exchange
keeps how is = no_exchange how (ap is_exchange is)

pub may_replace : (how : Rename) → how ≡ Replace → how ≢ NoReplace
may_replace how is e = false≢true (sym (ap keeps_taken is) ∙ ap keeps_taken e)

pub may_exchange : (how : Rename) → how ≡ Exchange → how ≢ NoReplace
may_exchange how is e = false≢true (sym (ap keeps_taken is) ∙ ap keeps_taken e)

-- what two entries are bound to

abbrev is_bound : Option Binding → Bool
is_bound None = false
is_bound (Some to) = true

pub free_other : (o : Option Binding) (to : Binding) → o ≡ None → o ≢ Some to
free_other o to free is = false≢true (sym (ap is_bound free) ∙ ap is_bound is)

pub taken_other : (o : Option Binding) (was to : Binding) → o ≡ Some was → was ≢ to → o ≢ Some to
taken_other o was to taken differ is = differ (ap (λ (x : Option Binding). unwrap_or x was) (sym taken ∙ is))

-- by what the steps of a rename made

pub renames_moved : {R : Type 0} (how : Rename) (a b : ℕ) (e f : List ℕ) (to : Binding) (fs fs' : FileSystem R) → names_of fs e ≡ Some to → names_of fs f ≢ Some to
    → how ≢ Exchange → (how ≡ NoReplace → names_of fs f ≡ None) → Makes (moves e f to) fs fs'
    → NotesEdit (moves e f to) (about_move to a b) fs fs' → Renames how a b e f fs fs'
renames_moved how a b e f to fs fs' is other moves_it free made noted =
    Moved (λ h. other (sym h ∙ is)) moves_it free (record { moved = to; bound = is; made = made; noted = noted })

pub renames_exchanged : {R : Type 0} (how : Rename) (a b : ℕ) (e f : List ℕ) (to was : Binding) (fs fs' : FileSystem R) → names_of fs e ≡ Some to → names_of fs f ≡ Some was → was ≢ to
    → how ≡ Exchange → Makes (exchanges e f to was) fs fs'
    → NotesEdit (exchanges e f to was) (about_exchange to was a b) fs fs' → Renames how a b e f fs fs'
renames_exchanged how a b e f to was fs fs' is there differ exchanges_it made noted =
    Exchanged (λ h. taken_other (names_of fs f) was to there differ (sym h ∙ is)) exchanges_it
    (record { moved = to; bound = is; was = was; replaced = there; made = made; noted = noted })

pub nothing : {R : Type 0} (fs : FileSystem R) → Leaves fs fs
nothing fs = record { recorded = refl; names = λ e. refl }

pub renames_same : {R : Type 0} (how : Rename) (a b : ℕ) (e f : List ℕ) (to was : Binding) (fs : FileSystem R) → names_of fs e ≡ Some to → names_of fs f ≡ Some was → was ≡ to
    → how ≢ NoReplace → Renames how a b e f fs fs
renames_same how a b e f to was fs is there same replaces_it =
    Unchanged to is (there ∙ ap (λ (b : Binding). let o : Option Binding = Some b in o) same) replaces_it (nothing fs)

-- after a call that changed nothing
pub record Before {R : Type 0} (fs one : FileSystem R) : Type 0 where
  pub keeps : KeepsState fs one
  pub unsettled : KeepsUnsettled (journaled_of fs) (journaled_of one)

entry_before : {R : Type 0} (fs one : FileSystem R) (e : List ℕ) → Before fs one → names_of fs e ≡ names_of one e
entry_before fs one e b = ap (λ (t : Table). bound t e) (sym b.keeps.names)

pub leaves_from : {R : Type 0} (fs one two : FileSystem R) → Before fs one → Leaves one two → Leaves fs two
leaves_from fs one two b l = record { recorded = l.recorded ∙ b.keeps.told; names = λ e. entry_before fs one e b ∙ l.names e }

makes_from : {R : Type 0} (edit : Edit) (fs one two : FileSystem R) → Before fs one → Makes edit one two → Makes edit fs two
makes_from edit fs one two b m = record {
  recorded = subst (λ (l : List Found). told_of two ≡ l ++ Some (edit, false) ∷ []) b.keeps.told m.recorded;
  names = subst (λ (t : Table). Same (names_of two) (edited (bound t) edit)) b.keeps.names m.names;
}

notes_from : {R : Type 0} (edit : Edit) (about : About) (fs one two : FileSystem R) → Before fs one → NotesEdit edit about one two → NotesEdit edit about fs two
notes_from edit about fs one two b n =
    noted_between (journaled_of fs) (journaled_of one) (journaled_of two) (journaled_of two) edit edit about about _ _ refl refl (ap (λ (o : Options). o.edit_rate) b.keeps.options) b.unsettled n refl

pub renames_from : {R : Type 0} (how : Rename) (x y : ℕ) (e f : List ℕ) (fs one two : FileSystem R) → Before fs one → Renames how x y e f one two → Renames how x y e f fs two
renames_from how x y e f fs one two b (Unchanged to is there replaces_it left) =
    Unchanged to (entry_before fs one e b ∙ is) (entry_before fs one f b ∙ there) replaces_it (leaves_from fs one two b left)
renames_from how x y e f fs one two b (Moved differ moves_it free m) =
    Moved (λ h. differ (sym (entry_before fs one e b) ∙ h ∙ entry_before fs one f b)) moves_it (λ n. entry_before fs one f b ∙ free n)
    (record {
      moved = m.moved;
      bound = entry_before fs one e b ∙ m.bound;
      made = makes_from (moves e f m.moved) fs one two b m.made;
      noted = notes_from (moves e f m.moved) (about_move m.moved x y) fs one two b m.noted;
    })
renames_from how x y e f fs one two b (Exchanged differ exchanges_it m) =
    Exchanged (λ h. differ (sym (entry_before fs one e b) ∙ h ∙ entry_before fs one f b)) exchanges_it
    (record {
      moved = m.moved;
      bound = entry_before fs one e b ∙ m.bound;
      was = m.was;
      replaced = entry_before fs one f b ∙ m.replaced;
      made = makes_from (exchanges e f m.moved m.was) fs one two b m.made;
      noted = notes_from (exchanges e f m.moved m.was) (about_exchange m.moved m.was x y) fs one two b m.noted;
    })

pub renames_at : {R : Type 0} (how : Rename) (x y : ℕ) (e e' f f' : List ℕ) (fs fs' : FileSystem R) → e ≡ e' → f ≡ f' → Renames how x y e f fs fs' → Renames how x y e' f' fs fs'
renames_at how x y e e' f f' fs fs' old new r = subst (λ (l : List ℕ). Renames how x y l f' fs fs') old (subst (λ (l : List ℕ). Renames how x y e l fs fs') new r)
