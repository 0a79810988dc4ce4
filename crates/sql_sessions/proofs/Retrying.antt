-- What a failed open leaves of a database without checksums.
use Rattle.std.proofs.Common.{◌≡◌, ◌≢◌, ℕ, ◌%◌, ◌≤◌, Bool, true, false, IsTrue, refl, sym, ◌∙◌, subst, inl, inr, arith, true≢false, eq-eqb, ne_eqb}
use Rattle.std.specs.Prelude.{Result, Ok, Err, IfOk}
use Rattle.std.proofs.Math.Dec.{T_prop}
use Rattle.std.proofs.Math.Logic.{∥∥₁_map, ∥∥₁_elim}
use Rattle.std.proofs.lemmas.Bool.{and_from, cases_Bool, cases_eq}
use Rattle.sqlite_disk.specs.declared.Disk.{Ghosts}
use Rattle.sqlite_disk.specs.declared.Files.{Files}
use Rattle.sqlite_wal.specs.Files.{outcomes}
use Rattle.sqlite_wal.specs.Reads.{AreClean, OnlyReads}
use Rattle.sqlite_wal.specs.Recovery.{Image, IsIgnored}
use Rattle.sqlite_wal.specs.Recovery as raw
use Rattle.sqlite_pool.proofs.ProbeLemmas.{reserved_word, size_by_file, size_by_log}
use Rattle.sqlite_pool.proofs.StateLemmas.{clean_is, may_leave_is}
use Rattle.sqlite_pool.specs.Stored.{StandsAs, is_summed, reserved, stored_size}
use Rattle.sqlite_store.specs.Unopened.{files_of, state_of}
use Rattle.sqlite_store.specs.declared.store.FileStore.{FileStore}
use Rattle.sqlite_trees.specs.Tree.{Trees}
use Rattle.sqlite_trees.specs.declared.error.StoreError.{StoreError}
use Rattle.sqlite_trees.specs.declared.error.StoreError.TheVariants.{OutOfMemory, Io, Corrupt, Full, Broken, Unstorable}
use Rattle.sqlite.proofs.FileLemmas.{is_something}
use Rattle.sqlite.specs.Closing.{files_left}
use Rattle.sqlite.specs.Held.{Held}
use Rattle.sqlite.specs.Files.{FailsToOpenFiles, HoldsDatabase, IsCleanLeft, IsKept, LeavesFiles, NamesSize, SaysSums, file_state, image_of}
use Rattle.sqlite.specs.State.{store_error}
use Rattle.sqlite.specs.declared.error.Error.{Error}
use Rattle.sqlite.specs.declared.file.Leftover.{Leftover}
use Rattle.sqlite.specs.declared.file.Leftover.TheVariants as left
use Rattle.sql_sessions.specs.Left.{FindsOutcome, HoldsOutcomes, NeverLies, not_a_database}
use Rattle.sql_sessions.specs.Retries.{FindsLeft, HoldsPlain, MayHoldNone, MayOpenAgain, StandFor}

abbrev SeenMayStay : {D : Type 0} → Ghosts D → Type 0
SeenMayStay {D} g = (file : D) → g.may_leave file (g.seen file)

-- a size without checksums
plain_is : (size : ℕ) → is_summed size ≡ false → reserved size ≡ 0
plain_is size plain = elim (cases_eq (size % 16) 8) [
  | inl on ↦ let summed : is_summed size ≡ true = rw (eq-eqb (size % 16) 8 on) refl in absurd (true≢false (sym summed ∙ plain))
  | inr off ↦ rw (ne_eqb (size % 16) 8 off) refl
]

module _ (image : Image) (size : ℕ) (db : Trees) (held : HoldsDatabase image db) (named : NamesSize image (stored_size size)) where
  large : 504 ≤ held.0
  large = let few : reserved held.0 ≤ 8 = grind arith in omega (arith, held.1.0)

  same_stored : stored_size held.0 ≡ stored_size size
  same_stored = elim (cases_eq (stored_size held.0) (stored_size size)) [
    | inl same ↦ same
    | inr other ↦
        let read = λ (seen : IsIgnored image.log → ⊥). other (sym (named.0 seen ∙ size_by_log held.0 image held.2.pages held.2.found seen)) in
        absurd (read (λ ignored. other (sym (named.1 ignored ∙ size_by_file held.0 image held.2.pages held.2.found large held.2.ours.file.sound ignored))))
  ]

  same_size : is_summed held.0 ≡ false → (IsTrue (is_summed size) → SaysSums (stored_size size) image) → held.0 ≡ size
  same_size plain says =
      let stored = same_stored in
      let none = plain_is held.0 plain in
      elim (cases_Bool (is_summed size)) [
        | inl summed ↦
            let page = reserved_word held.0 image held.2.pages held.2.found large held.2.ours.file.sound in
            let word = says summed held.2.found.stored page.0 (subst (λ n. raw.Recovers n image held.2.found.stored) stored held.2.found.found) page.1 (page.2 ∙ stored) in
            absurd (omega (arith, page.3, none, word))
        | inr unsummed ↦ omega (arith, stored, none, plain_is size unsummed)
      ]

-- what the old files held is held by files that represent the same pages
held_on : (size : ℕ) (old new : Image) (db : Trees) (held : HoldsDatabase old db) → held.0 ≡ size → StandsAs size old new → HoldsDatabase new db
held_on size old new db held same stands =
    let on : StandsAs held.0 old new = subst (λ (n : ℕ). StandsAs n old new) (sym same) stands in (
      held.0,
      held.1,
      record {
        pages = held.2.pages;
        wanted = held.2.wanted;
        schema = held.2.schema;
        found = on.1 held.2.pages held.2.found;
        ours = held.2.ours;
        reads = held.2.reads;
        sound = held.2.sound;
      },
    )

abbrev Holds : {D : Type 0} → Ghosts D → Files D → Image → Type 0
Holds g files image = (before : Image) × outcomes g files.log files.db before × ((db : Trees) → HoldsDatabase before db → HoldsDatabase image db)

module _ {D : Type 0} (g : Ghosts D) where
  kept_holds : (files : Files D) (size : ℕ) (image : Image) → SeenMayStay g → HoldsPlain (image_of g files) → NamesSize (image_of g files) (stored_size size)
      → (IsTrue (is_summed size) → SaysSums (stored_size size) (image_of g files)) → IsKept g files size image → Holds g files image
  kept_holds files size image stays plain named says kept = elim kept.same [
    | inl was ↦ (image, was, λ db held. held)
    | inr stands ↦ (image_of g files, (stays files.log, stays files.db), λ db held. held_on size (image_of g files) image db held (same_size (image_of g files) size db held named (plain db held) says) stands)
  ]

  -- what a crash may leave of the files that a failed open left
  pub left_holds : (files : Files D) (rest : Leftover D g) (plain : Bool) (image : Image) → NeverLies g → SeenMayStay g → (IsTrue plain → HoldsPlain (image_of g files))
      → MayOpenAgain plain rest → (IsCleanLeft rest → LeavesFiles files rest) → outcomes g (files_left rest).0 (files_left rest).1 image → Holds g files image
  left_holds files (left.Files now) plain image never stays holds may leaves was =
      (image, leaves (and_from (g.is_clean now.log) (g.is_clean now.db) (never now.log) (never now.db)) image was, λ db held. held)
  left_holds files (left.Unopened now) plain image never stays holds may leaves was =
      let both = files_of now in
      let sure : AreClean g both.0 both.1 = and_from (g.is_clean both.0) (g.is_clean both.1) (never both.0) (never both.1) in
      elim (leaves (clean_is now.pool ∙ sure)) [
        | inl none ↦ (image_of g files, (stays files.log, stays files.db), λ db held. absurd (is_something (image_of g files) db held none.0))
        | inr kept ↦ kept_holds files (state_of now).page_size image stays (holds may) kept.1 kept.3 (kept.4 image (may_leave_is now.pool image sure was))
      ]
  left_holds files (left.Store it) plain image never stays holds may leaves was = absurd may

  pub clean_left : (rest : Leftover D g) → NeverLies g → IsCleanLeft rest
  clean_left (left.Files now) never = and_from (g.is_clean now.log) (g.is_clean now.db) (never now.log) (never now.db)
  clean_left (left.Unopened now) never =
      let both = files_of now in
      clean_is now.pool ∙ and_from (g.is_clean both.0) (g.is_clean both.1) (never both.0) (never both.1)
  clean_left (left.Store it) never =
      let both = files_left (left.Store it) in
      clean_is it.pool ∙ and_from (g.is_clean both.0) (g.is_clean both.1) (never both.0) (never both.1)

  pub both_clean : (files : Files D) → NeverLies g → AreClean g files.log files.db
  both_clean files never = and_from (g.is_clean files.log) (g.is_clean files.db) (never files.log) (never files.db)

  pub stand_itself : (files : Files D) → StandFor g files files
  stand_itself files image may = ∣ (image, may, λ db held. held) ∣₁

  pub stand_then : (a b c : Files D) → StandFor g a b → StandFor g b c → StandFor g a c
  stand_then a b c ab bc image may = ∥∥₁_elim (bc image may) squash₁ (λ m. ∥∥₁_map (ab m.0 m.1) (λ o. (o.0, o.1, λ db held. m.2 db (o.2 db held))))

  -- calls that only read
  pub read_stands : (old new : Files D) → OnlyReads g old.log new.log → OnlyReads g old.db new.db → StandFor g old new
  read_stands old new log db image may = ∣ (image, (log.crash image.log may.0, db.crash image.db may.1), λ db held. held) ∣₁

never : (kind : StoreError) → store_error kind ≢ not_a_database
never OutOfMemory is = absurd cc
never Io is = absurd cc
never Corrupt is = absurd cc
never Full is = absurd cc
never Broken is = absurd cc
never Unstorable is = absurd cc

-- why an open fails, where there is a database
pub not_refused : {D : Type 0} {g : Ghosts D} (files : Files D) (e : Error × Leftover D g) → ∥ ((db : Trees) × HoldsDatabase (image_of g files) db) ∥₁ → FailsToOpenFiles files e.1 e.0 → e.0 ≢ not_a_database
not_refused files e wanted (inl memory) is = absurd (let no = sym memory ∙ is in cc)
not_refused files e wanted (inr (inl (which, none))) is = ∥∥₁_elim wanted (T_prop false) (λ w. none (inl w))
not_refused files e wanted (inr (inr (inl (named, more)))) is = never _ (sym named ∙ is)
not_refused files e wanted (inr (inr (inr (full, limit)))) is = absurd (let no = sym full ∙ is in cc)

pub if_ok_both : {T E : Type 0} (r : Result T E) (P Q S : T → Type 0) → IfOk r P → IfOk r Q → ((x : T) → P x → Q x → S x) → IfOk r S
if_ok_both (Ok x) P Q S p q both = both x p q
if_ok_both (Err e) P Q S p q both = tt

-- what was found is an outcome that the connection allowed
pub found_outcome : {D : Type 0} {g : Ghosts D} (conn : Held (FileStore D g)) (files : Files D) (again : Held (FileStore D g)) → HoldsOutcomes conn files → FindsLeft files again → FindsOutcome conn again
found_outcome conn files again leaves found =
    ∥∥₁_elim found squash₁ (λ f. ∥∥₁_map (leaves f.0 f.1) (λ r. subst (file_state conn).may_leave (sym (f.2 r.0 r.2)) r.1))

pub if_ok_all : {T E : Type 0} (r : Result T E) (P : T → Type 0) → ((x : T) → P x) → IfOk r P
if_ok_all (Ok x) P all = all x
if_ok_all (Err e) P all = tt

-- from what is found in the new files to the old ones
module _ {D : Type 0} (g : Ghosts D) (old new : Files D) (stand : StandFor g old new) where
  pub finds_left : (c : Held (FileStore D g)) → SeenMayStay g → ((db : Trees) → HoldsDatabase (image_of g new) db → (file_state c).committed.trees ≡ db) → FindsLeft old c
  finds_left c stays holds = ∥∥₁_map (stand (image_of g new) (stays new.log, stays new.db)) (λ o. (o.0, o.1, λ db held. holds db (o.2 db held)))

  pub found_before : (c : Held (FileStore D g)) → FindsLeft new c → FindsLeft old c
  found_before c found = ∥∥₁_elim found squash₁ (λ f. ∥∥₁_map (stand f.0 f.1) (λ o. (o.0, o.1, λ db held. f.2 db (o.2 db held))))

  pub none_before : MayHoldNone g new → MayHoldNone g old
  none_before none = ∥∥₁_elim none squash₁ (λ n. ∥∥₁_map (stand n.0 n.1) (λ o. (o.0, o.1, λ held. n.2 (held.0, o.2 held.0 held.1))))
