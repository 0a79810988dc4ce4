-- What calls leave of what may be found of a blob.
use Rattle.std.proofs.Common.{◌≡◌, ℕ, ◌<◌, true, false, cond, List, [], ◌∷◌, ◌++◌, length, Option, None, Some, refl, sym, ap, ap₂, ◌∙◌, subst, arith, ⊎_elim, append-nil, append_assoc}
use Rattle.std.proofs.lemmas.Bool.{cases_Bool, cond_both, cond-false}
use Rattle.blob_model.specs.declared.mode.PartialWriteMode.{PartialWriteMode}
use Rattle.blob_model.specs.declared.mode.PartialWriteMode.TheVariants.{Prefix, Subset, Sectors}
use Rattle.blob_model.specs.Bytes.{resize}
use Rattle.blob_model.specs.Directory.{Directory, Incarnation, current, place_made}
use Rattle.blob_model.specs.Durable.{Durable}
use Rattle.blob_model.specs.Files.{Files, Logged, admit, admitted_at, log_of, log_entry, all_logged, after_crash, after_open, crashed_at, durable_at, publish, start_sync, with_opening}
use Rattle.blob_model.specs.Log.{Choices, Entry, Kept, Loose, Resized, durable_after, replay_log}
use Rattle.blob_model.specs.Opening.{Opening, Continues, Begins, opening, IsOpened, Continued, Begun}
use Rattle.blob_model.specs.Places.{Place, same_place}
use Rattle.blob_model.specs.SamePlace.{same_place_exact}
use Rattle.blob_model.proofs.FileSteps.{durable_is, log_push_at, log_without}
use Rattle.blob_model.proofs.Opened.{not_begun}
use Rattle.blob_faulty.specs.declared.storage.Storage.{Storage}
use Rattle.blob_faulty.specs.Fits.{FitsAll, FitsLog, FitsMode}
use Rattle.blob_faulty.specs.Leaves.{LeavesOnly, Test}
use Rattle.blob_faulty.specs.Names.{Steps}
use Rattle.blob_faulty.specs.Syncs.{Publishes, Starts}
use Rattle.blob_faulty.specs.Wrapper.{Adds, Stands, inner_of}
use Rattle.blob_faulty.proofs.Following.{crashed_follow, crashed_published, durable_follow, durable_published, log_here}
use Rattle.blob_faulty.proofs.Keeping.{here_beside}

-- choices of nothing fit every mode
mode_none : (mode : PartialWriteMode) (o n : ℕ) → FitsMode mode o n (λ _. false)
mode_none Prefix o n = λ i j le lt is. is
mode_none Subset o n = tt
mode_none (Sectors size) o n = λ some i j li lj same. refl

pub fits_none : (es : List Entry) → FitsAll (λ _ _. false) es
fits_none [] = tt
fits_none (Kept o b ∷ es) = (tt, fits_none es)
fits_none (Loose w ∷ es) = (mode_none w.mode w.offset (length w.bytes), fits_none es)
fits_none (Resized n ∷ es) = (tt, fits_none es)

-- entries of another incarnation
beside_log : (f : Files) (a o : Place) (es : List Entry) → same_place a o ≡ false → log_of (all_logged f a es).log o ≡ log_of f.log o
beside_log f a o [] other = refl
beside_log f a o (e ∷ es) other = beside_log (log_entry f a e) a o es other ∙ log_push_at f.log e a o ∙ cond-false (same_place a o) _ _ other

beside_base : (f : Files) (a o : Place) (es : List Entry) → (all_logged f a es).base o ≡ f.base o
beside_base f a o [] = refl
beside_base f a o (e ∷ es) = beside_base (log_entry f a e) a o es

-- the log of an incarnation with more entries
log_added : (f : Files) (o : Place) (es : List Entry) → log_of (all_logged f o es).log o ≡ log_of f.log o ++ es
log_added f o [] = sym (append-nil (log_of f.log o))
log_added f o (e ∷ es) = log_added (log_entry f o e) o es ∙ ap (λ (l : List Entry). l ++ es) (log_here f o e) ∙ append_assoc (log_of f.log o) (e ∷ []) es

-- another one is published
log_published : (f : Files) (a o : Place) (x : List ℕ) → same_place a o ≡ false → log_of (publish f a x).log o ≡ log_of f.log o
log_published f a o x other = log_without f.log (same_place a) o ∙ cond-false (same_place a o) _ _ other

base_published : (f : Files) (a o : Place) (x : List ℕ) → same_place a o ≡ false → (publish f a x).base o ≡ f.base o
base_published f a o x other = cond-false (same_place a o) x (f.base o) other

-- choices that fit two lists, and a whole log
fits_both : (t : Choices) (xs ys : List Entry) → FitsAll t (xs ++ ys) → FitsAll t xs × FitsAll t ys
fits_both t [] ys fits = (tt, fits)
fits_both t (x ∷ xs) ys (first, fits) = let both = fits_both t xs ys fits in ((first, both.0), both.1)

pub fits_of : (t : Choices) (log : List Logged) (o : Place) → FitsLog t log → FitsAll t (log_of log o)
fits_of t [] o all = tt
fits_of t (e ∷ log) o (first, all) = cond_both (same_place e.place o) (e.entry ∷ log_of log o) (log_of log o) (λ l. FitsAll t l) (λ _. (first, fits_of t log o all)) (λ _. fits_of t log o all)

-- all that may be found of an incarnation, by the files
abbrev pub Passes : Test → Place → Files → Type 0
Passes test o f = (test (durable_at f o) ≡ true) × ((t : Choices) → FitsAll t (log_of f.log o) → test (crashed_at f t o) ≡ true)

-- files in which it has the same base and the same log
passes_same : (test : Test) (o : Place) (f g : Files) → g.base o ≡ f.base o → log_of g.log o ≡ log_of f.log o → Passes test o f → Passes test o g
passes_same test o f g base log passes = (
  ap test (ap₂ durable_after base log) ∙ passes.0,
  λ t fits. ap test (ap₂ (λ (x : List ℕ) (l : List Entry). replay_log x l t) base log) ∙ passes.1 t (subst (λ (l : List Entry). FitsAll t l) log fits),
)

passes_published : (test : Test) (o : Place) (f : Files) (x : List ℕ) → test x ≡ true → Passes test o (publish f o x)
passes_published test o f x passes = (ap test (durable_published f o x) ∙ passes, λ t fits. ap test (crashed_published f o x t) ∙ passes)

passes_admitted : (test : Test) (o : Place) (f : Files) (c : Option Place) → Passes test o f → Passes test o (admitted_at f c)
passes_admitted test o f None passes = passes
passes_admitted test o f (Some a) passes = ⊎_elim
    (λ y. subst (λ (b : Place). Passes test o (publish f b (durable_at f b))) (sym (same_place_exact a o y)) (passes_published test o f (durable_at f o) passes.0))
    (λ n. passes_same test o f (publish f a (durable_at f a)) (base_published f a o (durable_at f a) n) (log_published f a o (durable_at f a) n) passes)
    (cases_Bool (same_place a o))

module _ {S R O : Type 0} (place : O → Place) (names : S → Directory) (bytes_of : S → Durable) where
  abbrev IsFor : Storage S R O → Files → Type 0
  IsFor w f = Stands place (names (inner_of w)) (bytes_of (inner_of w)) w f

  abbrev Leaves : Storage S R O → Place → Test → Type 0
  Leaves w o test = LeavesOnly place names bytes_of w o test

  pub leaves_found : (w : Storage S R O) (o : Place) (test : Test) (live : List ℕ) → Leaves w o test → bytes_of (inner_of w) o ≡ Some live → test live ≡ true
  leaves_found w o test live k holds = ap test (durable_is _ _ _ _ _ k.files o live holds k.stands) ∙ k.durable

  pub leaves_weaker : (w : Storage S R O) (o : Place) (test weaker : Test) → ((x : List ℕ) → test x ≡ true → weaker x ≡ true) → Leaves w o test → Leaves w o weaker
  leaves_weaker w o test weaker each k = record {
    files = k.files;
    stands = k.stands;
    here = k.here;
    given = k.given;
    durable = each (durable_at k.files o) k.durable;
    crash = λ t fits. each (crashed_at k.files t o) (k.crash t fits);
  }

  -- a call that leaves the directory
  module _ (old new : Storage S R O) (o : Place) (test : Test) (same : names (inner_of new) ≡ names (inner_of old)) (k : Leaves old o test) where
    stepped : (next : Test) (files : Files) → IsFor new files → Passes next o files → Leaves new o next
    stepped next files stands passes = record {
      files = files;
      stands = stands;
      here = subst (λ (d : Directory). current d o.partition o.name ≡ Some o) (sym same) k.here;
      given = subst (λ (d : Directory). o.number < d.next) (sym same) k.given;
      durable = passes.0;
      crash = passes.1;
    }

    pub leaves_same : Steps place names bytes_of old new (λ files. files) → Leaves new o test
    leaves_same steps = stepped test k.files (steps k.files k.stands) (k.durable, k.crash)

    pub leaves_crashed : (t : Choices) → FitsAll t (log_of k.files.log o) → Steps place names bytes_of old new (λ files. after_crash files t) → Leaves new o test
    leaves_crashed t fits steps = stepped test (after_crash k.files t) (steps k.files k.stands) (k.crash t fits, λ u none. k.crash t fits)

    -- it records mutations
    module _ (a : Place) (es : List Entry) (given : a.number < (names (inner_of old)).next) (adds : Adds place (names (inner_of old)) (bytes_of (inner_of old)) (bytes_of (inner_of new)) old new a es) where
      added : IsFor new (all_logged k.files a es)
      added = subst (λ (d : Directory). Stands place d (bytes_of (inner_of new)) new (all_logged k.files a es)) (sym same) (adds k.files given k.stands)

      -- of another incarnation
      pub leaves_beside : same_place a o ≡ false → Leaves new o test
      leaves_beside other = stepped test (all_logged k.files a es) added (passes_same test o k.files (all_logged k.files a es) (beside_base k.files a o es) (beside_log k.files a o es other) (k.durable, k.crash))

    -- of this incarnation
    pub leaves_added : (es : List Entry) → Adds place (names (inner_of old)) (bytes_of (inner_of old)) (bytes_of (inner_of new)) old new o es → (next : Test) →
        ((x : List ℕ) → test x ≡ true → next (durable_after x es) ≡ true) → ((x : List ℕ) (t : Choices) → test x ≡ true → FitsAll t es → next (replay_log x es t) ≡ true) → Leaves new o next
    leaves_added es adds next durably crashed = stepped next (all_logged k.files o es) (added o es k.given adds) (
      ap next (durable_follow k.files o es) ∙ durably (durable_at k.files o) k.durable,
      λ t fits. let both = fits_both t (log_of k.files.log o) es (subst (λ (l : List Entry). FitsAll t l) (log_added k.files o es) fits) in ap next (crashed_follow k.files o es t) ∙ crashed (crashed_at k.files t o) t (k.crash t both.0) both.1,
    )

    -- it publishes bytes
    pub leaves_published : (next : Test) (live : List ℕ) → Publishes place (names (inner_of old)) (bytes_of (inner_of old)) (bytes_of (inner_of new)) old new o live → next live ≡ true → Leaves new o next
    leaves_published next live published passes = stepped next (publish k.files o live)
        (subst (λ (d : Directory). Stands place d (bytes_of (inner_of new)) new (publish k.files o live)) (sym same) (published k.files k.stands))
        (passes_published next o k.files live passes)

    pub leaves_started : (next : Test) (live : List ℕ) → Starts place (names (inner_of old)) (bytes_of (inner_of old)) (bytes_of (inner_of new)) old new o live → next live ≡ true → Leaves new o next
    leaves_started next live started passes = stepped next (start_sync k.files o live)
        (subst (λ (d : Directory). Stands place d (bytes_of (inner_of new)) new (start_sync k.files o live)) (sym same) (started k.files k.given k.stands))
        (passes_published next o k.files live passes)

    -- it publishes bytes of another incarnation
    pub published_beside : (a : Place) (live : List ℕ) → Publishes place (names (inner_of old)) (bytes_of (inner_of old)) (bytes_of (inner_of new)) old new a live → same_place a o ≡ false → Leaves new o test
    published_beside a live published other = stepped test (publish k.files a live)
        (subst (λ (d : Directory). Stands place d (bytes_of (inner_of new)) new (publish k.files a live)) (sym same) (published k.files k.stands))
        (passes_same test o k.files (publish k.files a live) (base_published k.files a o live other) (log_published k.files a o live other) (k.durable, k.crash))

    pub started_beside : (a : Place) (live : List ℕ) → a.number < (names (inner_of old)).next → Starts place (names (inner_of old)) (bytes_of (inner_of old)) (bytes_of (inner_of new)) old new a live → same_place a o ≡ false → Leaves new o test
    started_beside a live given started other = stepped test (start_sync k.files a live)
        (subst (λ (d : Directory). Stands place d (bytes_of (inner_of new)) new (start_sync k.files a live)) (sym same) (started k.files given k.stands))
        (passes_same test o k.files (start_sync k.files a live) (base_published k.files a o live other) (log_published k.files a o live other) (k.durable, k.crash))

    -- it discards what is pending of a name
    pub leaves_admitted : (p n : List ℕ) → Steps place names bytes_of old new (λ files. admit files p n) → Leaves new o test
    leaves_admitted p n steps = stepped test (admit k.files p n) (steps k.files k.stands) (passes_admitted test o k.files (current k.files.directory p n) (k.durable, k.crash))

  -- An open.

  module _ (old new : Storage S R O) (p n : List ℕ) (first last : ℕ) (steps : Steps place names bytes_of old new (λ files. after_open files p n first last)) (o : Place) (test : Test) (k : Leaves old o test) where
    found_of : (found : Opening) → opening p n ((names (inner_of old)).file p n) first last ≡ found → after_open k.files p n first last ≡ with_opening k.files p n found
    found_of found e = ap (with_opening k.files p n) (ap (λ (d : Directory). opening p n (d.file p n) first last) (sym k.stands.directory) ∙ e)

    pub leaves_opened : (a : Place) (live : List ℕ) (version : ℕ) → IsOpened (names (inner_of old)) (bytes_of (inner_of old)) (names (inner_of new)) (bytes_of (inner_of new)) p n first last a live version → Leaves new o test
    leaves_opened a live version (Continued number layout opens at holds same unchanged) =
        stepped old new o test same k test (after_open k.files p n first last) (steps k.files k.stands)
        (subst (λ (f : Files). Passes test o f) (sym (found_of (Continues number layout version) opens)) (k.durable, k.crash))
    leaves_opened a live version (Begun layout opens at begun unchanged) =
        let d = names (inner_of old) in
        let next : d.next ≡ k.files.directory.next = ap (λ (e : Directory). e.next) k.stands.directory in
        let m = place_made k.files.directory p n layout in
        let given = k.given in
        let base : cond (same_place m o) live (k.files.base o) ≡ k.files.base o = cond-false (same_place m o) live (k.files.base o) (apart m (omega (arith, given, next))) in
        let passes : Passes test o (after_open k.files p n first last) = subst (λ (f : Files). Passes test o f) (sym (found_of (Begins layout version live) opens)) (
          ap (λ (x : List ℕ). test (durable_after x (log_of k.files.log o))) base ∙ k.durable,
          λ t fits. ap (λ (x : List ℕ). test (replay_log x (log_of k.files.log o) t)) base ∙ k.crash t fits,
        ) in
        record {
          files = after_open k.files p n first last;
          stands = steps k.files k.stands;
          here = subst (λ (e : Directory). current e o.partition o.name ≡ Some o) (sym begun)
              (here_beside d p n (Some (Incarnation d.next layout version)) o (λ here. not_begun p n (d.file p n) first last version layout live o here opens) k.here);
          given = subst (λ (e : Directory). o.number < e.next) (sym begun) (omega arith);
          durable = passes.0;
          crash = passes.1;
        }
      where
        apart : (m : Place) → o.number < m.number → same_place m o ≡ false
        apart m above = ⊎_elim (λ (same : same_place m o ≡ true). absurd (omega (arith, above, ap (λ (x : Place). x.number) (same_place_exact m o same)))) (λ (no : same_place m o ≡ false). no) (cases_Bool (same_place m o))
