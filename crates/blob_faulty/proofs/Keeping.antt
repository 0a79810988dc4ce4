-- What calls leave of the bytes that a wrapper keeps.
use Rattle.std.proofs.Common.{◌≡◌, ℕ, ◌<◌, ◌≤◌, List, [], ◌∷◌, ◌++◌, true, false, Option, Some, refl, sym, ap, ◌∙◌, subst, length, get_or, drop, arith, append-nil, length-append, ⊎_elim}
use Rattle.std.proofs.lemmas.Bool.{cases_lt, cases_Bool, cond-true, cond-false}
use Rattle.std.proofs.lemmas.List.{get_or_append_left, get_or-append_right}
use Rattle.std.proofs.lemmas.List.Prefix.{front_from_reads}
use Rattle.std.specs.Cmp.Lexicographic.{bytes_decides}
use Rattle.std.specs.Str.{bytes_eq}
use Rattle.blob_model.specs.Directory.{Directory, File, Incarnation, current, place_in, place_made, with_file}
use Rattle.blob_model.specs.Durable.{Durable}
use Rattle.blob_model.specs.Files.{Files, all_logged, after_crash, after_open, admit, admitted_at, with_opening}
use Rattle.blob_header.specs.Fronts.{BeginsWith}
use Rattle.blob_model.specs.Log.{Entry, Kept, Choices}
use Rattle.blob_model.specs.Opened.{IsNamed}
use Rattle.blob_model.specs.Opening.{Opening, Continues, Begins, opening, IsOpened, Continued, Begun}
use Rattle.blob_model.specs.Persistence.{HasByte, IsFixed, AreFixed, any_touches}
use Rattle.blob_model.specs.Places.{Place, same_place}
use Rattle.blob_model.specs.SamePlace.{same_place_exact}
use Rattle.blob_model.proofs.Bytes.{lies_below}
use Rattle.blob_model.proofs.FileSteps.{durable_is}
use Rattle.blob_model.proofs.Opened.{not_begun}
use Rattle.blob_model.proofs.Persistence.{fixed_all, fixed_by_write, fixed_by_open, fixed_crashed, fixed_admitted, fixed_beside}
use Rattle.blob_faulty.specs.declared.storage.Storage.{Storage}
use Rattle.blob_faulty.specs.Keeps.{KeepsBytes}
use Rattle.blob_faulty.specs.Names.{Steps}
use Rattle.blob_draws.specs.Recorded.{kept_entries}
use Rattle.blob_faulty.specs.Wrapper.{Adds, Stands, inner_of}

-- another name's incarnation
pub here_beside : (d : Directory) (p n : List ℕ) (file : Option File) (o : Place) → (current d p n ≡ Some o → ⊥) → current d o.partition o.name ≡ Some o → place_in o.partition o.name (with_file d.file p n file o.partition o.name) ≡ Some o
here_beside d p n file o other here =
    ⊎_elim
    (λ y. ⊎_elim
    (λ z. absurd (other ((λ i. current d ((bytes_decides p o.partition).0 y i) ((bytes_decides n o.name).0 z i)) ∙ here)))
    (λ no. ap (place_in o.partition o.name) (cond-true (bytes_eq p o.partition) _ _ y ∙ cond-false (bytes_eq n o.name) file (d.file o.partition o.name) no) ∙ here)
    (cases_Bool (bytes_eq n o.name)))
    (λ no. ap (place_in o.partition o.name) (cond-false (bytes_eq p o.partition) _ (d.file o.partition o.name) no) ∙ here)
    (cases_Bool (bytes_eq p o.partition))

-- Bytes that are each at their index in the live bytes are a prefix of them.
front_of : (front live : List ℕ) → ((q : ℕ) → q < length front → HasByte q (get_or front q 0) live) → BeginsWith front live
front_of front live has = (drop (length front) live, sym (front_from_reads 0 live front (fits front has) (λ q lt. (has q lt).1)))
  where
    fits : (b : List ℕ) → ((q : ℕ) → q < length b → HasByte q (get_or b q 0) live) → length b ≤ length live
    fits [] h = omega arith
    fits (y ∷ ys) h = omega (arith, (h (length ys) (omega arith)).0)

pub current_named : (d : Directory) (o : Place) (p n : List ℕ) → IsNamed o p n → current d o.partition o.name ≡ Some o → current d p n ≡ Some o
current_named d o p n named here = subst (λ (q : List ℕ). current d q n ≡ Some o) named.partition (subst (λ (m : List ℕ). current d o.partition m ≡ Some o) named.name here)

module _ {S R O : Type 0} (place : O → Place) (names : S → Directory) (bytes_of : S → Durable) where
  abbrev IsFor : Storage S R O → Files → Type 0
  IsFor w f = Stands place (names (inner_of w)) (bytes_of (inner_of w)) w f

  abbrev Keeps : Storage S R O → Place → List ℕ → Type 0
  Keeps w o bytes = KeepsBytes place names bytes_of w o bytes

  -- a call that leaves the directory
  module _ (old new : Storage S R O) (o : Place) (bytes : List ℕ) (same : names (inner_of new) ≡ names (inner_of old)) (k : Keeps old o bytes) where
    stepped : (later : List ℕ) (files : Files) → IsFor new files → AreFixed later files o → Keeps new o later
    stepped later files stands fixed = record {
      files = files;
      stands = stands;
      here = subst (λ (d : Directory). current d o.partition o.name ≡ Some o) (sym same) k.here;
      given = subst (λ (d : Directory). o.number < d.next) (sym same) k.given;
      fixed = fixed;
    }

    -- it leaves the files
    pub keeps_same : Steps place names bytes_of old new (λ files. files) → Keeps new o bytes
    keeps_same steps = stepped bytes k.files (steps k.files k.stands) k.fixed

    -- it is a crash
    pub keeps_crashed : (t : Choices) → Steps place names bytes_of old new (λ files. after_crash files t) → Keeps new o bytes
    keeps_crashed t steps = stepped bytes (after_crash k.files t) (steps k.files k.stands) (λ q lt. fixed_crashed k.files o q (get_or bytes q 0) t (k.fixed q lt))

    -- it retires what is pending of a name
    pub keeps_admitted : (p n : List ℕ) → Steps place names bytes_of old new (λ files. admit files p n) → Keeps new o bytes
    keeps_admitted p n steps = stepped bytes (admit k.files p n) (steps k.files k.stands) (λ q lt. fixed_admitted k.files o q (get_or bytes q 0) p n (k.fixed q lt))

    -- it records mutations of the incarnation
    module _ (es : List Entry) (adds : Adds place (names (inner_of old)) (bytes_of (inner_of old)) (bytes_of (inner_of new)) old new o es) where
      added : IsFor new (all_logged k.files o es)
      added = subst (λ (d : Directory). Stands place d (bytes_of (inner_of new)) new (all_logged k.files o es)) (sym same) (adds k.files k.given k.stands)

      -- that touch none of the bytes
      pub keeps_beside : ((q : ℕ) → q < length bytes → any_touches q es ≡ false) → Keeps new o bytes
      keeps_beside out = stepped bytes (all_logged k.files o es) added (λ q lt. fixed_all k.files o o q (get_or bytes q 0) es (λ _. out q lt) (k.fixed q lt))

    -- one write that is kept, right after the bytes
    pub keeps_more : (more : List ℕ) → Adds place (names (inner_of old)) (bytes_of (inner_of old)) (bytes_of (inner_of new)) old new o (kept_entries (length bytes) more) → Keeps new o (bytes ++ more)
    keeps_more [] adds = subst (λ (b : List ℕ). Keeps new o b) (sym (append-nil bytes)) (keeps_beside [] adds (λ q lt. refl))
    keeps_more (y ∷ ys) adds = stepped (bytes ++ y ∷ ys) (all_logged k.files o (Kept (length bytes) (y ∷ ys) ∷ [])) (added (Kept (length bytes) (y ∷ ys) ∷ []) adds) (λ q lt.
        ⊎_elim
        (λ low. subst (λ (v : ℕ). IsFixed q v (all_logged k.files o (Kept (length bytes) (y ∷ ys) ∷ [])) o) (sym (get_or_append_left bytes (y ∷ ys) 0 q low))
        (fixed_all k.files o o q (get_or bytes q 0) (Kept (length bytes) (y ∷ ys) ∷ []) (λ _. out q low) (k.fixed q low)))
        (λ high. fixed_by_write k.files o q (get_or (bytes ++ y ∷ ys) q 0) (length bytes) (y ∷ ys) high (omega (arith, length-append bytes (y ∷ ys))) (sym (get_or-append_right bytes (y ∷ ys) (length bytes) q 0 refl high)))
        (cases_lt q (length bytes)))
      where
        out : (q : ℕ) → q < length bytes → any_touches q (Kept (length bytes) (y ∷ ys) ∷ []) ≡ false
        out q low = rw (lies_below (length bytes) (length (y ∷ ys)) q low) refl

  -- An open.

  module _ (old new : Storage S R O) (p n : List ℕ) (first last : ℕ) (steps : Steps place names bytes_of old new (λ files. after_open files p n first last)) (o : Place) (bytes : List ℕ) (k : Keeps old o bytes) where
    found_of : (found : Opening) → opening p n ((names (inner_of old)).file p n) first last ≡ found → after_open k.files p n first last ≡ with_opening k.files p n found
    found_of found e = ap (with_opening k.files p n) (ap (λ (d : Directory). opening p n (d.file p n) first last) (sym k.stands.directory) ∙ e)

    pub keeps_open : (a : Place) (live : List ℕ) (version : ℕ) → IsOpened (names (inner_of old)) (bytes_of (inner_of old)) (names (inner_of new)) (bytes_of (inner_of new)) p n first last a live version → Keeps new o bytes
    keeps_open a live version (Continued number layout opens at holds same unchanged) =
        stepped old new o bytes same k bytes (after_open k.files p n first last) (steps k.files k.stands)
        (subst (λ (f : Files). AreFixed bytes f o) (sym (found_of (Continues number layout version) opens)) k.fixed)
    keeps_open a live version (Begun layout opens at begun unchanged) =
        let d = names (inner_of old) in
        let next : d.next ≡ k.files.directory.next = ap (λ (e : Directory). e.next) k.stands.directory in
        let m = place_made k.files.directory p n layout in
        let given = k.given in
        record {
          files = after_open k.files p n first last;
          stands = steps k.files k.stands;
          here = subst (λ (e : Directory). current e o.partition o.name ≡ Some o) (sym begun)
              (here_beside d p n (Some (Incarnation d.next layout version)) o (λ here. not_begun p n (d.file p n) first last version layout live o here opens) k.here);
          given = subst (λ (e : Directory). o.number < e.next) (sym begun) (omega arith);
          fixed = subst (λ (f : Files). AreFixed bytes f o) (sym (found_of (Begins layout version live) opens))
              (λ q lt. fixed_beside k.files o q (get_or bytes q 0) p n layout version live (k.stands.fresh m (omega arith)).1 (apart m (omega (arith, given, next))) (k.fixed q lt));
        }
      where
        apart : (m : Place) → o.number < m.number → same_place m o ≡ false
        apart m above = ⊎_elim (λ (same : same_place m o ≡ true). absurd (omega (arith, above, ap (λ (x : Place). x.number) (same_place_exact m o same)))) (λ (no : same_place m o ≡ false). no) (cases_Bool (same_place m o))

  -- what is kept is durable
  pub kept_front : (w : Storage S R O) (o : Place) (bytes live : List ℕ) → Keeps w o bytes → bytes_of (inner_of w) o ≡ Some live → BeginsWith bytes live
  kept_front w o bytes live k holds =
      let is = durable_is _ _ _ _ _ k.files o live holds k.stands in
      front_of bytes live (λ q lt. subst (λ (x : List ℕ). HasByte q (get_or bytes q 0) x) (sym is) (k.fixed q lt).durable)

  -- what an open finds durable is kept, once it is admitted
  pub keeps_found : (old new : Storage S R O) (o : Place) (live p n : List ℕ) (f : Files) → IsFor old f → inner_of new ≡ inner_of old → IsFor new (admit f p n) → IsNamed o p n
      → current (names (inner_of old)) p n ≡ Some o → bytes_of (inner_of old) o ≡ Some live → o.number < (names (inner_of old)).next → Keeps new o live
  keeps_found old new o live p n f stands inside after named here holds given =
      let is = durable_is _ _ _ _ _ f o live holds stands in
      let now : current f.directory p n ≡ Some o = ap (λ (d : Directory). current d p n) (sym stands.directory) ∙ here in
      record {
        files = admit f p n;
        stands = after;
        here = ap (λ (s : S). current (names s) o.partition o.name) inside
            ∙ subst (λ (q : List ℕ). current (names (inner_of old)) q o.name ≡ Some o) (sym named.partition) (subst (λ (m : List ℕ). current (names (inner_of old)) p m ≡ Some o) (sym named.name) here);
        given = subst (λ (s : S). o.number < (names s).next) (sym inside) given;
        fixed = λ q lt. subst (λ (c : Option Place). IsFixed q (get_or live q 0) (admitted_at f c) o) (sym now)
            (fixed_by_open f o q (get_or live q 0) (subst (λ (x : List ℕ). HasByte q (get_or live q 0) x) is (lt, refl)));
      }

  -- a prefix of what is kept
  pub keeps_front : (w : Storage S R O) (o : Place) (front bytes : List ℕ) → BeginsWith front bytes → Keeps w o bytes → Keeps w o front
  keeps_front w o front bytes (rest, is) k = record {
    files = k.files;
    stands = k.stands;
    here = k.here;
    given = k.given;
    fixed = λ q lt.
        let same : get_or bytes q 0 ≡ get_or front q 0 = ap (λ (l : List ℕ). get_or l q 0) (sym is) ∙ get_or_append_left front rest 0 q lt in
        subst (λ (v : ℕ). IsFixed q v k.files o) same (k.fixed q (omega (arith, length-append front rest, ap length is)));
  }
