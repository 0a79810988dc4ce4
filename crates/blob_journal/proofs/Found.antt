-- What may be found of a journal after the calls of its store.
use Rattle.std.proofs.Common.{◌≡◌, ◌&&◌, ◌==◌, ℕ, ◌+◌, ◌-◌, ◌<◌, ◌≤◌, ◌++◌, ◌^◌, ⊎_elim, Bool, true, false, List, [], ◌∷◌, length, get_or, map, Option, Some, None, refl, sym, ap, ap₂, subst, ◌∙◌, arith}
use Rattle.std.proofs.Math.Logic.{∥∥₁_map}
use Rattle.std.specs.Prelude.{codes, filter, nat_eq, Result, Ok, Err, OnErr}
use Rattle.std.specs.Str.{bytes_eq}
use Rattle.std.specs.Int.{w64, to_be_bytes}
use Rattle.std.proofs.lemmas.Bool.{cases_Bool, cond-false}
use Rattle.blob_model.specs.Bytes.{overlay, overlay_by}
use Rattle.blob_model.specs.Directory.{Directory, current, directory_without, is_current}
use Rattle.blob_model.specs.Durable.{Durable, is_under}
use Rattle.blob_model.specs.Files.{after_remove, log_of}
use Rattle.blob_model.specs.Log.{Choices, Entry, durable_after, replay_log}
use Rattle.blob_model.specs.Opening.{Begun, Begins, Continued, Continues, IsOpened, opening}
use Rattle.blob_model.specs.Pending.{Pending}
use Rattle.blob_model.specs.Places.{Place, same_place}
use Rattle.blob_model.specs.SamePlace.{same_place_exact}
use Rattle.blob_model.specs.Stands.{StandsAt, replayed_at}
use Rattle.blob_model.proofs.FileSteps.{durable_is, log_without}
use Rattle.blob_memory.specs.Store.{directory, durable, live, place}
use Rattle.blob_draws.specs.declared.config.Config.{Config}
use Rattle.blob_draws.specs.Recorded.{kept_entries}
use Rattle.blob_faulty.specs.Fits.{FitsAll}
use Rattle.blob_faulty.specs.Keeps.{OverMemory}
use Rattle.blob_faulty.specs.Leaves.{Test}
use Rattle.blob_faulty.specs.Lends.{with_config, with_rng}
use Rattle.blob_faulty.specs.Names.{Steps}
use Rattle.blob_faulty.specs.Wrapper.{Adds, inner_of, inside, pending_of}
use Rattle.blob_faulty.proofs.FoundSteps.{leaves_added}
use Rattle.blob_packed.specs.Losses.{OneMoreIsLeft, PackedAreFound, PackedIsLeft, SettledIsLeft, may_be_left}
use Rattle.blob_packed.specs.Records.{IsPacked, Record, packed, record_bytes}
use Rattle.blob_directory.specs.declared.unsettled.Unsettled.{Unsettled}
use Rattle.blob_directory.specs.Names.{edit_of}
use Rattle.blob_directory.specs.Records.{Found, edit_bytes, edit_found, found_in, record_of}
use Rattle.blob_directory.specs.Settled.{AreSettled}
use Rattle.blob_directory.specs.Syncs.{marked}
use Rattle.blob_journal.specs.declared.journal.Journal.{Journal}
use Rattle.blob_journal.specs.Currents.{FindsNoMore, FindsNoMoreBeside, FindsOnly, IsFixed, KeepsNext, Represents}
use Rattle.blob_journal.specs.Found.{AddsEdit, HasRecords, IsKept, KeepsRecords, SettlesEdit, bytes_in, told_by}
use Rattle.blob_journal.specs.Records.{AreListed, HasEdit, settled_of}
use Rattle.blob_journal.specs.Told.{is_marked_in, settled_in}
use Rattle.blob_journal.proofs.Currents.{current_of_name, named_current, removed_keeps, same_number}
use Rattle.blob_journal.proofs.Draws.{IsLoose, KeepsWhole, loose_crash, loose_lasting, loses_whole}
use Rattle.blob_journal.proofs.Listed.{in_added, in_filtered, in_has, in_marked, in_settled}
use Rattle.blob_journal.proofs.Records.{told_again, told_is, told_long, told_more, told_of}
use Rattle.blob_journal.proofs.Settling.{kept_over}
use Rattle.blob_journal.proofs.Unsettled.{listed_added, listed_left, listed_marked, listed_none, listed_settled, unwanted}

some_same : {T : Type 0} {a b : T} → Some a ≡ Some b → a ≡ b
some_same e = cc

-- a fact about a result that isn't Ok
pub on_err : {T E : Type 0} (r : Result T E) (Q : Type 0) → Q → OnErr r Q
on_err (Ok x) Q q = tt
on_err (Err e) Q q = q

-- other faults
configured : {R : Type 0} (store : OverMemory R) (config : Config) (o : Place) (test : Test) → FindsOnly store o test → FindsOnly (with_config store config) o test
configured store config o test k = record { files = k.files; stands = k.stands; here = k.here; given = k.given; durable = k.durable; crash = k.crash }

pub no_more_set : {R : Type 0} (before after : OverMemory R) (config : Config) → after ≡ with_config before config → FindsNoMore before after
no_more_set before after config is = λ o test k. subst (λ s. FindsOnly s o test) (sym is) (configured before config o test k)

-- another generator
drawn_by : {R : Type 0} (store : OverMemory R) (rng : R) (o : Place) (test : Test) → FindsOnly store o test → FindsOnly (with_rng store rng) o test
drawn_by store rng o test k = record { files = k.files; stands = k.stands; here = k.here; given = k.given; durable = k.durable; crash = k.crash }

pub no_more_drawn : {R : Type 0} (before after : OverMemory R) (rng : R) → after ≡ with_rng before rng → FindsNoMore before after
no_more_drawn before after rng is = λ o test k. subst (λ s. FindsOnly s o test) (sym is) (drawn_by before rng o test k)

-- the same directory gives the same numbers
pub same_next : (d d' : Directory) → d' ≡ d → d.next ≤ d'.next
same_next d d' same = let next : d'.next ≡ d.next = ap (λ (x : Directory). x.next) same in omega (arith, next)

-- a missing blob is created empty
pub begun_empty : (d : Directory) (b : Durable) (d' : Directory) (b' : Durable) (p n : List ℕ) (first last : ℕ) (o : Place) (bytes : List ℕ) (version : ℕ)
    → IsOpened d b d' b' p n first last o bytes version → d.file p n ≡ None → bytes ≡ []
begun_empty d b d' b' p n first last o bytes version (Continued number layout found is here same unchanged) none =
    let e : opening p n None first last ≡ Continues number layout version = ap (λ f. opening p n f first last) (sym none) ∙ found in
    absurd (cc)
begun_empty d b d' b' p n first last o bytes version (Begun layout found is made unchanged) none =
    let e : opening p n None first last ≡ Begins layout version bytes = ap (λ f. opening p n f first last) (sym none) ∙ found in
    cc

-- an open gives no number again
pub opened_next : (d : Directory) (b : Durable) (d' : Directory) (b' : Durable) (p n : List ℕ) (first last : ℕ) (o : Place) (bytes : List ℕ) (version : ℕ)
    → IsOpened d b d' b' p n first last o bytes version → d.next ≤ d'.next
opened_next d b d' b' p n first last o bytes version (Continued number layout found is here same unchanged) = same_next d d' same
opened_next d b d' b' p n first last o bytes version (Begun layout found is made unchanged) =
    let next : d'.next ≡ d.next + 1 = ap (λ (x : Directory). x.next) made in
    omega (arith, next)

-- a removal of another name
pub removed_found : {R : Type 0} (before after : OverMemory R) (p n : List ℕ) → directory (inner_of after) ≡ directory_without (directory (inner_of before)) p (Some n)
    → Steps (λ o. o) directory durable before after (λ files. after_remove files p (Some n)) → FindsNoMoreBeside p n before after
removed_found before after p n named steps = λ o test other k.
    let d = directory (inner_of before) in
    let gone : Place → Bool = λ a. is_under p (Some n) a && is_current k.files.directory a in
    let log : log_of (after_remove k.files p (Some n)).log o ≡ log_of k.files.log o =
    log_without k.files.log gone o ∙ cond-false (gone o) [] (log_of k.files.log o) (ap (λ (b : Bool). b && is_current k.files.directory o) other) in
    record {
      files = after_remove k.files p (Some n);
      stands = steps k.files k.stands;
      here = subst (λ (e : Directory). current e o.partition o.name ≡ Some o) (sym named)
          (current_of_name (directory_without d p (Some n)) o (removed_keeps d p n o other (named_current d o.partition o.name o k.here)));
      given = subst (λ (e : Directory). o.number < e.next) (sym named) k.given;
      durable = ap (λ (l : List Entry). test (durable_after (k.files.base o) l)) log ∙ k.durable;
      crash = λ t fits. ap (λ (l : List Entry). test (replay_log (k.files.base o) l t)) log ∙ k.crash t (subst (λ (l : List Entry). FitsAll t l) log fits);
    }

-- bytes that every crash leaves
crashed_is : (v : Option (List ℕ)) (q : List Pending) (base : List ℕ) (log : List Entry) (t : Choices) (bytes : List ℕ) → StandsAt v q base log → replayed_at t q v ≡ Some bytes → replay_log base log t ≡ bytes
crashed_is None q base log t bytes s e = absurd (cc)
crashed_is (Some x) q base log t bytes s e = sym (s.crash t) ∙ some_same e

pub only_fixed : {R : Type 0} (store : OverMemory R) (o : Place) (bytes : List ℕ) (test : Test) → Represents store → is_current (directory (inner_of store)) o ≡ true
    → o.number < (directory (inner_of store)).next → IsFixed store o bytes → test bytes ≡ true → FindsOnly store o test
only_fixed store o bytes test r now given fixed passes = record {
  files = r.0;
  stands = r.1;
  here = current_of_name (directory (inner_of store)) o now;
  given = given;
  durable = ap test (sym (durable_is _ _ _ _ _ r.0 o bytes fixed.durable r.1)) ∙ passes;
  crash = λ t fits. ap test (crashed_is (durable (inner_of store) o) (pending_of (λ (p : Place). p) store o) (r.0.base o) (log_of r.0.log o) t bytes (r.1.at o) (fixed.left t)) ∙ passes;
}

-- no more may be found of the journal
pub still_kept : {R : Type 0} (before after : OverMemory R) (journal : Journal) (edits : List Unsettled)
    → ((test : Test) → FindsOnly before (place (inside journal.blob)) test → FindsOnly after (place (inside journal.blob)) test) → ∥ IsKept before journal edits ∥₁ → ∥ IsKept after journal edits ∥₁
still_kept before after journal edits f h = ∥∥₁_map h (λ k. record {
  records = k.records;
  has = record { seen = k.has.seen; count = k.has.count; end = k.has.end; fit = k.has.fit; found = f (may_be_left 0 k.records) k.has.found };
  listed = k.listed;
  unsettled = k.unsettled;
})

-- a number below those that were given
pub still_given : {R : Type 0} (before after : OverMemory R) (n : ℕ) → KeepsNext before after → n ≤ (directory (inner_of before)).next → n ≤ (directory (inner_of after)).next
still_given before after n next below = omega (arith, next, below)

-- a number that was given
pub still_above : {R : Type 0} (before after : OverMemory R) (n : ℕ) → KeepsNext before after → n < (directory (inner_of before)).next → n < (directory (inner_of after)).next
still_above before after n next below = omega (arith, next, below)

-- A write to the blob.

abbrev pub Records : {R : Type 0} → OverMemory R → OverMemory R → Place → List Entry → Type 0
Records before after o es = Adds (λ o. o) (directory (inner_of before)) (durable (inner_of before)) (durable (inner_of after)) before after o es

module _ {R : Type 0} (before after : OverMemory R) (o : Place) (es : List Entry) (same : directory (inner_of after) ≡ directory (inner_of before)) (adds : Records before after o es) where
  -- nothing is recorded
  pub nothing_added : (test : Test) → es ≡ [] → FindsOnly before o test → FindsOnly after o test
  nothing_added test none k = leaves_added (λ o. o) directory durable before after o test same k es adds test
      (λ x passes. ap (λ (l : List Entry). test (durable_after x l)) none ∙ passes)
      (λ x t passes fits. ap (λ (l : List Entry). test (replay_log x l t)) none ∙ passes)

  -- one more record
  module _ (law : OneMoreIsLeft) (rs : List Record) (x : List ℕ) (offset : ℕ) (b : List ℕ) (there : offset ≡ length (packed rs)) (is : b ≡ record_bytes (length rs) (x, false)) (short : offset + length b ≤ 2 ^ 64 - 1) (loose : IsLoose offset b es) where
    step : (y z : List ℕ) → KeepsWhole offset b y z → may_be_left 0 rs y ≡ true → may_be_left 0 (rs ++ (x, false) ∷ []) z ≡ true
    step y z k passes =
        ap (may_be_left 0 (rs ++ (x, false) ∷ [])) (k.is ∙ ap₂ (λ (m : ℕ) (l : List ℕ). overlay_by y m l k.chosen) there is)
        ∙ law rs x y k.chosen (λ i low. k.same i (subst (λ (l : List ℕ). i < length l) (sym is) low)) passes

    pub record_added : FindsOnly before o (may_be_left 0 rs) → FindsOnly after o (may_be_left 0 (rs ++ (x, false) ∷ []))
    record_added k = leaves_added (λ o. o) directory durable before after o (may_be_left 0 rs) same k es adds (may_be_left 0 (rs ++ (x, false) ∷ []))
        (λ y passes. ap (may_be_left 0 (rs ++ (x, false) ∷ [])) (loose_lasting offset b es y loose) ∙ step y y (loses_whole offset b y) passes)
        (λ y t passes fits. step y (replay_log y es t) (loose_crash offset b es y t short loose fits) passes)

  -- a record again, durably
  pub record_settled : SettledIsLeft → (first rest : List Record) (x : List ℕ) (was : Bool) (offset : ℕ) (b : List ℕ) → offset ≡ length (packed first) → b ≡ record_bytes (length first) (x, true) → (b ≡ [] → ⊥)
      → es ≡ kept_entries offset b → FindsOnly before o (may_be_left 0 (first ++ (x, was) ∷ rest)) → FindsOnly after o (may_be_left 0 (first ++ (x, true) ∷ rest))
  record_settled law first rest x was offset b there is some kept f =
      leaves_added (λ o. o) directory durable before after o (may_be_left 0 (first ++ (x, was) ∷ rest)) same f es adds (may_be_left 0 (first ++ (x, true) ∷ rest))
      (λ y passes. ap (λ (l : List Entry). may_be_left 0 (first ++ (x, true) ∷ rest) (durable_after y l)) kept ∙ ap (may_be_left 0 (first ++ (x, true) ∷ rest)) (lasting_over offset b y some) ∙ again y passes)
      (λ y t passes fits. ap (λ (l : List Entry). may_be_left 0 (first ++ (x, true) ∷ rest) (replay_log y l t)) kept ∙ ap (may_be_left 0 (first ++ (x, true) ∷ rest)) (kept_over t offset b y some) ∙ again y passes)
    where
      lasting_over : (offset : ℕ) (bytes x : List ℕ) → (bytes ≡ [] → ⊥) → durable_after x (kept_entries offset bytes) ≡ overlay x offset bytes
      lasting_over offset [] x some = absurd (some refl)
      lasting_over offset (c ∷ bytes) x some = refl

      again : (y : List ℕ) → may_be_left 0 (first ++ (x, was) ∷ rest) y ≡ true → may_be_left 0 (first ++ (x, true) ∷ rest) (overlay y offset b) ≡ true
      again y passes = ap₂ (λ (m : ℕ) (l : List ℕ). may_be_left 0 (first ++ (x, true) ∷ rest) (overlay y m l)) there is ∙ law first rest x y was passes

-- the same store and journal
pub same_kept : {R : Type 0} (s s' : OverMemory R) (j j' : Journal) (edits : List Unsettled) → s ≡ s' → j ≡ j' → IsKept s' j' edits → IsKept s j edits
same_kept s s' j j' edits store journal h = subst (λ x. IsKept x j edits) (sym store) (subst (λ x. IsKept s' x edits) (sym journal) h)

-- What a journal was told, after calls that write a record.

told_same_by : (old new : Journal) → live (inside new.blob) ≡ live (inside old.blob) → told_by new ≡ told_by old
told_same_by old new unwritten = ap found_in unwritten

pub told_one_more : {R : Type 0} → PackedAreFound → (before after : OverMemory R) (old new : Journal) (rs : List Record) (r : Record) → HasRecords before old rs → HasRecords after new (rs ++ r ∷ [])
    → told_by new ≡ told_by old ++ edit_found (Some r) ∷ []
told_one_more law before after old new rs r was now =
    told_is law (rs ++ r ∷ []) (bytes_in new) now.fit now.seen ∙ told_more rs r
    ∙ ap (λ (l : List Found). l ++ edit_found (Some r) ∷ []) (sym (told_is law rs (bytes_in old) was.fit was.seen))

-- the record of an edit is settled
pub told_one : {R : Type 0} → PackedAreFound → (before after : OverMemory R) (old new : Journal) (edits : List Unsettled) (k : ℕ) (item : Unsettled) → k < length edits → item ≡ get_or edits k item
    → SettlesEdit item before old after new → IsKept before old edits → told_by new ≡ settled_in (λ i. nat_eq item.record i) 0 (told_by old)
told_one law before after old new edits k item low is left h =
    let e : HasEdit h.records item = subst (λ (x : Unsettled). HasEdit h.records x) (sym is) (in_has 0 h.records edits k item low h.listed) in
    let now = left h.records e h.has in
    let bytes : List ℕ = edit_bytes (edit_of item.edit) in
    told_is law (settled_of h.records item e) (bytes_in new) now.fit now.seen
    ∙ told_again e.before e.after bytes e.settled item.record e.number
    ∙ ap (λ (l : List Record). settled_in (λ i. nat_eq item.record i) 0 (told_of l)) (sym e.is)
    ∙ ap (settled_in (λ i. nat_eq item.record i) 0) (sym (told_is law h.records (bytes_in old) h.has.fit h.has.seen))

pub settled_kept : {R : Type 0} → PackedAreFound → (before after : OverMemory R) (old new : Journal) (edits : List Unsettled) (k : ℕ) (item : Unsettled) → k < length edits → item ≡ get_or edits k item
    → SettlesEdit item before old after new → IsKept before old edits → IsKept after new edits
settled_kept law before after old new edits k item low is left h =
    let e : HasEdit h.records item = subst (λ (x : Unsettled). HasEdit h.records x) (sym is) (in_has 0 h.records edits k item low h.listed) in
    record {
      records = settled_of h.records item e;
      has = left h.records e h.has;
      listed = in_settled 0 h.records item e edits h.listed;
      unsettled = subst (λ (l : List Found). AreListed 0 l edits) (sym (told_one law before after old new edits k item low is left h))
          (listed_settled (λ i. nat_eq item.record i) 0 (told_by old) edits h.unsettled);
    }

-- the call that settles one returned an error

-- the same records have the same bytes
pub same_told : {R : Type 0} (before after : OverMemory R) (old new : Journal) (edits : List Unsettled) → KeepsRecords before old after new → IsKept before old edits → told_by new ≡ told_by old
same_told before after old new edits stays h = told_same_by old new ((stays h.records h.has).seen ∙ sym h.has.seen)

pub refused_kept : {R : Type 0} (before after : OverMemory R) (old new : Journal) (edits : List Unsettled) → KeepsRecords before old after new → IsKept before old edits → IsKept after new edits
refused_kept before after old new edits stays h = record {
  records = h.records;
  has = stays h.records h.has;
  listed = h.listed;
  unsettled = subst (λ (l : List Found). AreListed 0 l edits) (sym (same_told before after old new edits stays h)) h.unsettled;
}

-- the blob of a file isn't that of a journal
pub other_blob : (a b : Place) → a.partition ≡ codes "f" → b.partition ≡ codes "j" → same_place a b ≡ false
other_blob a b f j = ap₂ (λ (p q : List ℕ). bytes_eq p q && (bytes_eq a.name b.name && (a.number == b.number && a.start == b.start))) f j

-- a record isn't added
pub refused_add : {R : Type 0} (before after : OverMemory R) (old new : Journal) (edits edits' : List Unsettled) → edits' ≡ edits → KeepsRecords before old after new → IsKept before old edits → IsKept after new edits'
refused_add before after old new edits edits' same stays h = subst (λ (es : List Unsettled). IsKept after new es) (sym same) (refused_kept before after old new edits stays h)

-- it is added
pub done_add : {R : Type 0} (before after : OverMemory R) (old new : Journal) (edits reserved edits' : List Unsettled) (e : Unsettled) → edits' ≡ reserved ++ e ∷ [] → reserved ≡ edits
    → e.record ≡ old.records → e.offset ≡ old.end
    → AddsEdit (edit_of e.edit) before old after new → PackedAreFound → IsKept before old edits → IsKept after new edits'
done_add before after old new edits reserved edits' e more same at there left law h =
    let r : Record = record_of (edit_of e.edit) false in
    let rs : List Record = h.records in
    let number : e.record ≡ length rs = at ∙ sym h.has.count in
    let offset : e.offset ≡ length (packed rs) = there ∙ sym h.has.end ∙ ap (λ (l : List ℕ). length l) h.has.seen in
    let count : length (told_by old) ≡ length rs = ap (λ (l : List Found). length l) (told_is law rs (bytes_in old) h.has.fit h.has.seen) ∙ told_long rs in
    subst (λ (es : List Unsettled). IsKept after new es) (sym (more ∙ ap (λ (l : List Unsettled). l ++ e ∷ []) same)) (record {
      records = rs ++ r ∷ [];
      has = left rs h.has;
      listed = in_added 0 rs edits e (omega arith) number offset h.listed;
      unsettled = subst (λ (l : List Found). AreListed 0 l (edits ++ e ∷ [])) (sym (told_one_more law before after old new rs r h.has (left rs h.has)))
          (listed_added 0 (told_by old) (edit_found (Some r)) edits e (omega (arith, number, count)) h.unsettled);
    })

-- edits that are marked, and some of them
pub marked_kept : {R : Type 0} (store : OverMemory R) (journal : Journal) (edits edits' : List Unsettled) (wants : Unsettled → Bool) → edits' ≡ map (marked wants) edits → IsKept store journal edits → IsKept store journal edits'
marked_kept store journal edits edits' wants is h = subst (λ (es : List Unsettled). IsKept store journal es) (sym is) (record {
  records = h.records;
  has = h.has;
  listed = in_marked wants 0 h.records edits h.listed;
  unsettled = listed_marked wants 0 (told_by journal) edits h.unsettled;
})

pub filtered_kept : {R : Type 0} (before after : OverMemory R) (old new : Journal) (edits edits' : List Unsettled) → edits' ≡ filter unwanted edits → told_by new ≡ settled_in (is_marked_in edits) 0 (told_by old)
    → IsKept before old edits → IsKept after new edits → IsKept after new edits'
filtered_kept before after old new edits edits' is told was h = subst (λ (es : List Unsettled). IsKept after new es) (sym is) (record {
  records = h.records;
  has = h.has;
  listed = in_filtered unwanted 0 h.records edits h.listed;
  unsettled = subst (λ (l : List Found). AreListed 0 l (filter unwanted edits)) (sym told) (listed_left edits (told_by old) was.unsettled);
})

-- a journal with no unsettled edit, of which nothing is pending
pub fixed_kept : {R : Type 0} → PackedIsLeft → (store : OverMemory R) (journal : Journal) (edits : List Unsettled) (bytes : List ℕ) (count : ℕ) → Represents store → is_current (directory (inner_of store)) (place (inside journal.blob)) ≡ true
    → (place (inside journal.blob)).number < (directory (inner_of store)).next → IsFixed store (place (inside journal.blob)) bytes → bytes_in journal ≡ bytes → IsPacked count bytes → journal.records ≡ count → journal.end ≡ length bytes
    → AreSettled (found_in bytes) → edits ≡ [] → IsKept store journal edits
fixed_kept law store journal edits bytes count files now given fixed is p counted long settled none =
    subst (λ (es : List Unsettled). IsKept store journal es) (sym none) (record {
      records = p.records;
      has = record {
        seen = is ∙ p.is;
        count = p.counted ∙ sym counted;
        end = ap (λ (l : List ℕ). length l) is ∙ sym long;
        fit = p.fit;
        found = only_fixed store (place (inside journal.blob)) bytes (may_be_left 0 p.records) files now given fixed (ap (may_be_left 0 p.records) p.is ∙ law p.records);
      };
      listed = tt;
      unsettled = listed_none 0 (told_by journal) [] (subst (λ (l : List ℕ). AreSettled (found_in l)) (sym is) settled);
    })

-- the next journal's blob is another
pub other_journal : (a b : Place) (g : ℕ) → g < 2 ^ 64 → g + 1 < 2 ^ 64 → a.name ≡ to_be_bytes w64 (g + 1) → b.name ≡ to_be_bytes w64 g → same_place a b ≡ false
other_journal a b g s t next old = ⊎_elim
    (λ (y : same_place a b ≡ true). absurd (same_number g s t (sym old ∙ ap (λ (o : Place). o.name) (sym (same_place_exact a b y)) ∙ next)))
    (λ (n : same_place a b ≡ false). n)
    (cases_Bool (same_place a b))
