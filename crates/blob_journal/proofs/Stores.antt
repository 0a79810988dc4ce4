-- Calls that keep the store, and what names with their journal keep by a call of their store.
use Rattle.std.proofs.Common.{◌≡◌, ◌≤◌, ℕ, List, true, ap, ap₂, arith, refl, subst, sym, ◌∙◌}
use Rattle.std.specs.Global.{Global}
use Rattle.std.specs.Prelude.{Vec, codes}
use Rattle.std.specs.Int.{w64, to_be_bytes}
use Rattle.blob_model.specs.Directory.{Directory, is_current}
use Rattle.blob_model.specs.Draws.{chosen_by}
use Rattle.blob_model.specs.Files.{Files, all_logged}
use Rattle.blob_model.specs.Log.{Entry}
use Rattle.blob_model.specs.Places.{Place}
use Rattle.blob_draws.specs.Rows.{table_of}
use Rattle.blob_draws.specs.declared.config.Config.{Config}
use Rattle.blob_memory.specs.Store.{directory, durable, place}
use Rattle.blob_memory.specs.declared.storage.Storage as memory
use Rattle.blob_directory.specs.UnsettledEdits.{edits_listed}
use Rattle.blob_directory.specs.declared.unsettled.Unsettled.{Unsettled}
use Rattle.blob_faulty.specs.Keeps.{IsFor, OverMemory}
use Rattle.blob_faulty.specs.Leaves.{Test}
use Rattle.blob_faulty.specs.Lends.{with_config, with_rng}
use Rattle.blob_faulty.specs.Wrapper.{Adds, Stands, inner_of, inside, next_write_of}
use Rattle.blob_journal.specs.declared.journal.Journal.{Journal}
use Rattle.blob_journal.specs.declared.journaled.Journaled.{Journaled}
use Rattle.blob_journal.specs.declared.store.FileBlob.{FileBlob}
use Rattle.blob_journal.specs.Currents.{FindsNoMore, FindsOnly, IsGiven, KeepsFiles, KeepsNext, SameDirectory, SamePending, pending_at}
use Rattle.blob_journal.specs.Incarnations.{IsIncarnation}
use Rattle.blob_journal.specs.Found.{IsKept, WritesJournal, told_by, with_kept}
use Rattle.blob_journal.specs.Fixed.{KeepsOpen}
use Rattle.blob_journal.specs.Journals.{store_of}
use Rattle.blob_journal.specs.Limits.{AcceptsOpens, KeepsAccepted, SameFaults}
use Rattle.blob_journal.specs.Settling.{place_of}
use Rattle.blob_journal.specs.Stores.{KeepsStore, KeepsStoreBut}
use Rattle.blob_journal.specs.Unchanged.{KeepsContents, KeepsNamesAndEdits, UsesFile}
use Rattle.blob_journal.proofs.Blobs.{journal_apart}
use Rattle.blob_journal.proofs.Fixed.{beside_more, current_given, incarnations_same, incarnations_twice, keeps_open}
use Rattle.blob_journal.proofs.Found.{no_more_drawn, no_more_set, same_next, still_given, still_kept}
use Rattle.blob_journal.proofs.Limits.{still_accepted}
use Rattle.blob_journal.proofs.Numbers.{still_numbered}
use Rattle.blob_journal.proofs.Writes.{crashed_alike}

-- The store.

-- a call that leaves the directory as it is
pub store_same : {R : Type 0} (before after : OverMemory R) → SameDirectory before after → KeepsFiles before after → FindsNoMore before after → SameFaults before after → KeepsStore before after
store_same before after same files left faults = record {
  current = λ o h. ap (λ (d : Directory). is_current d o) same ∙ h;
  incarnations = incarnations_same before after same;
  files = files;
  left = left;
  next = same_next (directory (inner_of before)) (directory (inner_of after)) same;
  accepted = still_accepted before after same;
  faults = faults;
}

pub store_none : {R : Type 0} (store : OverMemory R) → KeepsStore store store
store_none store = store_same store store refl (λ r. r) (λ o test k. k) refl

-- one call after another
pub store_twice : {R : Type 0} (a b c : OverMemory R) → KeepsStore a b → KeepsStore b c → KeepsStore a c
store_twice a b c x y = record {
  current = λ o h. y.current o (x.current o h);
  incarnations = incarnations_twice a b c x.incarnations y.incarnations;
  files = λ r. y.files (x.files r);
  left = λ o test k. y.left o test (x.left o test k);
  next = let one = x.next in let two = y.next in omega (arith, one, two);
  accepted = λ all. y.accepted (x.accepted all);
  faults = y.faults ∙ x.faults;
}

pub store_beside : {R : Type 0} (p n : List ℕ) (a b : OverMemory R) → KeepsStore a b → KeepsStoreBut p n a b
store_beside p n a b x = record {
  current = λ o other h. x.current o h;
  files = x.files;
  left = λ o test other k. x.left o test k;
  next = x.next;
  accepted = x.accepted;
  faults = x.faults;
}

pub store_then : {R : Type 0} (p n : List ℕ) (a b c : OverMemory R) → KeepsStoreBut p n a b → KeepsStore b c → KeepsStoreBut p n a c
store_then p n a b c x y = record {
  current = λ o other h. y.current o (x.current o other h);
  files = λ r. y.files (x.files r);
  left = λ o test other k. y.left o test (x.left o test other k);
  next = let one = x.next in let two = y.next in omega (arith, one, two);
  accepted = λ all. y.accepted (x.accepted all);
  faults = y.faults ∙ x.faults;
}

-- The journal's blob.

pub writes_none : {R : Type 0} (store : OverMemory R) (journal : Journal) → WritesJournal store journal store journal
writes_none store journal = record { place = refl; generation = refl; directory = refl; beside = λ given o test other k. k }

pub writes_twice : {R : Type 0} (a : OverMemory R) (j : Journal) (b : OverMemory R) (k : Journal) (c : OverMemory R) (l : Journal) → WritesJournal a j b k → WritesJournal b k c l → WritesJournal a j c l
writes_twice a j b k c l x y = record {
  place = y.place ∙ x.place;
  generation = y.generation ∙ x.generation;
  directory = y.directory ∙ x.directory;
  beside = beside_more a b c (place (inside j.blob)) (place (inside k.blob)) x.place x.directory x.beside y.beside;
}

pub writes_over : {R : Type 0} (a : OverMemory R) (j : Journal) (b : OverMemory R) (k : Journal) (c : OverMemory R) (l : Journal) → c ≡ b → l ≡ k → WritesJournal a j b k → WritesJournal a j c l
writes_over {R} a j b k c l store journal x = subst (λ (s : OverMemory R). WritesJournal a j s l) (sym store) (subst (λ (m : Journal). WritesJournal a j b m) (sym journal) x)

-- The invariant of names with their journal.

abbrev pub Holds : {R : Type 0} → OverMemory R → Journal → ℕ → List Unsettled → Type 0
Holds store journal opened edits = record {
  partition : (place (inside journal.blob)).partition ≡ codes "j";
  name : (place (inside journal.blob)).name ≡ to_be_bytes w64 journal.generation;
  current : is_current (directory (inner_of store)) (place (inside journal.blob)) ≡ true;
  numbered : journal.generation ≤ (place (inside journal.blob)).number;
  given : opened ≤ (directory (inner_of store)).next;
  accepted : AcceptsOpens (directory (inner_of store));
  kept : ∥ IsKept store journal edits ∥₁;
}

-- the journal's blob is current, and no more may be found of it
pub holds_after : {R : Type 0} (j : Journaled R) (new : OverMemory R) → is_current (directory (inner_of new)) (place_of j) ≡ true → KeepsNext j.store new → KeepsAccepted j.store new
    → ((test : Test) → FindsOnly j.store (place_of j) test → FindsOnly new (place_of j) test) → Holds new j.journal j.opened j.unsettled.edits.items
holds_after j new current next accepted finds = record {
  partition = j.partition;
  name = j.name;
  current = current;
  numbered = j.numbered;
  given = still_given j.store new j.opened next j.given;
  accepted = accepted j.accepted;
  kept = still_kept j.store new j.journal j.unsettled.edits.items finds j.kept;
}

-- a call that leaves the directory as it is
pub holds_same : {R : Type 0} (j : Journaled R) (new : OverMemory R) → SameDirectory j.store new
    → ((test : Test) → FindsOnly j.store (place_of j) test → FindsOnly new (place_of j) test) → Holds new j.journal j.opened j.unsettled.edits.items
holds_same j new same finds = holds_after j new (ap (λ (d : Directory). is_current d (place_of j)) same ∙ j.current)
    (same_next (directory (inner_of j.store)) (directory (inner_of new)) same) (still_accepted j.store new same) finds

pub holds_kept : {R : Type 0} (j : Journaled R) (new : OverMemory R) → KeepsStore j.store new → Holds new j.journal j.opened j.unsettled.edits.items
holds_kept j new keeps = holds_after j new (keeps.current (place_of j) j.current) keeps.next keeps.accepted (λ test k. keeps.left (place_of j) test k)

-- a call on the journal's blob
pub holds_written : {R : Type 0} (j : Journaled R) (new : OverMemory R) (journal : Journal) (edits : List Unsettled) → WritesJournal j.store j.journal new journal → ∥ IsKept new journal edits ∥₁
    → Holds new journal j.opened edits
holds_written j new journal edits w kept = record {
  partition = ap (λ (o : Place). o.partition) w.place ∙ j.partition;
  name = ap (λ (o : Place). o.name) w.place ∙ j.name ∙ ap (λ (n : ℕ). to_be_bytes w64 n) (sym w.generation);
  current = ap₂ (λ (d : Directory) (o : Place). is_current d o) w.directory w.place ∙ j.current;
  numbered = still_numbered j.journal journal w.place w.generation j.numbered;
  given = still_given j.store new j.opened (same_next (directory (inner_of j.store)) (directory (inner_of new)) w.directory) j.given;
  accepted = still_accepted j.store new w.directory j.accepted;
  kept = kept;
}

-- other rates, and then a call
pub holds_set : {R : Type 0} (j : Journaled R) (mid new : OverMemory R) (config : Config) → mid ≡ with_config j.store config → KeepsStore mid new → Holds new j.journal j.opened j.unsettled.edits.items
holds_set {R} j mid new config set keeps =
    let same : SameDirectory j.store mid = ap (λ (s : OverMemory R). directory (inner_of s)) set in
    holds_after j new (keeps.current (place_of j) (ap (λ (d : Directory). is_current d (place_of j)) same ∙ j.current))
    (subst (λ (d : Directory). d.next ≤ (directory (inner_of new)).next) same keeps.next)
    (λ all. keeps.accepted (still_accepted j.store mid same all))
    (λ test k. keeps.left (place_of j) test (no_more_set j.store mid config set (place_of j) test k))

-- another generator
pub holds_drawn : {R : Type 0} (j : Journaled R) (new : OverMemory R) (rng : R) → new ≡ with_rng j.store rng → Holds new j.journal j.opened j.unsettled.edits.items
holds_drawn {R} j new rng set =
    let same : SameDirectory j.store new = ap (λ (s : OverMemory R). directory (inner_of s)) set in
    record {
      partition = j.partition;
      name = j.name;
      current = ap (λ (d : Directory). is_current d (place_of j)) same ∙ j.current;
      numbered = j.numbered;
      given = still_given j.store new j.opened (same_next (directory (inner_of j.store)) (directory (inner_of new)) same) j.given;
      accepted = still_accepted j.store new same j.accepted;
      kept = subst (λ (s : OverMemory R). ∥ IsKept s j.journal j.unsettled.edits.items ∥₁) (sym set) (with_kept j.store rng j.journal j.unsettled.edits.items j.kept);
    }

-- Open files.

pub open_same : {R : Type 0} (j j' : Journaled R) → SameDirectory (store_of j) (store_of j') → FindsNoMore (store_of j) (store_of j') → KeepsOpen j j'
open_same j j' same finds = keeps_open j j' (incarnations_same (store_of j) (store_of j') same (codes "f")) (λ o test f k. finds o test k)

pub open_kept : {R : Type 0} (j j' : Journaled R) → KeepsStore (store_of j) (store_of j') → KeepsOpen j j'
open_kept j j' keeps = keeps_open j j' (keeps.incarnations (codes "f")) (λ o test f k. keeps.left o test k)

-- other rates, and then a call
pub open_set : {R : Type 0} (j j' : Journaled R) (mid : OverMemory R) (config : Config) → mid ≡ with_config (store_of j) config → KeepsStore mid (store_of j') → KeepsOpen j j'
open_set {R} j j' mid config set keeps =
    let same : SameDirectory (store_of j) mid = ap (λ (s : OverMemory R). directory (inner_of s)) set in
    keeps_open j j' (λ n o is. keeps.incarnations (codes "f") n o (incarnations_same (store_of j) mid same (codes "f") n o is))
    (λ o test f k. keeps.left o test (no_more_set (store_of j) mid config set o test k))

pub open_written : {R : Type 0} (j j' : Journaled R) → WritesJournal j.store j.journal j'.store j'.journal → KeepsOpen j j'
open_written j j' w = keeps_open j j' (incarnations_same j.store j'.store w.directory (codes "f"))
    (λ o test f k. w.beside (current_given j.store (place_of j) j.current) o test (journal_apart (place_of j) o j.partition f) k)

-- the blob of a file is the same
pub current_over : {R : Type 0} (before after : OverMemory R) (p n : List ℕ) (o o' : Place) → SameDirectory before after → o' ≡ o → IsIncarnation before p n o → IsIncarnation after p n o'
current_over before after p n o o' same moved is = record {
  number = is.number;
  layout = is.layout;
  file = ap (λ (d : Directory). d.file p n) same ∙ is.file;
  is = moved ∙ is.is;
}

pub given_over : {R : Type 0} (before after : OverMemory R) (o o' : Place) → SameDirectory before after → o' ≡ o → IsGiven before o → IsGiven after o'
given_over before after o o' same moved given =
    let number : o'.number ≡ o.number = ap (λ (a : Place). a.number) moved in
    let next : (directory (inner_of after)).next ≡ (directory (inner_of before)).next = ap (λ (d : Directory). d.next) same in
    omega (arith, number, next, given)

-- a call that adds entries to the log of one blob
pub files_added : {R : Type 0} (old new : OverMemory R) (o : Place) (es : List Entry) → SameDirectory old new
    → Adds (λ (p : Place). p) (directory (inner_of old)) (durable (inner_of old)) (durable (inner_of new)) old new o es → IsGiven old o → KeepsFiles old new
files_added old new o es same adds given r =
    let files = all_logged r.0 o es in
    (files, subst (λ (d : Directory). Stands (λ (p : Place). p) d (durable (inner_of new)) new files) (sym same) (adds r.0 given r.1))

pub uses_none : {R : Type 0} (file : FileBlob) (j : Journaled R) → UsesFile file j file j
uses_none file j = record {
  edits = record { names = refl; told = refl; unsettled = refl; log = refl };
  files = λ has r. r;
  given = λ h. h;
  handles = λ inode f is. is;
  ready = λ r. r;
}

-- Edits.

-- the same journal, names and edits
pub edits_same : {R : Type 0} (a b : Journaled R) → b.journal ≡ a.journal → b.names ≡ a.names → b.unsettled ≡ a.unsettled → b.log ≡ a.log → KeepsNamesAndEdits a b
edits_same a b journal names edits log = record {
  names = names;
  told = ap told_by journal;
  unsettled = ap edits_listed edits;
  log = log;
}

-- a call that changes neither the store below nor what is pending, nor edits
pub contents_same : {R : Type 0} (j j' : Journaled R) → inner_of (store_of j') ≡ inner_of (store_of j) → SamePending (store_of j) (store_of j')
    → ((files : Files) → IsFor (store_of j) files → IsFor (store_of j') files) → next_write_of (store_of j') ≡ next_write_of (store_of j) → FindsNoMore (store_of j) (store_of j')
    → place_of j' ≡ place_of j → KeepsNamesAndEdits j j' → KeepsContents j j'
contents_same j j' inner pending stands next finds at edits =
    let same : SameDirectory (store_of j) (store_of j') = ap (λ (s : memory.Storage). directory s) inner in
    record {
      edits = edits;
      journal = record {
        place = at;
        durable = ap (λ (s : memory.Storage). durable s (place_of j)) inner;
        pending = pending (place_of j);
        files = λ r. (r.0, stands r.0 r.1);
        unsettled = edits.unsettled;
        told = edits.told;
      };
      crashes = record {
        stands = stands;
        next_write = next;
        same = λ inode file bytes is. record {
          current = current_over (store_of j) (store_of j') _ _ _ _ same refl is.current;
          durable = ap (λ (s : memory.Storage). durable s (place (inside file.blob))) inner ∙ is.durable;
        };
        left = λ inode kept. crashed_alike (store_of j) (store_of j') (chosen_by (table_of kept)) inode inner pending;
      };
      still = open_same j j' same finds;
    }

-- another generator, or other rates
pub contents_drawn : {R : Type 0} (j j' : Journaled R) (rng : R) → store_of j' ≡ with_rng (store_of j) rng → ((files : Files) → IsFor (store_of j) files → IsFor (store_of j') files)
    → place_of j' ≡ place_of j → KeepsNamesAndEdits j j' → KeepsContents j j'
contents_drawn {R} j j' rng set stands = contents_same j j' (ap (λ (s : OverMemory R). inner_of s) set) (λ o. ap (λ (s : OverMemory R). pending_at s o) set) stands
    (ap (λ (s : OverMemory R). next_write_of s) set) (no_more_drawn (store_of j) (store_of j') rng set)

pub contents_set : {R : Type 0} (j j' : Journaled R) (config : Config) → store_of j' ≡ with_config (store_of j) config → ((files : Files) → IsFor (store_of j) files → IsFor (store_of j') files)
    → place_of j' ≡ place_of j → KeepsNamesAndEdits j j' → KeepsContents j j'
contents_set {R} j j' config set stands = contents_same j j' (ap (λ (s : OverMemory R). inner_of s) set) (λ o. ap (λ (s : OverMemory R). pending_at s o) set) stands
    (ap (λ (s : OverMemory R). next_write_of s) set) (no_more_set (store_of j) (store_of j') config set)
