-- What definitions say of copies of edits, and of a fork of a store.
use Rattle.std.proofs.Common.{◌≡◌, ◌||◌, ℕ, suc, Bool, true, false, List, [], ◌∷◌, ◌++◌, length, Option, None, refl, sym, subst, ap, ap₂, ◌∙◌, arith}
use Rattle.std.proofs.Math.Logic.{∥∥₁_map}
use Rattle.std.specs.Int.{w64, to_be_bytes}
use Rattle.std.specs.List.{fold, list_any}
use Rattle.std.specs.Prelude.{codes, get_or, nat_eq, option_and_then, take, ◌&&◌}
use Rattle.blob_model.specs.Directory.{Directory, current}
use Rattle.blob_model.specs.Draws.{chosen_by}
use Rattle.blob_model.specs.Durable.{Durable}
use Rattle.blob_model.specs.Files.{Files}
use Rattle.blob_model.specs.Pending.{Pending}
use Rattle.blob_model.specs.Places.{Place}
use Rattle.blob_model.specs.Stands.{replayed_at}
use Rattle.blob_draws.specs.Rows.{table_of}
use Rattle.blob_draws.specs.declared.selections.Selections.{Selections}
use Rattle.blob_packed.specs.Losses.{may_be_left}
use Rattle.blob_packed.specs.Records.{Record}
use Rattle.blob_memory.specs.Store.{directory, durable, place}
use Rattle.blob_faulty.specs.Keeps.{IsFor, OverMemory}
use Rattle.blob_faulty.specs.Leaves.{Test}
use Rattle.blob_faulty.specs.Wrapper.{inner_of, inside}
use Rattle.blob_directory.specs.Copies.{AreCopies, IsCopy}
use Rattle.blob_directory.specs.Names.{Edit, Names}
use Rattle.blob_directory.specs.Profiles.{Rule, counts_in, names_told}
use Rattle.blob_directory.specs.Records.{Found, found_in, record_of}
use Rattle.blob_directory.specs.Rules.{follows, later_seen, rule_of}
use Rattle.blob_directory.specs.Wanted.{is_up_to}
use Rattle.blob_directory.specs.Trees.{Finds}
use Rattle.blob_directory.specs.declared.profile.Keeps.{Keeps}
use Rattle.blob_directory.specs.declared.profile.Keeps.TheVariants.{Any, Prefix, Logged}
use Rattle.blob_directory.specs.declared.unsettled.Unsettled.{Unsettled}
use Rattle.blob_journal.specs.declared.journal.Journal.{Journal}
use Rattle.blob_journal.specs.declared.journaled.Journaled.{Journaled}
use Rattle.blob_journal.specs.Blobs.{file_name}
use Rattle.blob_journal.specs.Currents.{FindsNoMore, FindsOnly, pending_at}
use Rattle.blob_journal.specs.Fixed.{has_byte}
use Rattle.blob_journal.specs.Forks.{CopyIsFixed, CopyIsOpen, CopySees, FindsSame, IsSameStore}
use Rattle.blob_journal.specs.Found.{IsKept, bytes_in, told_by}
use Rattle.blob_journal.specs.Journals.{FindsKept, FindsNames, IsJournal, IsJournalAfter, generation_of, store_of}
use Rattle.blob_journal.specs.Keeping.{FindsTold, told_in}
use Rattle.blob_journal.specs.Records.{AreListed, HasEdit, InRecords, IsListed, is_listed}
use Rattle.blob_journal.specs.Settling.{FindsKeptEdits, counted, place_of, unsettled_of}
use Rattle.blob_journal.specs.Told.{names_kept}
use Rattle.blob_journal.specs.Writes.{SameCrashes}
use Rattle.blob_journal.proofs.Blobs.{each_current}
use Rattle.blob_journal.proofs.Stores.{Holds, current_over, holds_written}

-- Copies of edits.

-- a test that doesn't look at the edit's bytes
any_copied : (test : Unsettled → Bool) → ((e x : Unsettled) → IsCopy e x → test x ≡ test e) → (es xs : List Unsettled) → AreCopies es xs → list_any test xs ≡ list_any test es
any_copied test same [] [] h = refl
any_copied test same [] (x ∷ xs) h = absurd h
any_copied test same (e ∷ es) [] h = absurd h
any_copied test same (e ∷ es) (x ∷ xs) h = ap₂ (λ (a b : Bool). a || b) (same e x h.0) (any_copied test same es xs h.1)

pub listed_copied : (es xs : List Unsettled) → AreCopies es xs → (n : ℕ) → is_listed xs n ≡ is_listed es n
listed_copied es xs h n = any_copied (λ e. nat_eq e.record n) (λ e x c. ap (λ (u : Unsettled). nat_eq u.record n) c.1) es xs h

follows_copied : (es xs : List Unsettled) → AreCopies es xs → (n : ℕ) → follows xs n ≡ follows es n
follows_copied es xs h n = any_copied (λ e. e.is_followed && nat_eq e.record n) (λ e x c. ap (λ (u : Unsettled). u.is_followed && nat_eq u.record n) c.1) es xs h

seen_copied : (es xs : List Unsettled) → AreCopies es xs → (last : Option ℕ) → fold later_seen last xs ≡ fold later_seen last es
seen_copied [] [] h last = refl
seen_copied [] (x ∷ xs) h last = absurd h
seen_copied (e ∷ es) [] h last = absurd h
seen_copied (e ∷ es) (x ∷ xs) h last =
    ap (λ (l : Option ℕ). fold later_seen l xs) (ap (λ (u : Unsettled). later_seen last u) h.0.1) ∙ seen_copied es xs h.1 (later_seen last e)

-- the rule of a profile
pub rule_copied : (es xs : List Unsettled) → AreCopies es xs → (keeps : Keeps) → rule_of keeps xs ≡ rule_of keeps es
rule_copied es xs h Any = refl
rule_copied es xs h Prefix = refl
rule_copied es xs h Logged = λ i. record { is_prefix = true; is_seen = λ n. is_up_to (seen_copied es xs h None i) n; is_followed = λ n. follows_copied es xs h n i }

pub counted_copied : (es xs : List Unsettled) → AreCopies es xs → (counts : List Bool) → counted counts xs ≡ counted counts es
counted_copied [] [] h counts = refl
counted_copied [] (x ∷ xs) h counts = absurd h
counted_copied (e ∷ es) [] h counts = absurd h
counted_copied (e ∷ es) (x ∷ xs) h counts =
    ap₂ (λ (b : Bool) (bs : List Bool). b ∷ bs) (ap (λ (u : Unsettled). get_or counts u.record false) h.0.1) (counted_copied es xs h.1 counts)

-- Their records.

has_copied : (records : List Record) (e x : Unsettled) → IsCopy e x → HasEdit records e → HasEdit records x
has_copied records e x same h = record {
  before = h.before;
  after = h.after;
  settled = h.settled;
  is = h.is ∙ ap (λ (d : Edit). h.before ++ record_of d h.settled ∷ h.after) (sym same.0);
  number = ap (λ (u : Unsettled). u.record) same.1 ∙ h.number;
  offset = ap (λ (u : Unsettled). u.offset) same.1 ∙ h.offset;
}

in_copied : (from start : ℕ) (records : List Record) (es xs : List Unsettled) → start ≡ from → AreCopies es xs → InRecords from records es → InRecords start records xs
in_copied from start records [] [] at h is = tt
in_copied from start records [] (x ∷ xs) at h is = absurd h
in_copied from start records (e ∷ es) [] at h is = absurd h
in_copied from start records (e ∷ es) (x ∷ xs) at h is =
    let number : x.record ≡ e.record = ap (λ (u : Unsettled). u.record) h.0.1 in
    let low = is.0 in
    (omega (arith, at, number, low), has_copied records e x h.0 is.1, in_copied (suc e.record) (suc x.record) records es xs (ap suc number) h.1 is.2)

are_copied : (es xs : List Unsettled) → ((n : ℕ) → is_listed xs n ≡ is_listed es n) → (n : ℕ) (told : List Found) → AreListed n told es → AreListed n told xs
are_copied es xs same n [] h = tt
are_copied es xs same n (found ∷ told) h = (subst (λ (b : Bool). IsListed b found) (sym (same n)) h.0, are_copied es xs same (suc n) told h.1)

-- a copy of a journal, in a store of which no more may be found
pub kept_copied : {R : Type 0} (store fork : OverMemory R) (journal copy : Journal) (es xs : List Unsettled)
    → ((test : Test) → FindsOnly store (place (inside journal.blob)) test → FindsOnly fork (place (inside journal.blob)) test)
    → place (inside copy.blob) ≡ place (inside journal.blob) → bytes_in copy ≡ bytes_in journal → copy ≡ record journal { blob = copy.blob }
    → AreCopies es xs → IsKept store journal es → IsKept fork copy xs
kept_copied store fork journal copy es xs finds at bytes same h k = record {
  records = k.records;
  has = record {
    seen = bytes ∙ k.has.seen;
    count = k.has.count ∙ sym (ap (λ (j : Journal). j.records) same);
    end = ap length bytes ∙ k.has.end ∙ sym (ap (λ (j : Journal). j.end) same);
    fit = k.has.fit;
    found = subst (λ (o : Place). FindsOnly fork o (may_be_left 0 k.records)) (sym at) (finds (may_be_left 0 k.records) k.has.found);
  };
  listed = in_copied 0 0 k.records es xs refl h k.listed;
  unsettled = are_copied es xs (listed_copied es xs h) 0 (told_by copy) (subst (λ (told : List Found). AreListed 0 told es) (sym (ap found_in bytes)) k.unsettled);
}

-- the invariant of names with their journal
pub holds_forked : {R : Type 0} (j : Journaled R) (fork : OverMemory R) (copy : Journal) (xs : List Unsettled) → IsSameStore j.store fork → FindsNoMore j.store fork
    → place (inside copy.blob) ≡ place_of j → bytes_in copy ≡ bytes_in j.journal → copy ≡ record j.journal { blob = copy.blob } → AreCopies j.unsettled.edits.items xs → Holds fork copy j.opened xs
holds_forked j fork copy xs store finds at bytes same copies =
    holds_written j fork copy xs
    (record { beside = λ given o test other k. finds o test k; directory = store.directory; generation = ap (λ (m : Journal). m.generation) same; place = at })
    (∥∥₁_map j.kept (λ k. kept_copied j.store fork j.journal copy j.unsettled.edits.items xs (λ test f. finds (place_of j) test f) at bytes same copies k))

-- What a recovery finds.

module _ {R : Type 0} (a b : Journaled R) (store : IsSameStore (store_of a) (store_of b)) (generation : generation_of b ≡ generation_of a) where
  journal_same : (bytes : List ℕ) → IsJournal (store_of a) (generation_of a) bytes → IsJournal (store_of b) (generation_of b) bytes
  journal_same bytes is = record {
    place = is.place;
    current = ap₂ (λ (d : Directory) (g : ℕ). current d (codes "j") (to_be_bytes w64 g)) store.directory generation ∙ is.current;
    durable = ap (λ (d : Durable). d is.place) store.durable ∙ is.durable;
  }

  journal_left : (kept : Selections) (bytes : List ℕ) → IsJournalAfter (store_of a) (generation_of a) kept bytes → IsJournalAfter (store_of b) (generation_of b) kept bytes
  journal_left kept bytes is = record {
    place = is.place;
    current = ap₂ (λ (d : Directory) (g : ℕ). current d (codes "j") (to_be_bytes w64 g)) store.directory generation ∙ is.current;
    replayed = ap₂ (λ (q : List Pending) (x : Option (List ℕ)). replayed_at (chosen_by (table_of kept)) q x) (store.records.pending is.place) (ap (λ (d : Durable). d is.place) store.durable) ∙ is.replayed;
  }

  module _ (rules : (keeps : Keeps) → rule_of keeps (unsettled_of b) ≡ rule_of keeps (unsettled_of a)) where
    pub names_same : (keeps : Keeps) (names : Names) → FindsNames a keeps names → FindsNames b keeps names
    names_same keeps names f = record {
      journal = f.journal;
      is = journal_same f.journal f.is;
      finds = subst (λ (r : Rule). Finds names (names_told r f.journal)) (sym (rules keeps)) f.finds;
    }

    pub names_left : (kept : Selections) (keeps : Keeps) (names : Names) → FindsKept a kept keeps names → FindsKept b kept keeps names
    names_left kept keeps names f = record {
      journal = f.journal;
      is = journal_left kept f.journal f.is;
      finds = subst (λ (r : Rule). Finds names (names_told r f.journal)) (sym (rules keeps)) f.finds;
    }

    pub names_told_same : told_in b ≡ told_in a → (keeps : Keeps) (names : Names) → FindsTold a keeps names → FindsTold b keeps names
    names_told_same told keeps names f = record {
      chosen = f.chosen;
      finds = subst (λ (r : Rule). Finds names (names_kept r f.chosen (told_in b))) (sym (rules keeps)) (subst (λ (t : List Found). Finds names (names_kept (rule_of keeps (unsettled_of a)) f.chosen t)) (sym told) f.finds);
    }

    pub edits_left : ((counts : List Bool) → counted counts (unsettled_of b) ≡ counted counts (unsettled_of a)) → (kept : Selections) (keeps : Keeps) (edits : List Bool)
        → FindsKeptEdits a kept keeps edits → FindsKeptEdits b kept keeps edits
    edits_left counts kept keeps edits f = record {
      journal = f.journal;
      is = journal_left kept f.journal f.is;
      found = f.found
          ∙ sym (counts (counts_in (rule_of keeps (unsettled_of a)) f.journal))
          ∙ ap (λ (r : Rule). counted (counts_in r f.journal) (unsettled_of b)) (sym (rules keeps));
    }

-- the other way round
store_back : {R : Type 0} (a b : OverMemory R) → IsSameStore a b → IsSameStore b a
store_back a b h = record {
  directory = sym h.directory;
  durable = sym h.durable;
  records = record {
    pending = λ o. sym (h.records.pending o);
    numbers = record { next_write = sym h.records.numbers.next_write; next_marker = sym h.records.numbers.next_marker; config = sym h.records.numbers.config };
  };
}

pub finds_same : {R : Type 0} (a b : Journaled R) → IsSameStore (store_of a) (store_of b) → generation_of b ≡ generation_of a → AreCopies (unsettled_of a) (unsettled_of b) → told_in b ≡ told_in a → FindsSame a b
finds_same a b store generation copies told =
    let back = store_back (store_of a) (store_of b) store in
    let rules = rule_copied (unsettled_of a) (unsettled_of b) copies in
    let counts = counted_copied (unsettled_of a) (unsettled_of b) copies in
    record {
      names = λ keeps names. (names_same a b store generation rules keeps names, names_same b a back (sym generation) (λ k. sym (rules k)) keeps names);
      kept = λ kept keeps names. (names_left a b store generation rules kept keeps names, names_left b a back (sym generation) (λ k. sym (rules k)) kept keeps names);
      edits = λ kept keeps edits. (edits_left a b store generation rules counts kept keeps edits, edits_left b a back (sym generation) (λ k. sym (rules k)) (λ c. sym (counts c)) kept keeps edits);
      told = λ keeps names. (names_told_same a b store generation rules told keeps names, names_told_same b a back (sym generation) (λ k. sym (rules k)) (sym told) keeps names);
    }

-- What a crash leaves.

pub crashes_same : {R : Type 0} (a b : Journaled R) → IsSameStore (store_of a) (store_of b) → ((files : Files) → IsFor (store_of a) files → IsFor (store_of b) files) → SameCrashes a b
crashes_same a b same stands = record {
  stands = stands;
  next_write = same.records.numbers.next_write;
  same = λ inode file bytes is. record {
    current = current_over (store_of a) (store_of b) _ _ _ _ same.directory refl is.current;
    durable = ap (λ (d : Durable). d (place (inside file.blob))) same.durable ∙ is.durable;
  };
  left = λ inode kept.
      let left : OverMemory _ → Place → Option (List ℕ) = λ s o. replayed_at (chosen_by (table_of kept)) (pending_at s o) (durable (inner_of s) o) in
      ap (λ (d : Directory). option_and_then (left (store_of b)) (current d (codes "f") (file_name inode))) same.directory
      ∙ each_current (left (store_of b)) (left (store_of a)) (current (directory (inner_of (store_of a))) (codes "f") (file_name inode))
      (λ o. ap₂ (λ (q : List Pending) (x : Option (List ℕ)). replayed_at (chosen_by (table_of kept)) q x) (same.records.pending o) (ap (λ (d : Durable). d o) same.durable));
}

-- Copies of open files.

pub copy_sees : CopySees
copy_sees file copy same = ap₂ (λ (n : ℕ) (bytes : List ℕ). take n bytes) same.size same.live

pub copy_is_open : (R : Type 0) → CopyIsOpen R
copy_is_open R j inode file copy same is = record {
  durable = is.durable;
  is = record {
    current = current_over (store_of j) (store_of j) _ _ _ _ refl same.place is.is.current;
    durable = ap (λ (o : Place). durable (inner_of (store_of j)) o) same.place ∙ is.is.durable;
  };
  tracked = same.size ∙ is.tracked ∙ sym (ap length same.live);
}

pub copy_is_fixed : (R : Type 0) → CopyIsFixed R
copy_is_fixed R j file copy at byte same h = record {
  seen = ap (λ (bytes : List ℕ). has_byte at byte bytes) (copy_sees file copy same) ∙ h.seen;
  found = subst (λ (o : Place). ∥ FindsOnly (store_of j) o (has_byte at byte) ∥₁) (sym same.place) h.found;
}
