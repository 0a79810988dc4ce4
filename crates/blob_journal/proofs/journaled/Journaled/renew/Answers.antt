use Rattle.std.proofs.Common.{None, ◌<◌, ◌≤◌, length, ◌≡◌, ◌+◌, ◌&&◌, ℕ, List, true, false, ap, ap₂, subst, sym, ◌∙◌, arith}
use Rattle.blob_directory.specs.Names.{all_edited}
use Rattle.blob_packed.specs.Losses.{may_be_left}
use Rattle.blob_directory.specs.Profiles.{kept_edits, with_seen}
use Rattle.blob_directory.specs.Records.{Found, found_in}
use Rattle.blob_directory.specs.Settled.{AreSettled}
use Rattle.blob_journal.specs.Told.{names_kept}
use Rattle.blob_journal.proofs.Limits.{still_accepted}
use Rattle.blob_journal.proofs.Lasting.{none_lost}
use Rattle.std.proofs.Math.Logic.{∥∥₁_map}
use Rattle.blob_model.specs.Places.{same_place, Place}
use Rattle.blob_memory.specs.Laws.{current_below_next}
use Rattle.blob_memory.specs.Store.{live, directory, place}
use Rattle.blob_faulty.specs.Leaves.{Test}
use Rattle.blob_journal.specs.Currents.{FindsOnly, KeepsNext, IsEmpty, IsFixed}
use Rattle.blob_journal.proofs.Found.{fixed_kept, other_journal, still_above, still_given, still_kept}
use Rattle.std.specs.Prelude.{codes}
use Rattle.std.specs.Str.{bytes_eq}
use Rattle.std.specs.Int.{w64, to_be_bytes}
use Rattle.blob_model.specs.Directory.{Directory, current, is_current}
use Rattle.blob_faulty.specs.Wrapper.{inner_of, inside}
use Rattle.blob_journal.proofs.Currents.{current_of_name, last_apart, next_apart}
use Rattle.blob_journal.proofs.Standing.{fixed_same}
use Rattle.blob_journal.specs.Blobs.{file_name}
use Rattle.blob_journal.proofs.Blobs.{blob_beside, blob_twice, journal_apart, partition_beside}
use Rattle.blob_journal.proofs.Fixed.{incarnation_stays, incarnations_same, keeps_open}
use Rattle.blob_journal.proofs.journaled.Journaled.renew.Goals as goal

pub invariant_of-self : goal.invariant_of-self
invariant_of-self g c =
    let self = c.args.self.now in
    let old = self.journal.generation in
    let was : Place = place (inside self.journal.blob) in
    let fresh = c.next_journal.new.store in
    let next : c.next_generation-generation.result ≡ old + 1 = c.next_generation-generation.ensures in
    let aside : (bytes_eq (codes "j") was.partition && bytes_eq (to_be_bytes w64 c.next_generation-generation.result) was.name) ≡ false =
    ap (λ (n : ℕ). bytes_eq (codes "j") was.partition && bytes_eq (to_be_bytes w64 n) was.name) next ∙ last_apart (codes "j") was old (omega arith) (omega arith) self.name in
    record {
      partition = self.partition;
      name = self.name;
      current = c.next_journal.ensures.keeps.current was aside self.current;
      numbered = self.numbered;
      given = still_given self.store fresh self.opened c.next_journal.ensures.keeps.next self.given;
      accepted = c.next_journal.ensures.keeps.accepted self.accepted;
      kept = still_kept self.store fresh self.journal self.unsettled.edits.items (λ test k. c.next_journal.ensures.keeps.left was test aside k) self.kept;
    }

pub invariant_of-self-in-Break-branch-3 : goal.invariant_of-self-in-Break-branch-3
invariant_of-self-in-Break-branch-3 g c =
    let self = c.args.self.now in
    let old = self.journal.generation in
    let fresh = c.next_journal.new.store in
    let new = c.begin.new.store in
    let was : Place = place (inside self.journal.blob) in
    let made : Place = place (inside c.in_ok-journal.journal.blob) in
    let next : c.next_generation-generation.result ≡ old + 1 = c.next_generation-generation.ensures in
    let aside : (bytes_eq (codes "j") was.partition && bytes_eq (to_be_bytes w64 c.next_generation-generation.result) was.name) ≡ false =
    ap (λ (n : ℕ). bytes_eq (codes "j") was.partition && bytes_eq (to_be_bytes w64 n) was.name) next ∙ last_apart (codes "j") was old (omega arith) (omega arith) self.name in
    let called : made.name ≡ to_be_bytes w64 (old + 1) = c.in_ok-journal.ensures.name ∙ ap (λ (n : ℕ). to_be_bytes w64 n) next in
    let other : same_place made was ≡ false = other_journal made was old (omega arith) (omega arith) called self.name in
    let later : KeepsNext self.store new = subst (λ (d : Directory). (directory (inner_of self.store)).next ≤ d.next) (sym c.begin.ensures.writes.directory) c.next_journal.ensures.keeps.next in
    record {
      partition = self.partition;
      name = self.name;
      current = ap (λ (d : Directory). is_current d was) c.begin.ensures.writes.directory ∙ c.next_journal.ensures.keeps.current was aside self.current;
      numbered = self.numbered;
      given = still_given self.store new self.opened later self.given;
      accepted = still_accepted fresh new c.begin.ensures.writes.directory (c.next_journal.ensures.keeps.accepted self.accepted);
      kept = still_kept self.store new self.journal self.unsettled.edits.items
          (λ test k. c.begin.ensures.writes.beside c.in_ok-journal.ensures.given was test other (c.next_journal.ensures.keeps.left was test aside k)) self.kept;
    }

pub invariant_of-self-2 : goal.invariant_of-self-2
invariant_of-self-2 g c =
    let self = c.args.self.now in
    let old = self.journal.generation in
    let fresh = c.next_journal.new.store in
    let begun = c.begin.new.store in
    let new = c.remove.new.store in
    let journal = c.begin.new.self in
    let was : Place = place (inside self.journal.blob) in
    let made : Place = place (inside c.in_ok-journal.journal.blob) in
    let at : Place = place (inside journal.blob) in
    let same : at ≡ made = c.begin.ensures.writes.place in
    let next : c.next_generation-generation.result ≡ old + 1 = c.next_generation-generation.ensures in
    let aside : (bytes_eq (codes "j") was.partition && bytes_eq (to_be_bytes w64 c.next_generation-generation.result) was.name) ≡ false =
    ap (λ (n : ℕ). bytes_eq (codes "j") was.partition && bytes_eq (to_be_bytes w64 n) was.name) next ∙ last_apart (codes "j") was old (omega arith) (omega arith) self.name in
    let called : made.name ≡ to_be_bytes w64 (old + 1) = c.in_ok-journal.ensures.name ∙ ap (λ (n : ℕ). to_be_bytes w64 n) next in
    let name : at.name ≡ to_be_bytes w64 (old + 1) = ap (λ (o : Place). o.name) same ∙ called in
    let number : journal.generation ≡ old + 1 = c.begin.ensures.writes.generation ∙ c.in_ok-journal.ensures.generation ∙ next in
    let counted : at.number ≡ made.number = ap (λ (o : Place). o.number) same in
    let above : was.number < (directory (inner_of self.store)).next = current_below_next (inner_of self.store).contents was self.current in
    let other : (bytes_eq (codes "j") at.partition && bytes_eq c.to_be_bytes-old_name.result at.name) ≡ false =
    ap (λ (n : List ℕ). bytes_eq (codes "j") at.partition && bytes_eq n at.name) c.to_be_bytes-old_name.ensures
    ∙ next_apart (codes "j") at old (omega arith) (omega arith) name in
    let apart : same_place made was ≡ false = other_journal made was old (omega arith) (omega arith) called self.name in
    let given : made.number < (directory (inner_of fresh)).next = c.in_ok-journal.ensures.given in
    let given_then : at.number < (directory (inner_of begun)).next = subst (λ (d : Directory). at.number < d.next) (sym c.begin.ensures.writes.directory) (subst (λ (o : Place). o.number < (directory (inner_of fresh)).next) (sym same) given) in
    let removed = c.remove.ensures.keeps.next in
    let later : KeepsNext self.store begun = subst (λ (d : Directory). (directory (inner_of self.store)).next ≤ d.next) (sym c.begin.ensures.writes.directory) c.next_journal.ensures.keeps.next in
    let empty : IsEmpty fresh made = c.in_ok-journal.ensures.empty in
    let there : is_current (directory (inner_of new)) at ≡ true = c.remove.ensures.keeps.current at other
    (ap₂ (λ (d : Directory) (o : Place). is_current d o) c.begin.ensures.writes.directory same ∙ empty.current) in
    let b = c.in_ok-begin.ensures in
    let bytes : List ℕ = c.in_ok-bytes.bytes.items in
    record {
      partition = ap (λ (o : Place). o.partition) same ∙ c.in_ok-journal.ensures.partition;
      name = name ∙ ap (λ (n : ℕ). to_be_bytes w64 n) (sym number);
      current = there;
      numbered = omega (arith, self.numbered, above, c.in_ok-journal.ensures.numbered, number, counted);
      given = still_given begun new self.opened removed (still_given self.store begun self.opened later self.given);
      accepted = c.remove.ensures.keeps.accepted (still_accepted fresh begun c.begin.ensures.writes.directory (c.next_journal.ensures.keeps.accepted self.accepted));
      kept = ∥∥₁_map self.kept (λ k.
          let test : Test = may_be_left 0 k.records in
          let one : FindsOnly fresh was test = c.next_journal.ensures.keeps.left was test aside k.has.found in
          let two : FindsOnly begun was test = c.begin.ensures.writes.beside given was test apart one in
          let fixed : IsFixed begun made c.deref.result.now = b.fixed (one.files, one.stands) empty in
          let fixed_then : IsFixed begun at bytes = subst (λ (x : List ℕ). IsFixed begun at x) c.deref.ensures.value (subst (λ (o : Place). IsFixed begun o c.deref.result.now) (sym same) fixed) in
          fixed_kept c.records.ensures.left new journal _ bytes c.in_ok-bytes.count (c.remove.ensures.keeps.files (two.files, two.stands)) there (still_above begun new at.number removed given_then)
          (fixed_same begun new at bytes (c.remove.ensures.bytes at other) (c.remove.ensures.pending at other) fixed_then)
          (b.live c.in_ok-journal.ensures.live ∙ c.deref.ensures.value) c.in_ok-bytes.ensures.packed b.records (b.end ∙ ap (λ (l : List ℕ). length l) c.deref.ensures.value) c.in_ok-bytes.ensures.settled c.clear.ensures);
    }

pub returns-clause-gives : goal.returns-clause-gives
returns-clause-gives g c =
    let old = c.args.self.now.journal.generation in
    let fresh = c.next_journal.new.store in
    let made : Place = place (inside c.in_ok-journal.journal.blob) in
    let at : Place = place (inside c.begin.new.self.blob) in
    let same : at ≡ made = c.begin.ensures.writes.place in
    let next : c.next_generation-generation.result ≡ old + 1 = c.next_generation-generation.ensures in
    let number : c.begin.new.self.generation ≡ old + 1 = c.begin.ensures.writes.generation ∙ c.in_ok-journal.ensures.generation ∙ next in
    let called : made.name ≡ to_be_bytes w64 (old + 1) = c.in_ok-journal.ensures.name ∙ ap (λ (n : ℕ). to_be_bytes w64 n) next in
    let name : at.name ≡ to_be_bytes w64 (old + 1) = ap (λ (o : Place). o.name) same ∙ called in
    let partition : at.partition ≡ codes "j" = ap (λ (o : Place). o.partition) same ∙ c.in_ok-journal.ensures.partition in
    let other : (bytes_eq (codes "j") at.partition && bytes_eq c.to_be_bytes-old_name.result at.name) ≡ false =
    ap (λ (n : List ℕ). bytes_eq (codes "j") at.partition && bytes_eq n at.name) c.to_be_bytes-old_name.ensures
    ∙ next_apart (codes "j") at old (omega arith) (omega arith) name in
    let empty : IsEmpty fresh made = c.in_ok-journal.ensures.empty in
    let there : is_current (directory (inner_of c.remove.new.store)) at ≡ true = c.remove.ensures.keeps.current at other
    (ap₂ (λ (d : Directory) (o : Place). is_current d o) c.begin.ensures.writes.directory same ∙ empty.current) in
    λ fits files.
    let fixed : IsFixed c.begin.new.store made c.deref.result.now = c.in_ok-begin.ensures.fixed (c.next_journal.ensures.keeps.files files) empty in
    let bytes : IsFixed c.begin.new.store at c.in_ok-bytes.bytes.items =
    subst (λ (x : List ℕ). IsFixed c.begin.new.store at x) c.deref.ensures.value (subst (λ (o : Place). IsFixed c.begin.new.store o c.deref.result.now) (sym same) fixed) in
    record {
      journal = c.in_ok-bytes.bytes.items;
      is = record {
        place = at;
        current = ap₂ (λ (p n : List ℕ). current (directory (inner_of c.remove.new.store)) p n) (sym partition) (ap (λ (k : ℕ). to_be_bytes w64 k) number ∙ sym name)
            ∙ current_of_name (directory (inner_of c.remove.new.store)) at there;
        fixed = fixed_same c.begin.new.store c.remove.new.store at c.in_ok-bytes.bytes.items (c.remove.ensures.bytes at other) (c.remove.ensures.pending at other) bytes;
      };
      gives = c.in_ok-bytes.ensures.gives fits;
    }

pub returns-clause-told : goal.returns-clause-told
returns-clause-told g c = λ fits.
    let b = c.in_ok-begin.ensures in
    let bytes : List ℕ = c.in_ok-bytes.bytes.items in
    let there : live (inside c.begin.new.self.blob) ≡ bytes = b.live c.in_ok-journal.ensures.live ∙ c.deref.ensures.value in
    let told : found_in (live (inside c.begin.new.self.blob)) ≡ found_in bytes = ap found_in there in
    let settled : AreSettled (found_in bytes) = c.in_ok-bytes.ensures.settled in
    record {
      settled = subst AreSettled (sym told) settled;
      names = λ rule chosen e. ap (λ (l : List Found). names_kept rule chosen l e) told
          ∙ ap (λ (l : List Found). all_edited (λ _. None) (kept_edits rule false (with_seen rule false 0 l)) e) (none_lost chosen 0 (found_in bytes) settled)
          ∙ c.in_ok-bytes.ensures.gives fits rule e;
    }

pub returns-clause-same : goal.returns-clause-same
returns-clause-same g c = λ inode.
    let store = c.args.self.now.store in
    let fresh = c.next_journal.new.store in
    let begun = c.begin.new.store in
    let new = c.remove.new.store in
    let made : Place = place (inside c.in_ok-journal.journal.blob) in
    let p = codes "f" in
    let n = file_name inode in
    let begins = blob_beside p n fresh begun made c.begin.ensures.writes.directory (λ o f m. journal_apart made o c.in_ok-journal.ensures.partition f) c.in_ok-begin.ensures.only in
    let removes = partition_beside begun new c.to_be_bytes-old_name.result c.remove.ensures.others n in
    blob_twice p n store fresh new (c.in_ok-journal.ensures.blobs n) (blob_twice p n fresh begun new begins removes)

pub returns-in_err-journal-clause-still : goal.returns-in_err-journal-clause-still
returns-in_err-journal-clause-still g c = keeps_open _ _ c.next_journal.ensures.incarnations
    (λ o test f k. c.next_journal.ensures.keeps.left o test (ap (λ (q : List ℕ). bytes_eq (codes "j") q && bytes_eq (to_be_bytes w64 c.next_generation-generation.result) o.name) f) k)

pub returns-in_err-begin-clause-still : goal.returns-in_err-begin-clause-still
returns-in_err-begin-clause-still g c =
    let fresh = c.next_journal.new.store in
    let new = c.begin.new.store in
    let made : Place = place (inside c.in_ok-journal.journal.blob) in
    keeps_open _ _ (λ n o is. incarnations_same fresh new c.begin.ensures.writes.directory (codes "f") n o (c.next_journal.ensures.incarnations n o is))
    (λ o test f k. c.begin.ensures.writes.beside c.in_ok-journal.ensures.given o test (journal_apart made o c.in_ok-journal.ensures.partition f)
    (c.next_journal.ensures.keeps.left o test (ap (λ (q : List ℕ). bytes_eq (codes "j") q && bytes_eq (to_be_bytes w64 c.next_generation-generation.result) o.name) f) k))

pub returns-clause-still : goal.returns-clause-still
returns-clause-still g c =
    let fresh = c.next_journal.new.store in
    let begun = c.begin.new.store in
    let new = c.remove.new.store in
    let made : Place = place (inside c.in_ok-journal.journal.blob) in
    keeps_open _ _ (λ n o is. incarnation_stays (codes "f") n begun new o (partition_beside begun new c.to_be_bytes-old_name.result c.remove.ensures.others n)
    (incarnations_same fresh begun c.begin.ensures.writes.directory (codes "f") n o (c.next_journal.ensures.incarnations n o is)))
    (λ o test f k.
    let other : (bytes_eq (codes "j") o.partition && bytes_eq c.to_be_bytes-old_name.result o.name) ≡ false = ap (λ (q : List ℕ). bytes_eq (codes "j") q && bytes_eq c.to_be_bytes-old_name.result o.name) f in
    c.remove.ensures.keeps.left o test other (c.begin.ensures.writes.beside c.in_ok-journal.ensures.given o test (journal_apart made o c.in_ok-journal.ensures.partition f)
    (c.next_journal.ensures.keeps.left o test (ap (λ (q : List ℕ). bytes_eq (codes "j") q && bytes_eq (to_be_bytes w64 c.next_generation-generation.result) o.name) f) k)))
