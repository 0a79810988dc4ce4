use Rattle.std.proofs.Common.{None, Option, Some, inl, ap, ◌∙◌, ◌≡◌, List, ℕ, ap₂, false, refl, subst, sym, [], length, take, true, rules, arith}
use Rattle.std.specs.Prelude.{IsSome, codes, option_map}
use Rattle.blob_header.specs.Refusals.{Refusal, error_of}
use Rattle.blob_memory.specs.Store.{directory, durable, live, place}
use Rattle.blob_journal.proofs.Found.{other_blob}
use Rattle.blob_model.specs.Directory.{Directory}
use Rattle.std.proofs.lemmas.Bool.{cond-false, cond-true}
use Rattle.blob_model.specs.Durable.{Durable}
use Rattle.blob_model.specs.Files.{publish}
use Rattle.blob_model.specs.Places.{Place, same_place}
use Rattle.blob_model.specs.Stands.{StandsFor}
use Rattle.blob_faulty.specs.Wrapper.{inner_of, inside, next_marker_of, next_write_of, pending_of, size_of, config_of, rng_of}
use Rattle.blob_model.specs.SamePlace.{same_self}
use Rattle.blob_journal.specs.Blobs.{bytes_of, file_name}
use Rattle.blob_model.specs.Draws.{chosen_by}
use Rattle.blob_draws.specs.Rows.{table_of}
use Rattle.blob_journal.proofs.Blobs.{blob_beside, crashed_is, file_names_apart, named_apart}
use Rattle.std.proofs.Math.Logic.{∥∥₁_map}
use Rattle.blob_journal.specs.Fixed.{has_byte}
use Rattle.blob_journal.proofs.Fixed.{changes_open, fixes_open, has_from, open_is_seen, same_change, same_handles, seen_parts}
use Rattle.blob_journal.proofs.Limits.{sync_answers}
use Rattle.blob_journal.proofs.Ready.{ready_after, ready_here}
use Rattle.blob_journal.specs.Limits.{IsLimit}
use Rattle.blob_journal.proofs.Stores.{current_over, given_over, holds_same, uses_none}
use Rattle.blob_journal.proofs.journaled.Journaled.sync_file.Goals as goal

pub invariant_of-self : goal.invariant_of-self
invariant_of-self g c =
    let self = c.args.self.now in
    let new = c.sync.new.store in
    let w = c.sync.ensures in
    let file : Place = place (inside c.args.file.now.blob) in
    let at : Place = place (inside self.journal.blob) in
    let other : same_place file at ≡ false = other_blob file at c.args.file.now.partition self.partition in
    let given = c.in_ok-check.ensures.given in
    holds_same self new w.directory (λ test k. by_answer (error_of c.sync.result)
    (λ ok. c.other_blobs.ensures.synced self.store new file at test (live (inside c.args.file.now.blob)) given other w.directory (inl (w.leaves.published ok)) k)
    (λ err. c.same_bytes.ensures.same self.store new at test w.directory (w.leaves.same_files err) k))
  where
    by_answer : {Q : Type 0} (a : Option Refusal) → (a ≡ None → Q) → (IsSome a → Q) → Q
    by_answer None ok err = ok refl
    by_answer (Some r) ok err = err refl

pub returns-in_err-sync-clause-journal : goal.returns-in_err-sync-clause-journal
returns-in_err-sync-clause-journal g c =
    let at : Place = place (inside c.args.self.now.journal.blob) in
    record {
      place = refl;
      durable = ap (λ (d : Durable). d at) c.in_err-sync.ensures.err;
      pending = (c.in_err-sync.ensures.leaves.unrecorded refl).pending at;
      files = λ r. (r.0, c.in_err-sync.ensures.leaves.same_files refl r.0 r.1);
      unsettled = refl;
      told = refl;
    }

pub returns-clause-journal : goal.returns-clause-journal
returns-clause-journal g c =
    let at : Place = place (inside c.args.self.now.journal.blob) in
    let file : Place = place (inside c.args.file.now.blob) in
    let other : same_place file at ≡ false = other_blob file at c.args.file.now.partition c.args.self.now.partition in
    let new = c.sync.new.store in
    record {
      place = refl;
      durable = ap (λ (d : Durable). d at) c.in_ok-sync.ensures.synced ∙ cond-false _ _ _ other;
      pending = c.in_ok-sync.ensures.leaves.pending refl at ∙ cond-false _ _ _ other;
      files = λ r. (
        publish r.0 file (live (inside c.args.file.now.blob)),
        subst (λ (d : Directory). StandsFor d (durable (inner_of new)) (pending_of (λ (o : Place). o) new) (next_write_of new) (next_marker_of new) (publish r.0 file (live (inside c.args.file.now.blob)))) (sym c.sync.ensures.directory)
            (c.in_ok-sync.ensures.leaves.published refl r.0 r.1),
      );
      unsettled = refl;
      told = refl;
    }

pub returns-clause-synced : goal.returns-clause-synced
returns-clause-synced g c = λ inode opened.
    let is = opened.is in
    let s = open_is_seen g.row.R.Denot c.args.self.now inode c.args.file.now opened in
    let w = c.sync.ensures in
    let old = c.args.self.now.store in
    let new = c.sync.new.store in
    let at : Place = place (inside c.args.file.now.blob) in
    let bytes' : List ℕ = live (inside c.args.file.now.blob) in
    let was : Option (List ℕ) = durable (inner_of old) at in
    record {
      is = record {
        current = current_over _ _ _ _ _ _ w.directory w.place is.current;
        durable = ap (λ (o : Place). durable (inner_of new) o) w.place
            ∙ ap (λ (d : Durable). d at) c.in_ok-sync.ensures.synced
            ∙ cond-true (same_place at at) (option_map (λ _. bytes') was) was (same_self at)
            ∙ ap (option_map (λ _. bytes')) is.durable
            ∙ ap Some s.live;
      };
      seen = record { live = w.live ∙ s.live; size = w.leaves.size ∙ s.size };
    }

pub returns-clause-others : goal.returns-clause-others
returns-clause-others g c = λ inode bytes below is other there apart.
    let at : Place = place (inside c.args.file.now.blob) in
    blob_beside (codes "f") (file_name other) c.args.self.now.store c.sync.new.store at c.sync.ensures.directory
    (λ o f n. named_apart (codes "f") (file_name inode) (codes "f") (file_name other) at o (ap (λ (x : Place). x.partition) is.current.is) (ap (λ (x : Place). x.name) is.current.is) f n
    (file_names_apart inode other below there apart))
    (λ o beside. ap (λ (d : Durable). d o) c.in_ok-sync.ensures.synced ∙ cond-false (same_place at o) _ _ beside)

pub returns-clause-fixed : goal.returns-clause-fixed
returns-clause-fixed g c = λ inode opened kept.
    let is = opened.is in
    let s = open_is_seen g.row.R.Denot c.args.self.now inode c.args.file.now opened in
    let seen : List ℕ = bytes_of c.args.file.now in
    let w = c.sync.ensures in
    let old = c.args.self.now.store in
    let new = c.sync.new.store in
    let at : Place = place (inside c.args.file.now.blob) in
    let live_bytes : List ℕ = live (inside c.args.file.now.blob) in
    let was : Option (List ℕ) = durable (inner_of old) at in
    let there = is.current.is in
    let named = ap (λ (d : Directory). d.file (codes "f") (file_name inode)) w.directory ∙ is.current.file in
    let now : durable (inner_of new) at ≡ Some seen =
    ap (λ (d : Durable). d at) c.in_ok-sync.ensures.synced
    ∙ cond-true (same_place at at) (option_map (λ _. live_bytes) was) was (same_self at)
    ∙ ap (option_map (λ _. live_bytes)) is.durable
    ∙ ap Some s.live in
    let none : pending_of (λ (o : Place). o) new at ≡ [] = c.in_ok-sync.ensures.leaves.pending refl at ∙ cond-true (same_place at at) [] (pending_of (λ (o : Place). o) old at) (same_self at) in
    crashed_is (directory (inner_of new)) (durable (inner_of new)) (pending_of (λ (o : Place). o) new) (chosen_by (table_of kept)) (codes "f") (file_name inode) is.current.number is.current.layout seen
    named
    (ap (λ (o : Place). durable (inner_of new) o) (sym there) ∙ now)
    (ap (λ (o : Place). pending_of (λ (a : Place). a) new o) (sym there) ∙ none)

pub returns-in_err-check-clause-still : goal.returns-in_err-check-clause-still
returns-in_err-check-clause-still g c = same_change _ _ _

pub returns-in_err-sync-clause-still : goal.returns-in_err-sync-clause-still
returns-in_err-sync-clause-still g c =
    let old = c.args.self.now.store in
    let new = c.sync.new.store in
    let w = c.in_err-sync.ensures in
    let file = c.args.file.now in
    changes_open (λ at. Unit) _ file _ _ w.directory w.place
    (λ now tracked. w.leaves.size ∙ tracked ∙ ap (λ (l : List ℕ). length l) (sym w.live))
    (λ at byte spared h. ap₂ (λ (k : ℕ) (l : List ℕ). has_byte at byte (take k l)) w.leaves.size w.live ∙ h)
    (λ at byte spared h k. c.same_bytes.ensures.same old new (place (inside file.blob)) (has_byte at byte) w.directory (w.leaves.same_files refl) k)
    (λ o test other k. c.same_bytes.ensures.same old new o test w.directory (w.leaves.same_files refl) k)

pub returns-clause-still : goal.returns-clause-still
returns-clause-still g c =
    let old = c.args.self.now.store in
    let new = c.sync.new.store in
    let w = c.in_ok-sync.ensures in
    let file = c.args.file.now in
    let x : List ℕ = live (inside file.blob) in
    changes_open (λ at. Unit) _ file _ _ w.directory w.place
    (λ now tracked. w.leaves.size ∙ tracked ∙ ap (λ (l : List ℕ). length l) (sym w.live))
    (λ at byte spared h. ap₂ (λ (k : ℕ) (l : List ℕ). has_byte at byte (take k l)) w.leaves.size w.live ∙ h)
    (λ at byte spared h k. c.synced.ensures old new (place (inside file.blob)) (has_byte at byte) (has_byte at byte) x w.directory (inl (w.leaves.published refl))
    (has_from at byte x (seen_parts at byte (size_of file.blob) x h).1) k)
    (λ o test other k. c.other_blobs.ensures.synced old new (place (inside file.blob)) o test x c.in_ok-check.ensures.given other w.directory (inl (w.leaves.published refl)) k)

pub returns-clause-fixes : goal.returns-clause-fixes
returns-clause-fixes g c =
    let old = c.args.self.now.store in
    let new = c.sync.new.store in
    let w = c.in_ok-sync.ensures in
    let file = c.args.file.now in
    fixes_open _ file _ _ (∥∥₁_map c.args.self.now.kept (λ k. (k.has.found.files, k.has.found.stands))) w.place w.live w.leaves.size
    (λ next passes k. c.synced.ensures old new (place (inside file.blob)) (λ _. true) next (live (inside file.blob)) w.directory (inl (w.leaves.published refl)) passes k)

pub returns-in_err-check-clause-errors : goal.returns-in_err-check-clause-errors
returns-in_err-check-clause-errors g c = λ r. absurd (omega (arith, r.known, c.in_err-check.ensures.refused))

pub returns-in_err-sync-clause-errors : goal.returns-in_err-sync-clause-errors
returns-in_err-sync-clause-errors g c = λ r.
    let old = c.args.self.now.store in
    let file = c.args.file.now in
    let said : error_of c.from_residual-in_err-sync.result ≡ error_of c.sync.result = search rules in
    subst (IsLimit _) (sym said) (sync_answers _ (config_of old) (g.R.Rng.stream (rng_of old)) (directory (inner_of old)) (place (inside file.blob)) (error_of c.sync.result) r.faultless (ready_here c.args.self.now file r) c.sync.ensures.allowed)

pub returns-in_err-sync-clause-uses : goal.returns-in_err-sync-clause-uses
returns-in_err-sync-clause-uses g c =
    let w = c.in_err-sync.ensures in
    record {
      edits = record { names = refl; told = refl; unsettled = refl; log = refl };
      files = λ has r. (r.0, c.in_err-sync.ensures.leaves.same_files refl r.0 r.1);
      given = given_over c.args.self.now.store c.sync.new.store _ _ w.directory w.place;
      handles = same_handles c.args.self.now _ c.sync.ensures.directory;
      ready = ready_after _ c.args.file.now _ _ w.directory w.leaves.numbers.config refl w.place (λ now tracked. w.leaves.size ∙ tracked ∙ ap (λ (l : List ℕ). length l) (sym w.live));
    }

pub returns-clause-uses : goal.returns-clause-uses
returns-clause-uses g c =
    let w = c.in_ok-sync.ensures in
    record {
      edits = record { names = refl; told = refl; unsettled = refl; log = refl };
      files = λ has r.
          let new = c.sync.new.store in
          let files = publish r.0 (place (inside c.args.file.now.blob)) (live (inside c.args.file.now.blob)) in (
            files,
            subst (λ (d : Directory). StandsFor d (durable (inner_of new)) (pending_of (λ (o : Place). o) new) (next_write_of new) (next_marker_of new) files) (sym c.sync.ensures.directory)
                (c.in_ok-sync.ensures.leaves.published refl r.0 r.1),
          );
      given = given_over c.args.self.now.store c.sync.new.store _ _ w.directory w.place;
      handles = same_handles c.args.self.now _ c.sync.ensures.directory;
      ready = ready_after _ c.args.file.now _ _ w.directory w.leaves.numbers.config refl w.place (λ now tracked. w.leaves.size ∙ tracked ∙ ap (λ (l : List ℕ). length l) (sym w.live));
    }

pub returns-in_err-check-clause-uses : goal.returns-in_err-check-clause-uses
returns-in_err-check-clause-uses g c = uses_none _ _
