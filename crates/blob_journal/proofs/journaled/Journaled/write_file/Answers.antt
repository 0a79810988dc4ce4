use Rattle.std.proofs.Common.{◌≡◌, Bool, None, false, ap, refl, rules, subst, sym, ◌∙◌, ◌<◌, List, ℕ, ap₂, arith, length, take}
use Rattle.std.specs.Prelude.{codes, option_map}
use Rattle.blob_base.specs.Options.{is_sync}
use Rattle.blob_header.specs.Refusals.{error_of}
use Rattle.blob_model.specs.Directory.{Directory}
use Rattle.blob_model.specs.Places.{Place, same_place}
use Rattle.blob_memory.specs.Store.{directory, place, durable, live}
use Rattle.blob_draws.specs.Recorded.{recorded_write, live_of_write, size_of_write}
use Rattle.blob_faulty.specs.Wrapper.{config_of, inner_of, inside, next_write_of, rng_of, Adds, Stands, size_of}
use Rattle.blob_model.specs.Draws.{chosen_by}
use Rattle.blob_model.specs.Durable.{Durable}
use Rattle.blob_model.specs.Log.{replay_log, Entry}
use Rattle.blob_model.specs.Files.{all_logged}
use Rattle.blob_draws.specs.Rows.{table_of}
use Rattle.blob_journal.specs.Blobs.{file_name}
use Rattle.blob_journal.specs.Writes.{entries_of_write}
use Rattle.blob_draws.specs.Answers.{allows_write}
use Rattle.blob_journal.proofs.Blobs.{blob_same, by_ok}
use Rattle.blob_model.specs.Live.{live_written}
use Rattle.blob_draws.proofs.Sizes.{length-written}
use Rattle.blob_faulty.specs.HandleLeaves.{size_written}
use Rattle.blob_journal.proofs.Writes.{by_answer, by_oks, crashed_by, crashed_in, recorded_loose}
use Rattle.blob_journal.proofs.Found.{other_blob}
use Rattle.blob_draws.proofs.Unreached.{write_grows, write_has}
use Rattle.blob_journal.specs.Fixed.{IsBeside, has_byte}
use Rattle.std.proofs.Math.Logic.{∥∥₁_elim}
use Rattle.std.specs.Coded.{Coded-set, coded_list, coded_option, coded_ℕ}
use Rattle.blob_journal.proofs.Fixed.{beside_lies, changes_open, current_of, incarnation_here, overlaid_has, same_change, same_handles, seen_from, seen_parts}
use Rattle.blob_journal.proofs.Limits.{write_allowed}
use Rattle.blob_journal.proofs.Ready.{ready_after, ready_here}
use Rattle.blob_journal.proofs.Stores.{current_over, files_added, given_over, holds_same, uses_none}
use Rattle.blob_journal.proofs.journaled.Journaled.write_file.Goals as goal

pub invariant_of-self : goal.invariant_of-self
invariant_of-self g c =
    let self = c.args.self.now in
    let new = c.write_from.new.store in
    let w = c.write_from.ensures in
    let file : Place = place (inside c.args.file.now.blob) in
    let at : Place = place (inside self.journal.blob) in
    let other : same_place file at ≡ false = other_blob file at c.args.file.now.partition self.partition in
    let es = recorded_write (config_of self.store) (next_write_of self.store) (g.R.Rng.stream (rng_of self.store)) (is_sync c.default-options.result) c.args.offset c.args.bytes.now (error_of c.write_from.result) in
    holds_same self new w.directory (λ test k. c.other_blobs.ensures.recorded self.store new file at test es c.in_ok-check.ensures.given other w.directory (w.leaves.recorded refl) k)

pub returns-clause-recorded : goal.returns-clause-recorded
returns-clause-recorded g c =
    let old = c.args.self.now.store in
    let new = c.write_from.new.store in
    let w = c.write_from.ensures in
    let at : Place = place (inside c.args.file.now.blob) in
    let number = next_write_of old in
    let stream = g.R.Rng.stream (rng_of old) in
    let plain : is_sync c.default-options.result ≡ false = first_of (search rules, cc) in
    let es = entries_of_write old c.args.offset c.args.bytes.now in
    by_answer c.write_from.result (allows_write _ _ _ (config_of old) number stream c.args.offset c.args.bytes.now (is_sync c.default-options.result)) w.allowed w.plain w.leaves.done (λ durable_same allowed adds.
    let is : recorded_write (config_of old) number stream (is_sync c.default-options.result) c.args.offset c.args.bytes.now None ≡ es =
    recorded_loose _ _ _ (config_of old) number stream c.args.offset c.args.bytes.now (is_sync c.default-options.result) plain allowed in
    let adds : Adds (λ (o : Place). o) (directory (inner_of old)) (durable (inner_of old)) (durable (inner_of new)) old new at es = subst (λ (l : List Entry). Adds (λ (o : Place). o) (directory (inner_of old)) (durable (inner_of old)) (durable (inner_of new)) old new at l) is adds in
    record {
      logged = λ files for. subst (λ (d : Directory). Stands (λ (o : Place). o) d (durable (inner_of new)) new (all_logged files at es)) (sym w.directory) (adds files c.in_ok-check.ensures.given for);
      same = λ inode bytes is. record {
        current = current_over _ _ _ _ _ _ w.directory w.place is.current;
        durable = ap (λ (o : Place). durable (inner_of new) o) w.place ∙ ap (λ (d : Durable). d at) (durable_same plain) ∙ is.durable;
      };
      left = λ inode kept is.
          let t = chosen_by (table_of kept) in
          ∥∥₁_elim c.args.self.now.kept (Coded-set (coded_option (coded_list coded_ℕ)) (crashed_in new t inode) (option_map (λ x. replay_log x es t) (crashed_in old t inode)))
          (λ k. crashed_by old new t inode at (λ x. replay_log x es t) (current_of old (codes "f") (file_name inode) at is) w.directory
          (c.recorded.ensures.left old new at es k.has.found.files t (incarnation_here old (codes "f") (file_name inode) at is) w.directory k.has.found.stands adds));
    })

pub returns-in_err-check-clause-still : goal.returns-in_err-check-clause-still
returns-in_err-check-clause-still g c = same_change _ _ _

pub returns-clause-still : goal.returns-clause-still
returns-clause-still g c =
    let old = c.args.self.now.store in
    let new = c.write_from.new.store in
    let w = c.write_from.ensures in
    let file = c.args.file.now in
    let at_file : Place = place (inside file.blob) in
    let config = config_of old in
    let stream = g.R.Rng.stream (rng_of old) in
    let sync = is_sync c.default-options.result in
    let offset = c.args.offset in
    let bytes = c.args.bytes.now in
    let answer = error_of c.write_from.result in
    let x : List ℕ = live (inside file.blob) in
    let n : ℕ = size_of file.blob in
    let es = recorded_write config (next_write_of old) stream sync offset bytes answer in
    let alive : live (inside c.write_from.new.self) ≡ live_of_write config stream sync x offset bytes answer = w.leaves.live_after refl in
    let sized : size_of c.write_from.new.self ≡ size_of_write config stream sync n offset bytes answer = w.leaves.size refl in
    changes_open (IsBeside offset (length bytes)) _ file _ _ w.directory w.place
    (λ now tracked. sized ∙ c.sizes.ensures.writes config stream sync n x offset bytes answer (c.found.ensures file.blob old offset bytes sync answer now w.allowed) tracked ∙ ap (λ (l : List ℕ). length l) (sym alive))
    (λ at byte beside h.
    let parts = seen_parts at byte n x h in
    let low : at < size_of_write config stream sync n offset bytes answer = omega (arith, parts.0, write_grows config stream sync n offset bytes answer) in
    ap₂ (λ (k : ℕ) (l : List ℕ). has_byte at byte (take k l)) sized alive
    ∙ seen_from at byte _ _ low (write_has at byte offset bytes (beside_lies at offset (length bytes) beside) x parts.1 config stream sync answer))
    (λ at byte beside h k. c.written.ensures old new at_file (has_byte at byte) (has_byte at byte) offset bytes sync answer w.directory (w.leaves.recorded refl)
    (λ y z passes lays. ap (has_byte at byte) lays.2 ∙ overlaid_has at byte offset bytes y lays.0 beside passes) k)
    (λ o test other k. c.other_blobs.ensures.recorded old new at_file o test es c.in_ok-check.ensures.given other w.directory (w.leaves.recorded refl) k)

pub returns-clause-same : goal.returns-clause-same
returns-clause-same g c =
    let plain : is_sync c.default-options.result ≡ false = first_of (search rules, cc) in
    let w = c.write_from.ensures in
    by_ok c.write_from.result w.plain (λ done. done)
    (λ durable_same done inode. blob_same (codes "f") (file_name inode) c.args.self.now.store c.write_from.new.store w.directory (durable_same plain))

pub returns-clause-written : goal.returns-clause-written
returns-clause-written g c =
    let new = c.write_from.new.store in
    let w = c.write_from.ensures in
    let at : Place = place (inside c.args.file.now.blob) in
    let offset = c.args.offset in
    let bytes = c.args.bytes.now in
    let plain : is_sync c.default-options.result ≡ false = first_of (search rules, cc) in
    by_oks c.write_from.result w.plain w.live w.leaves.done_size
    (λ durable_same alive sized inode known is. (
      record {
        current = current_over _ _ _ _ _ _ w.directory w.place is.current;
        durable = ap (λ (o : Place). durable (inner_of new) o) w.place ∙ ap (λ (d : Durable). d at) (durable_same plain) ∙ is.durable;
      },
      λ seen s. record {
        live = alive ∙ ap₂ (λ (b : Bool) (l : List ℕ). live_written b l offset bytes) plain s.live;
        size = sized ∙ ap₂ (λ (b : Bool) (n : ℕ). size_written b n offset bytes) plain s.size ∙ sym (length-written seen offset bytes);
      },
    ))

pub returns-in_err-check-clause-errors : goal.returns-in_err-check-clause-errors
returns-in_err-check-clause-errors g c = λ r. absurd (omega (arith, r.known, c.in_err-check.ensures.refused))

pub returns-clause-errors : goal.returns-clause-errors
returns-clause-errors g c = λ r.
    let old = c.args.self.now.store in
    let file = c.args.file.now in
    write_allowed _ (config_of old) _ _ (next_write_of old) (g.R.Rng.stream (rng_of old)) (directory (inner_of old)) (place (inside file.blob)) _ c.args.offset c.args.bytes.now (is_sync c.default-options.result) (error_of c.write_from.result)
    r.faultless (λ s. ready_here c.args.self.now file r) c.write_from.ensures.allowed

pub returns-clause-uses : goal.returns-clause-uses
returns-clause-uses g c =
    let old = c.args.self.now.store in
    let w = c.write_from.ensures in
    let file = c.args.file.now in
    let config = config_of old in
    let stream = g.R.Rng.stream (rng_of old) in
    let sync = is_sync c.default-options.result in
    let offset = c.args.offset in
    let bytes = c.args.bytes.now in
    let answer = error_of c.write_from.result in
    record {
      edits = record { names = refl; told = refl; unsettled = refl; log = refl };
      files = λ has. files_added old c.write_from.new.store (place (inside file.blob)) (recorded_write config (next_write_of old) stream sync offset bytes answer) w.directory (w.leaves.recorded refl) has;
      given = given_over c.args.self.now.store c.write_from.new.store _ _ w.directory w.place;
      handles = same_handles c.args.self.now _ c.write_from.ensures.directory;
      ready = ready_after _ file _ _ w.directory w.leaves.config refl w.place
          (λ now tracked. w.leaves.size refl
          ∙ c.sizes.ensures.writes config stream sync (size_of file.blob) (live (inside file.blob)) offset bytes answer (c.found.ensures file.blob old offset bytes sync answer now w.allowed) tracked
          ∙ ap (λ (l : List ℕ). length l) (sym (w.leaves.live_after refl)));
    }

pub returns-in_err-check-clause-uses : goal.returns-in_err-check-clause-uses
returns-in_err-check-clause-uses g c = uses_none _ _
