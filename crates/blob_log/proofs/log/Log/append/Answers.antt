use Rattle.std.proofs.Common.{rules, ◌≡◌, ◌<◌, List, ◌++◌, ◌∷◌, [], ℕ, length, true, false, arith, refl, sym, subst, ap, ◌∙◌}
use Rattle.std.proofs.lemmas.Grind.{common_steps}
use Rattle.std.specs.Prelude.{Result, Ok, Err, OnErr, Option, Some, None}
use Rattle.blob_header.specs.Refusals.{Refusal, error_of, refusal_of, Memory}
use Rattle.blob_model.specs.Bytes.{lies}
use Rattle.blob_model.specs.Files.{Files, all_logged}
use Rattle.blob_model.specs.Live.{live_written}
use Rattle.blob_model.specs.Log.{Entry, Kept}
use Rattle.blob_model.specs.Places.{Place}
use Rattle.blob_faulty.specs.Recorded.{kept_entries, recorded_write}
use Rattle.blob_faulty.specs.Keeps.{IsFor, Keeps}
use Rattle.blob_faulty.specs.Wrapper.{config_of, next_write_of, rng_of}
use Rattle.blob_log.specs.Frames.{frame, frames}
use Rattle.blob_log.specs.Held.{log_place}
use Rattle.blob_log.specs.Leaves.{log_live}
use Rattle.blob_log.specs.Refused.{TooLong, Uncounted, NoMemory}
use Rattle.blob_log.proofs.Refusing.{asked}
use Rattle.blob_log.proofs.Scans.{frames_more, length_frame, length_frames_more, short_more}
use Rattle.blob_log.proofs.log.Log.append.Goals as goal

at_err : {T E : Type 0} (r : Result T E) (Q : Type 0) → Q → OnErr r Q
at_err (Ok x) Q q = tt
at_err (Err e) Q q = q

pub returns-in_err-write_at-clause-refused : goal.returns-in_err-write_at-clause-refused
returns-in_err-write_at-clause-refused g c = at_err c.from_residual-in_err-write_at.result _ (λ records h.
    let w = c.in_err-write_at.ensures in
    record {
      kept = subst (λ (o : Place). Keeps c.write_at.new.store o (frames records)) (sym w.place)
          (c.writes.ensures.behind c.args.store.now c.write_at.new.store (log_place c.args.self.now) (frames records) c.in_ok-bytes.bytes c.args.self.now.end true _ w.directory (w.leaves.recorded refl) (omega (arith, h.end)) h.kept);
      short = h.short;
      end = h.end;
    })

pub returns-clause-acknowledged : goal.returns-clause-acknowledged
returns-clause-acknowledged g c = λ records h.
    let w = c.in_ok-write_at.ensures in
    let r = c.args.entry.now in
    let is = c.in_ok-bytes.ensures.ok ∙ c.in_ok-frame_of.ensures in
    let behind = c.writes.ensures.appended c.args.self.now.blob c.args.store.now c.write_at.new.store (log_place c.args.self.now) (frames records) c.in_ok-bytes.bytes c.args.self.now.end w.allowed w.directory (w.leaves.recorded refl) h.end h.kept in
    let short = c.if-entry.false in
    record {
      kept = subst (λ (o : Place). Keeps c.write_at.new.store o (frames (records ++ r ∷ []))) (sym w.place)
          (subst (λ (b : List ℕ). Keeps c.write_at.new.store (log_place c.args.self.now) b) (ap (λ (b : List ℕ). frames records ++ b) is ∙ frames_more records r) behind);
      short = short_more records r h.short (omega arith);
      end = omega (arith, c.in-Some.ensures, c.remaining.ensures, h.end, length_frames_more records r, length_frame r, ap length is);
    }

-- What else is left.

-- a write of some bytes is kept as one
kept_some : (offset : ℕ) (bytes : List ℕ) → 0 < length bytes → kept_entries offset bytes ≡ Kept offset bytes ∷ []
kept_some offset [] some = absurd (omega arith)
kept_some offset (b ∷ bytes) some = refl

pub returns-clause-appended : goal.returns-clause-appended
returns-clause-appended g c = λ files stands.
    let w = c.in_ok-write_at.ensures in
    let log = c.args.self.now in
    let r = c.args.entry.now in
    let bytes = c.in_ok-bytes.bytes in
    let is : bytes ≡ frame r = c.in_ok-bytes.ensures.ok ∙ c.in_ok-frame_of.ensures in
    let some : 0 < length (frame r) = omega (arith, length_frame r) in
    let now = w.current refl (λ e. omega (arith, ap length (sym is ∙ e), some)) in
    let all : recorded_write (config_of c.args.store.now) (next_write_of c.args.store.now) (g.R.Rng.stream (rng_of c.args.store.now)) true log.end bytes None ≡ Kept log.end (frame r) ∷ [] =
    c.writes.ensures.whole log.blob c.args.store.now log.end bytes w.allowed ∙ ap (kept_entries log.end) is ∙ kept_some log.end (frame r) some in
    subst (λ (es : List Entry). IsFor c.write_at.new.store (all_logged files (log_place log) es)) all
    (c.recorded.ensures.stands c.args.store.now c.write_at.new.store (log_place log)
    (recorded_write (config_of c.args.store.now) (next_write_of c.args.store.now) (g.R.Rng.stream (rng_of c.args.store.now)) true log.end bytes None) files now w.directory stands (w.leaves.recorded refl))

pub returns-in_err-write_at-clause-failed : goal.returns-in_err-write_at-clause-failed
returns-in_err-write_at-clause-failed g c = at_err c.from_residual-in_err-write_at.result _ (λ files stands now.
    let w = c.in_err-write_at.ensures in
    let log = c.args.self.now in
    let r = c.args.entry.now in
    let bytes = c.in_ok-bytes.bytes in
    let is : bytes ≡ frame r = c.in_ok-bytes.ensures.ok ∙ c.in_ok-frame_of.ensures in
    let answer : Option Refusal = Some (refusal_of c.in_err-write_at.field-0.0) in
    let recorded : List Entry = recorded_write (config_of c.args.store.now) (next_write_of c.args.store.now) (g.R.Rng.stream (rng_of c.args.store.now)) true log.end bytes answer in (
      recorded,
      (λ p out. c.entries.ensures.in_range (config_of c.args.store.now) (next_write_of c.args.store.now) (g.R.Rng.stream (rng_of c.args.store.now)) true p log.end bytes answer (ap (λ (n : ℕ). lies log.end n p) (ap length is) ∙ out)),
      c.recorded.ensures.stands c.args.store.now c.write_at.new.store (log_place log) recorded files now w.directory stands (w.leaves.recorded refl),
    ))

pub returns-then-entry-clause-failed : goal.returns-then-entry-clause-failed
returns-then-entry-clause-failed g c = λ files stands now. ([], (λ p out. refl), stands)

pub returns-in_err-frame_of-clause-failed : goal.returns-in_err-frame_of-clause-failed
returns-in_err-frame_of-clause-failed g c = at_err c.from_residual.result _ (λ files stands now. ([], (λ p out. refl), stands))

pub returns-in_err-bytes-clause-failed : goal.returns-in_err-bytes-clause-failed
returns-in_err-bytes-clause-failed g c = at_err c.from_residual-in_err-bytes.result _ (λ files stands now. ([], (λ p out. refl), stands))

pub returns-in_default-clause-failed : goal.returns-in_default-clause-failed
returns-in_default-clause-failed g c = λ files stands now. ([], (λ p out. refl), stands)

pub returns-clause-live : goal.returns-clause-live
returns-clause-live g c = c.in_ok-write_at.ensures.live ∙ ap (λ (b : List ℕ). live_written true (log_live c.args.self.now) c.args.self.now.end b) (c.in_ok-bytes.ensures.ok ∙ c.in_ok-frame_of.ensures)

pub returns-in_err-write_at-clause-config : goal.returns-in_err-write_at-clause-config
returns-in_err-write_at-clause-config g c = c.in_err-write_at.ensures.leaves.config

pub returns-clause-config : goal.returns-clause-config
returns-clause-config g c = c.in_ok-write_at.ensures.leaves.config

-- Why the call may return this result.

pub returns-then-entry-clause-answer : goal.returns-then-entry-clause-answer
returns-then-entry-clause-answer g c = TooLong (omega (arith, c.if-entry.true))

pub returns-in_err-frame_of-clause-answer : goal.returns-in_err-frame_of-clause-answer
returns-in_err-frame_of-clause-answer g c =
    let e : error_of c.from_residual.result ≡ Some Memory = first_of (search rules, grind (arith, common_steps)) in
    rw e NoMemory

pub returns-in_err-bytes-clause-answer : goal.returns-in_err-bytes-clause-answer
returns-in_err-bytes-clause-answer g c =
    let e : error_of c.from_residual-in_err-bytes.result ≡ Some Memory = first_of (search rules, grind (arith, common_steps)) in
    rw e NoMemory

pub returns-in_default-clause-answer : goal.returns-in_default-clause-answer
returns-in_default-clause-answer g c = Uncounted (omega (arith, c.in_default.ensures, c.remaining.ensures, ap length (c.in_ok-bytes.ensures.ok ∙ c.in_ok-frame_of.ensures)))

pub returns-in_err-write_at-clause-answer : goal.returns-in_err-write_at-clause-answer
returns-in_err-write_at-clause-answer g c =
    let e : error_of c.from_residual-in_err-write_at.result ≡ Some (refusal_of c.in_err-write_at.field-0.0) = search rules in
    rw e (asked _ _ _ c.in_ok-bytes.bytes _ (c.in_ok-bytes.ensures.ok ∙ c.in_ok-frame_of.ensures) c.in_err-write_at.ensures.allowed)

pub returns-clause-answer : goal.returns-clause-answer
returns-clause-answer g c = asked _ _ _ c.in_ok-bytes.bytes None (c.in_ok-bytes.ensures.ok ∙ c.in_ok-frame_of.ensures) c.in_ok-write_at.ensures.allowed
