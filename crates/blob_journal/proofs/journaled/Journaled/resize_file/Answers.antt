use Rattle.std.proofs.Common.{◌≡◌, false, ap, refl, ◌∙◌, List, ℕ, sym, ◌<◌, ap₂, arith, length, min, nat_le, take}
use Rattle.blob_header.specs.Refusals.{error_of}
use Rattle.blob_model.specs.Places.{Place, same_place}
use Rattle.blob_memory.specs.Store.{directory, place, durable, live}
use Rattle.blob_draws.specs.Faults.{resize_fate}
use Rattle.blob_draws.specs.Recorded.{recorded_resize, live_of_resize, size_of_resize}
use Rattle.blob_faulty.specs.Wrapper.{config_of, inner_of, inside, rng_of, size_of}
use Rattle.blob_journal.proofs.Found.{other_blob}
use Rattle.std.specs.Prelude.{codes}
use Rattle.blob_model.specs.Bytes.{resize}
use Rattle.blob_model.specs.Durable.{Durable}
use Rattle.blob_model.proofs.Bytes.{length-resized}
use Rattle.blob_journal.specs.Blobs.{file_name}
use Rattle.blob_journal.proofs.Blobs.{blob_same, by_ok, on_ok}
use Rattle.std.proofs.lemmas.Bool.{lt-leb}
use Rattle.blob_draws.proofs.Unreached.{reached_above, resize_counts, resize_has}
use Rattle.blob_journal.specs.Fixed.{has_byte}
use Rattle.blob_journal.proofs.Fixed.{changes_open, reached_past, resized_has, same_change, same_handles, seen_from, seen_parts}
use Rattle.blob_journal.proofs.Limits.{resize_answers}
use Rattle.blob_journal.proofs.Ready.{ready_after}
use Rattle.blob_journal.proofs.Stores.{current_over, files_added, given_over, holds_same, uses_none}
use Rattle.blob_journal.proofs.journaled.Journaled.resize_file.Goals as goal

pub invariant_of-self : goal.invariant_of-self
invariant_of-self g c =
    let self = c.args.self.now in
    let new = c.resize.new.store in
    let w = c.resize.ensures in
    let file : Place = place (inside c.args.file.now.blob) in
    let at : Place = place (inside self.journal.blob) in
    let other : same_place file at ≡ false = other_blob file at c.args.file.now.partition self.partition in
    let fate = resize_fate (config_of self.store).resize_rate (size_of c.args.file.now.blob) c.args.length (g.R.Rng.stream (rng_of self.store)) in
    let es = recorded_resize fate.0 c.args.length (error_of c.resize.result) in
    holds_same self new w.directory (λ test k. c.other_blobs.ensures.recorded self.store new file at test es c.in_ok-check.ensures.given other w.directory (w.leaves.recorded_after refl) k)

pub returns-clause-resized : goal.returns-clause-resized
returns-clause-resized g c =
    let w = c.resize.ensures in
    let length = c.args.length in
    let new = c.resize.new.store in
    let at : Place = place (inside c.args.file.now.blob) in
    by_ok c.resize.result w.live w.leaves.size
    (λ resized size inode bytes is. (
      record {
        current = current_over _ _ _ _ _ _ w.directory w.place is.current;
        durable = ap (λ (o : Place). durable (inner_of new) o) w.place ∙ ap (λ (d : Durable). d at) w.durable ∙ is.durable;
      },
      λ seen s. record { live = resized ∙ ap (λ (l : List ℕ). resize l length) s.live; size = size ∙ sym (length-resized seen length) },
    ))

pub returns-clause-same : goal.returns-clause-same
returns-clause-same g c = on_ok c.resize.result _ (λ inode. blob_same (codes "f") (file_name inode) c.args.self.now.store c.resize.new.store c.resize.ensures.directory c.resize.ensures.durable)

pub returns-in_err-check-clause-still : goal.returns-in_err-check-clause-still
returns-in_err-check-clause-still g c = same_change _ _ _

pub returns-clause-still : goal.returns-clause-still
returns-clause-still g c =
    let old = c.args.self.now.store in
    let new = c.resize.new.store in
    let w = c.resize.ensures in
    let file = c.args.file.now in
    let at_file : Place = place (inside file.blob) in
    let rate = (config_of old).resize_rate in
    let stream = g.R.Rng.stream (rng_of old) in
    let len : ℕ = c.args.length in
    let answer = error_of c.resize.result in
    let x : List ℕ = live (inside file.blob) in
    let n : ℕ = size_of file.blob in
    let fate = resize_fate rate n len stream in
    let es = recorded_resize fate.0 len answer in
    let above = reached_above rate n len stream in
    let alive : live (inside c.resize.new.self) ≡ live_of_resize fate.0 x len answer = w.leaves.live_after refl in
    let sized : size_of c.resize.new.self ≡ size_of_resize fate.0 n len answer = w.leaves.size_after refl in
    changes_open (λ at. at < len) _ file _ _ w.directory w.place
    (λ now tracked. sized ∙ c.sizes.ensures.resizes fate.0 n x len answer tracked ∙ ap (λ (l : List ℕ). length l) (sym alive))
    (λ at byte low h.
    let parts = seen_parts at byte n x h in
    let out : nat_le len at ≡ false = lt-leb len at low in
    let below : at < min n len = omega (arith, parts.0, low) in
    ap₂ (λ (k : ℕ) (l : List ℕ). has_byte at byte (take k l)) sized alive
    ∙ seen_from at byte _ _ (resize_counts at len (min n len) out below fate.0 n answer above parts.0) (resize_has at len (min n len) out below fate.0 byte x answer above parts.1))
    (λ at byte low h k.
    let parts = seen_parts at byte n x h in
    c.resized.ensures old new at_file (has_byte at byte) (has_byte at byte) rate n len stream answer w.directory (w.leaves.recorded_after refl)
    (λ y passes. passes)
    (λ y m passes reach.
    let counts : at < n = parts.0 in
    resized_has at byte m y (reached_past at m n len counts low reach) passes) k)
    (λ o test other k. c.other_blobs.ensures.recorded old new at_file o test es c.in_ok-check.ensures.given other w.directory (w.leaves.recorded_after refl) k)

pub returns-in_err-check-clause-errors : goal.returns-in_err-check-clause-errors
returns-in_err-check-clause-errors g c = λ r. absurd (omega (arith, r.known, c.in_err-check.ensures.refused))

pub returns-clause-errors : goal.returns-clause-errors
returns-clause-errors g c = λ r.
    let old = c.args.self.now.store in
    resize_answers _ (config_of old) (g.R.Rng.stream (rng_of old)) (place (inside c.args.file.now.blob)) (size_of c.args.file.now.blob) c.args.length (error_of c.resize.result) r.faultless c.resize.ensures.allowed

pub returns-clause-uses : goal.returns-clause-uses
returns-clause-uses g c =
    let old = c.args.self.now.store in
    let w = c.resize.ensures in
    let file = c.args.file.now in
    let fate = resize_fate (config_of old).resize_rate (size_of file.blob) c.args.length (g.R.Rng.stream (rng_of old)) in
    record {
      edits = record { names = refl; told = refl; unsettled = refl; log = refl };
      files = λ has. files_added old c.resize.new.store (place (inside file.blob)) (recorded_resize fate.0 c.args.length (error_of c.resize.result)) w.directory (w.leaves.recorded_after refl) has;
      given = given_over c.args.self.now.store c.resize.new.store _ _ w.directory w.place;
      handles = same_handles c.args.self.now _ c.resize.ensures.directory;
      ready = ready_after _ file _ _ w.directory w.leaves.numbers.config refl w.place
          (λ now tracked. w.leaves.size_after refl ∙ c.sizes.ensures.resizes fate.0 (size_of file.blob) (live (inside file.blob)) c.args.length (error_of c.resize.result) tracked ∙ ap (λ (l : List ℕ). length l) (sym (w.leaves.live_after refl)));
    }

pub returns-in_err-check-clause-uses : goal.returns-in_err-check-clause-uses
returns-in_err-check-clause-uses g c = uses_none _ _
