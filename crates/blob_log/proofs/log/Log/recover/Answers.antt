use Rattle.std.proofs.Common.{rules, ◌≡◌, ℕ, ◌^◌, ◌<◌, Some, None, List, ◌∙◌, length, refl, sym, ap, subst, arith, inl, inr}
use Rattle.std.specs.Prelude.{Result, Ok, Err, OnErr}
use Rattle.std.proofs.lemmas.Grind.{common_steps}
use Rattle.std.proofs.lemmas.List.{take_all}
use Rattle.blob_header.specs.Fronts.{BeginsWith}
use Rattle.blob_header.specs.Refusals.{error_of, refusal_of, Memory}
use Rattle.blob_faulty.specs.Wrapper.{inside}
use Rattle.blob_memory.specs.Store.{place, live}
use Rattle.blob_log.specs.Frames.{frames, scan}
use Rattle.blob_log.specs.Held.{HoldsRecords}
use Rattle.blob_log.specs.Refused.{Opened, NoMemory}
use Rattle.blob_log.proofs.Refusing.{starts, not_read}
use Rattle.blob_log.proofs.Scans.{front_scanned}
use Rattle.blob_log.proofs.log.Log.recover.Goals as goal

pub returns-clause-found : goal.returns-clause-found
returns-clause-found g c = λ o records named short k.
    let bytes = live (inside c.in_ok-blob.blob) in
    let long : length c.as_mut_slice-found.result.now ≡ length bytes = first_of (search rules, grind (arith, common_steps)) in
    let read = c.in_ok-read_into.ensures.bytes ∙ take_all (length c.as_mut_slice-found.result.now) bytes (omega (arith, long)) in
    let there = c.in_ok-blob.ensures.accepted.found o (frames records) named k in
    (there.0, subst (λ (l : List (List ℕ)). BeginsWith records l) (ap scan (sym read) ∙ sym c.in_ok-records.ensures.records) (front_scanned c.scans_find_frames.ensures.again records bytes short there.1))

pub returns-clause-held : goal.returns-clause-held
returns-clause-held g c = λ files stands.
    let bytes = live (inside c.in_ok-blob.blob) in
    let long : length c.as_mut_slice-found.result.now ≡ length bytes = first_of (search rules, grind (arith, common_steps)) in
    let read = c.in_ok-read_into.ensures.bytes ∙ take_all (length c.as_mut_slice-found.result.now) bytes (omega (arith, long)) in
    let o = place (inside c.in_ok-blob.blob) in
    let s = c.in_ok-records.ensures in
    let kept = c.in_ok-read_into.ensures.keeps o bytes (c.in_ok-blob.ensures.accepted.fixed files stands) in
    subst (λ (l : List (List ℕ)). HoldsRecords (record { alloc = c.args.alloc; blob = c.in_ok-blob.blob; end = c.in_ok-records.end }) c.read_into.new.store l) (sym s.records) (record {
      kept = c.unrecorded_calls.ensures.front c.read_into.new.store o (frames (scan c.read_into.new.buf)) bytes (subst (λ (b : List ℕ). BeginsWith (frames (scan c.read_into.new.buf)) b) read s.front) kept;
      short = s.short;
      end = s.end;
    })

-- The files after the call.

at_err : {T E : Type 0} (r : Result T E) (Q : Type 0) → Q → OnErr r Q
at_err (Ok x) Q q = tt
at_err (Err e) Q q = q

pub returns-clause-opened : goal.returns-clause-opened
returns-clause-opened g c = λ files stands. c.in_ok-read_into.ensures.files _ (c.in_ok-blob.ensures.accepted.files files stands)

pub returns-in_err-blob-clause-failed : goal.returns-in_err-blob-clause-failed
returns-in_err-blob-clause-failed g c = at_err c.from_residual.result _ (inl (c.in_err-blob.ensures.answer.err refl).same_files)

pub returns-in_err-resize-clause-failed : goal.returns-in_err-resize-clause-failed
returns-in_err-resize-clause-failed g c = at_err c.from_residual-in_err-resize.result _ (inr c.in_ok-blob.ensures.accepted.files)

pub returns-in_err-read_into-clause-failed : goal.returns-in_err-read_into-clause-failed
returns-in_err-read_into-clause-failed g c = at_err c.from_residual-in_err-read_into.result _ (inr (λ files stands. c.in_err-read_into.ensures.files _ (c.in_ok-blob.ensures.accepted.files files stands)))

pub returns-in_err-records-clause-failed : goal.returns-in_err-records-clause-failed
returns-in_err-records-clause-failed g c = at_err c.from_residual-in_err-records.result _ (inr (λ files stands. c.in_ok-read_into.ensures.files _ (c.in_ok-blob.ensures.accepted.files files stands)))

pub returns-in_err-blob-clause-config : goal.returns-in_err-blob-clause-config
returns-in_err-blob-clause-config g c = c.in_err-blob.ensures.answer.leaves.numbers.config

pub returns-in_err-resize-clause-config : goal.returns-in_err-resize-clause-config
returns-in_err-resize-clause-config g c = c.in_ok-blob.ensures.answer.leaves.numbers.config

pub returns-in_err-read_into-clause-config : goal.returns-in_err-read_into-clause-config
returns-in_err-read_into-clause-config g c = c.in_err-read_into.ensures.leaves.unrecorded.numbers.config ∙ c.in_ok-blob.ensures.answer.leaves.numbers.config

pub returns-in_err-records-clause-config : goal.returns-in_err-records-clause-config
returns-in_err-records-clause-config g c = c.in_ok-read_into.ensures.leaves.unrecorded.numbers.config ∙ c.in_ok-blob.ensures.answer.leaves.numbers.config

pub returns-clause-config : goal.returns-clause-config
returns-clause-config g c = c.in_ok-read_into.ensures.leaves.unrecorded.numbers.config ∙ c.in_ok-blob.ensures.answer.leaves.numbers.config

-- Why the call may return this result.

pub returns-in_err-blob-clause-answer : goal.returns-in_err-blob-clause-answer
returns-in_err-blob-clause-answer g c =
    let e : error_of c.from_residual.result ≡ Some (refusal_of c.in_err-blob.field-0.0) = search rules in
    rw e (Opened _ c.in_err-blob.ensures.answer.allowed)

pub returns-in_err-resize-clause-answer : goal.returns-in_err-resize-clause-answer
returns-in_err-resize-clause-answer g c =
    let e : error_of c.from_residual-in_err-resize.result ≡ Some Memory = first_of (search rules, grind (arith, common_steps)) in
    rw e NoMemory

pub returns-in_err-read_into-clause-answer : goal.returns-in_err-read_into-clause-answer
returns-in_err-read_into-clause-answer g c =
    let e : error_of c.from_residual-in_err-read_into.result ≡ Some (refusal_of c.in_err-read_into.field-0.0) = search rules in
    let live_bytes = live (inside c.in_ok-blob.blob) in
    let long : length c.as_mut_slice-found.result.now ≡ length live_bytes = first_of (search rules, grind (arith, common_steps)) in
    let opened = c.in_ok-blob.ensures in
    let start = starts _ _ _ _ _ _ _ _ (place (inside c.in_ok-blob.blob)) live_bytes _ opened.accepted.opened in
    let few : length c.as_mut_slice-found.result.now < 2 ^ 63 = omega (arith, c.as_mut_slice-found.ensures.len, c.resize.new.self.ok.1, c.resize.new.self.small) in
    rw e (not_read g.R.Rng.stream c.args.store.now c.open_admitted.new.self c.args.partition.now c.args.name.now (place (inside c.in_ok-blob.blob)) live_bytes (length c.as_mut_slice-found.result.now) _
    opened.answer.allowed opened.answer.leaves.numbers.config opened.answer.leaves.drawn (omega (arith, start, few)) (omega (arith, long)) c.in_err-read_into.ensures.allowed)

pub returns-in_err-records-clause-answer : goal.returns-in_err-records-clause-answer
returns-in_err-records-clause-answer g c =
    let e : error_of c.from_residual-in_err-records.result ≡ Some Memory = first_of (search rules, grind (arith, common_steps)) in
    rw e NoMemory

pub returns-clause-answer : goal.returns-clause-answer
returns-clause-answer g c = Opened None c.in_ok-blob.ensures.answer.allowed
