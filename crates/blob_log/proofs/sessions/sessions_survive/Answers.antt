use Rattle.std.proofs.Common.{rules, ◌≡◌, Some, ℕ, List, [], ◌∷◌, ◌++◌, ◌∙◌, ◌+◌, length, take, refl, ap, sym, subst, arith, length-append}
use Rattle.std.proofs.lemmas.List.{take_all, take_more}
use Rattle.std.proofs.lemmas.Grind.{common_steps}
use Rattle.std.specs.Global.{Global}
use Rattle.std.specs.Prelude.{Vec}
use Rattle.blob_model.specs.Places.{Place}
use Rattle.blob_model.specs.Opened.{IsNamed}
use Rattle.blob_header.specs.Fronts.{BeginsWith}
use Rattle.blob_header.specs.Refusals.{error_of, refusal_of, Memory}
use Rattle.blob_log.specs.declared.sessions.Session.{Session}
use Rattle.blob_log.specs.Held.{record_bytes, acknowledged_records, log_place}
use Rattle.blob_log.specs.Refused.{NotRecovered, NoMemory, Done}
use Rattle.blob_log.specs.Runs.{AllRun, RunTo, SessionRuns}
use Rattle.blob_log.proofs.Running.{crash_drawn, runs_more}
use Rattle.blob_log.proofs.Surviving.{answered_more, survive_more}
use Rattle.blob_log.proofs.sessions.sessions_survive.Goals as goal

pub loop-entries-init : goal.loop-entries-init
loop-entries-init g c =
    let before = record_bytes c.in_ok-log.before.items in
    record {
      held = c.in_ok-log.ensures.held;
      named = c.in_ok-log.ensures.named;
      count = ap length c.in_ok-done.ensures.items;
      answered = search rules;
      ran = subst (λ (l : List Session). RunTo g.R.Rng.stream c.args.partition.now c.args.name.now c.args.store.now l [] c.in_ok-log.log before c.recover.new.store) (sym c.in_ok-done.ensures.items) (record {
        log = c.in_ok-log.log;
        before = before;
        opened = c.recover.new.store;
        recovers = record { opened = c.in_ok-log.ensures.opened; held = c.in_ok-log.ensures.held; config = c.recover.ensures.config };
        ran = (refl, refl, refl);
      });
      survive = search rules;
    }

pub loop-entries-preserved : goal.loop-entries-preserved
loop-entries-preserved g c =
    let before = c.loop-entries.before in
    let answers = c.in_ok-answers.answers in
    let session : Session = record { before = before; answers = answers } in
    let o = log_place c.append_all.new.log in
    let named : IsNamed o c.args.partition.now c.args.name.now = subst (λ (a : Place). IsNamed a c.args.partition.now c.args.name.now) (sym c.append_all.ensures.place) c.loop-entries.invariant.named in
    record {
      held = λ files stands.
          let h = c.in_ok-answers.ensures.held (record_bytes before.items) (c.loop-entries.invariant.held files stands) in
          let k = c.crash.ensures.keeps o _ h.kept in
          c.in_ok-again.ensures.held k.files k.stands;
      named = c.in_ok-again.ensures.named;
      count = ap length c.in_ok-push.ensures.items ∙ omega (arith, length-append c.loop-entries.done.items (session ∷ []), c.loop-entries.invariant.count);
      answered = answered_more c.loop-entries.done.items c.push.new.self.items session c.args.sessions.now c.loop-entries.entries-index c.entries-item.result
          c.loop-entries.invariant.answered c.loop-entries.invariant.count c.loop-entries-test.true c.entries-item.is c.in_ok-push.ensures.items
          (c.in_ok-answers.ensures.count ∙ ap (λ (l : List (Vec ℕ Global)). length l) c.deref.ensures.value);
      ran =
          let r = c.loop-entries.invariant.ran in
          let i = c.loop-entries.entries-index in
          let asked = c.args.sessions.now in
          let one : SessionRuns g.R.Rng.stream c.args.partition.now c.args.name.now c.loop-entries.log c.loop-entries.store answers.items (record_bytes c.deref.result.now) c.in_ok-again.again (record_bytes c.in_ok-again.after.items) c.recover-in-loop-entries.new.store = record {
            last = c.append_all.new.log;
            written = c.append_all.new.store;
            crashed = c.crash.new.self;
            appends = c.in_ok-answers.ensures.ran;
            crashes = crash_drawn g.R.Rng.stream c.append_all.new.store c.crash.new.self c.in_ok-crash.field-0 c.in_ok-crash.ensures.rows c.in_ok-crash.ensures.stands c.crash.ensures.numbers.config;
            recovers = record { opened = c.in_ok-again.ensures.opened; held = c.in_ok-again.ensures.held; config = c.recover-in-loop-entries.ensures.config };
          } in
          let item = c.entries-item.result in
          let of_item = subst (λ (l : List (Vec ℕ Global)). SessionRuns g.R.Rng.stream c.args.partition.now c.args.name.now c.loop-entries.log c.loop-entries.store answers.items (record_bytes l) c.in_ok-again.again (record_bytes c.in_ok-again.after.items) c.recover-in-loop-entries.new.store) c.deref.ensures.value one in
          let all = runs_more g.R.Rng.stream c.args.partition.now c.args.name.now r.log r.before r.opened c.loop-entries.done.items (take i asked) c.loop-entries.log (record_bytes before.items) c.loop-entries.store session item c.in_ok-again.again (record_bytes c.in_ok-again.after.items) c.recover-in-loop-entries.new.store r.ran refl of_item in
          let more : take i asked ++ item ∷ [] ≡ take (i + 1) asked = ap (λ (x : Vec (Vec ℕ Global) Global). take i asked ++ x ∷ []) c.entries-item.is ∙ sym (take_more asked i item c.loop-entries-test.true) in
          record {
            log = r.log;
            before = r.before;
            opened = r.opened;
            recovers = r.recovers;
            ran = subst (λ (l : List Session). AllRun g.R.Rng.stream c.args.partition.now c.args.name.now r.log r.before r.opened l (take (i + 1) asked) c.in_ok-again.again (record_bytes c.in_ok-again.after.items) c.recover-in-loop-entries.new.store) (sym c.in_ok-push.ensures.items)
                (subst (λ (es : List (Vec (Vec ℕ Global) Global)). AllRun g.R.Rng.stream c.args.partition.now c.args.name.now r.log r.before r.opened (c.loop-entries.done.items ++ session ∷ []) es c.in_ok-again.again (record_bytes c.in_ok-again.after.items) c.recover-in-loop-entries.new.store) more all);
          };
      survive = λ files stands.
          let h = c.in_ok-answers.ensures.held (record_bytes before.items) (c.loop-entries.invariant.held files stands) in
          let found = c.in_ok-again.ensures.found o (record_bytes before.items ++ acknowledged_records answers.items (record_bytes c.deref.result.now)) named h.short (c.crash.ensures.keeps o _ h.kept) in
          survive_more c.loop-entries.done.items c.push.new.self.items session c.args.sessions.now c.loop-entries.entries-index c.entries-item.result (record_bytes c.in_ok-again.after.items)
          (c.loop-entries.invariant.survive files stands) c.loop-entries.invariant.count c.loop-entries-test.true c.entries-item.is c.in_ok-push.ensures.items
          (subst (λ (l : List (Vec ℕ Global)). BeginsWith (record_bytes before.items ++ acknowledged_records answers.items (record_bytes l)) (record_bytes c.in_ok-again.after.items)) c.deref.ensures.value found.1);
    }

pub returns-clause-ran : goal.returns-clause-ran
returns-clause-ran g c =
    let asked = c.args.sessions.now in (
      c.loop-entries.log,
      subst (λ (es : List (Vec (Vec ℕ Global) Global)). RunTo g.R.Rng.stream c.args.partition.now c.args.name.now c.args.store.now c.loop-entries.done.items es c.loop-entries.log (record_bytes c.loop-entries.before.items) c.loop-entries.store)
          (take_all c.loop-entries.entries-index asked (omega (arith, c.loop-entries-test.false))) c.loop-entries.invariant.ran,
    )

-- Why the call may return this result.

pub returns-in_err-log-clause-answer : goal.returns-in_err-log-clause-answer
returns-in_err-log-clause-answer g c =
    let e : error_of c.from_residual.result ≡ Some (refusal_of c.in_err-log.field-0.0) = search rules in
    rw e (NotRecovered c.args.store.now _ c.in_err-log.ensures.answer)

pub returns-in_err-again-clause-answer : goal.returns-in_err-again-clause-answer
returns-in_err-again-clause-answer g c =
    let e : error_of c.from_residual-in_err-again.result ≡ Some (refusal_of c.in_err-again.field-0.0) = search rules in
    rw e (NotRecovered c.crash.new.self _ c.in_err-again.ensures.answer)

pub returns-in_err-done-clause-answer : goal.returns-in_err-done-clause-answer
returns-in_err-done-clause-answer g c =
    let e : error_of c.from_residual-in_err-done.result ≡ Some Memory = first_of (search rules, grind (arith, common_steps)) in
    rw e NoMemory

pub returns-in_err-answers-clause-answer : goal.returns-in_err-answers-clause-answer
returns-in_err-answers-clause-answer g c =
    let e : error_of c.from_residual-in_err-answers.result ≡ Some Memory = first_of (search rules, grind (arith, common_steps)) in
    rw e NoMemory

pub returns-in_err-crash-clause-answer : goal.returns-in_err-crash-clause-answer
returns-in_err-crash-clause-answer g c =
    let e : error_of c.from_residual-in_err-crash.result ≡ Some Memory = first_of (search rules, grind (arith, common_steps)) in
    rw e NoMemory

pub returns-in_err-push-clause-answer : goal.returns-in_err-push-clause-answer
returns-in_err-push-clause-answer g c =
    let e : error_of c.from_residual-in_err-push.result ≡ Some Memory = first_of (search rules, grind (arith, common_steps)) in
    rw e NoMemory

pub returns-clause-answer : goal.returns-clause-answer
returns-clause-answer g c = Done
