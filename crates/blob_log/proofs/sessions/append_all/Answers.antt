use Rattle.std.proofs.Common.{◌≡◌, ℕ, ◌+◌, List, [], ◌∷◌, ◌++◌, ◌∙◌, length, take, sym, ap, subst, arith, length-append, if◌then◌else◌, Bool}
use Rattle.std.proofs.lemmas.List.{map_more}
use Rattle.std.specs.Global.{Global}
use Rattle.std.specs.Prelude.{Vec, is_ok}
use Rattle.blob_header.specs.Refusals.{error_of}
use Rattle.blob_log.specs.Runs.{Appends, AppendsAll}
use Rattle.blob_log.specs.Held.{HoldsRecords, record_bytes, acknowledged_records}
use Rattle.blob_log.proofs.Running.{appends_more, if_done, if_failed, ok_told}
use Rattle.blob_log.proofs.Surviving.{answered, acknowledged_next}
use Rattle.blob_log.proofs.sessions.append_all.Goals as goal

pub loop-entry-preserved : goal.loop-entry-preserved
loop-entry-preserved g c =
    let entries = c.args.entries.now in
    let i = c.loop-entry.entry-index in
    let entry = c.deref.result.now in
    let done = c.in_ok-done.done in
    let is : is_ok c.append.result ≡ done = ok_told c.append.result ∙ sym c.in_ok-done.ensures.0 in
    record {
      held = λ records h.
          let before = records ++ acknowledged_records c.loop-entry.answers.items (record_bytes entries) in
          let after = answered c.append.result (HoldsRecords c.loop-entry.log c.loop-entry.store) (HoldsRecords c.append.new.self c.append.new.store) entry c.append.ensures.acknowledged c.append.ensures.refused before (c.loop-entry.invariant.held records h) in
          subst (λ (l : List (List ℕ)). HoldsRecords c.append.new.self c.append.new.store l)
          (ap (λ (b : Bool). before ++ (if b then entry ∷ [] else [])) is
          ∙ ap (λ (r : List ℕ). before ++ (if done then r ∷ [] else [])) c.deref.ensures.value
          ∙ acknowledged_next records c.loop-entry.answers.items c.push.new.self.items entries i c.entry-item.result done c.loop-entry.invariant.count c.loop-entry-test.true c.entry-item.is c.in_ok-push.ensures.items) after;
      count = ap length c.in_ok-push.ensures.items ∙ omega (arith, length-append c.loop-entry.answers.items (done ∷ []), c.loop-entry.invariant.count);
      place = c.append.ensures.place ∙ c.loop-entry.invariant.place;
      ran =
          let one : Appends g.R.Rng.stream c.loop-entry.log c.loop-entry.store entry done c.append.new.self c.append.new.store = record {
            answer = error_of c.append.result;
            is = c.in_ok-done.ensures.0;
            memory = c.in_ok-done.ensures.1;
            may = c.append.ensures.answer;
            appended = if_done c.append.result done _ c.in_ok-done.ensures.0 c.append.ensures.appended;
            failed = if_failed c.append.result done _ c.in_ok-done.ensures.0 c.append.ensures.failed;
            config = c.append.ensures.config;
          } in
          let all = appends_more g.R.Rng.stream c.args.log.now c.args.store.now (record_bytes (take i entries)) c.loop-entry.answers.items c.loop-entry.log c.loop-entry.store entry done c.append.new.self c.append.new.store c.loop-entry.invariant.ran one in
          let asked : record_bytes (take i entries) ++ entry ∷ [] ≡ record_bytes (take (i + 1) entries) =
          ap (λ (r : List ℕ). record_bytes (take i entries) ++ r ∷ []) (c.deref.ensures.value ∙ ap (λ (v : Vec ℕ Global). v.items) c.entry-item.is) ∙ sym (map_more (λ (v : Vec ℕ Global). v.items) entries i c.entry-item.result c.loop-entry-test.true) in
          subst (λ (b : List Bool). AppendsAll g.R.Rng.stream c.args.log.now c.args.store.now (record_bytes (take (i + 1) entries)) b c.append.new.self c.append.new.store) (sym c.in_ok-push.ensures.items)
          (subst (λ (es : List (List ℕ)). AppendsAll g.R.Rng.stream c.args.log.now c.args.store.now es (c.loop-entry.answers.items ++ done ∷ []) c.append.new.self c.append.new.store) asked all);
    }
