use Rattle.std.proofs.Common.{rules, arith, Option, ◌≡◌, ⊎_elim, ℕ, ◌<◌, true, List, length, Some, inl, refl, sym, ◌∙◌, ap, ap₂, subst}
use Rattle.std.proofs.lemmas.Bool.{cases_Bool}
use Rattle.std.proofs.lemmas.Grind.{common_steps}
use Rattle.blob_header.specs.Refusals.{Refusal, error_of}
use Rattle.blob_records.specs.Answers.{MayRecover}
use Rattle.blob_model.specs.Directory.{current}
use Rattle.blob_model.specs.Files.{after_open}
use Rattle.blob_model.specs.Places.{Place, same_place}
use Rattle.blob_model.specs.SamePlace.{same_place_exact}
use Rattle.blob_faulty.specs.Leaves.{LeavesOnly, Test}
use Rattle.blob_faulty.specs.Wrapper.{inner_of, inside}
use Rattle.blob_memory.specs.Store.{directory, durable, live, place}
use Rattle.blob_records.specs.Records.{FindsOnly, record_in}
use Rattle.blob_records.proofs.Answering.{recovers}
use Rattle.blob_records.proofs.records.Records.recover.Goals as goal

pub returns-in_err-sync-clause-kept : goal.returns-in_err-sync-clause-kept
returns-in_err-sync-clause-kept g c = λ o test was.
    let b = c.in_ok-blob.blob in
    let s = c.in_err-sync.ensures in
    c.same_bytes.ensures.same c.open.new.self c.sync.new.store o test s.directory (s.leaves.same_files refl)
    (c.accepted_opens-2.ensures c.args.store.now c.open.new.self c.args.partition.now c.args.name.now 0 0 (place (inside b)) (live (inside b)) 0 o test c.in_ok-blob.ensures.opened c.in_ok-blob.ensures.leaves was)

pub returns-clause-kept : goal.returns-clause-kept
returns-clause-kept g c = λ o test was.
    let b = c.in_ok-blob.blob in
    let at = place (inside b) in
    let bytes = live (inside b) in
    let s = c.in_ok-sync.ensures in
    let before = inner_of c.args.store.now in
    let mid = inner_of c.open.new.self in
    let opened = c.in_ok-blob.ensures.opened in
    let found : durable mid at ≡ Some bytes = c.accepted_opens.ensures.durable (directory before) (directory mid) (durable before) (durable mid) c.args.partition.now c.args.name.now 0 0 at bytes 0 opened in
    let given : at.number < (directory mid).next = c.numbers_are_given.ensures.durable mid at bytes found in
    let left = c.accepted_opens-2.ensures c.args.store.now c.open.new.self c.args.partition.now c.args.name.now 0 0 at bytes 0 o test opened c.in_ok-blob.ensures.leaves was in
    ⊎_elim
    (λ y.
    let is : at ≡ o = same_place_exact at o y in
    let here = subst (λ (p : Place). LeavesOnly (λ q. q) directory durable c.open.new.self p test) (sym is) left in
    subst (λ (p : Place). LeavesOnly (λ q. q) directory durable c.sync.new.store p test) is
    (c.synced.ensures c.open.new.self c.sync.new.store at test test bytes s.directory (inl (s.leaves.published refl)) (c.found.ensures.found c.open.new.self at test bytes here found) here))
    (λ n. c.other_blobs.ensures.synced c.open.new.self c.sync.new.store at o test bytes given n s.directory (inl (s.leaves.published refl)) left)
    (cases_Bool (same_place at o))

pub returns-clause-found : goal.returns-clause-found
returns-clause-found g c = λ o i test named was.
    let b = c.in_ok-blob.blob in
    let at = place (inside b) in
    let bytes = live (inside b) in
    let s = c.in_ok-sync.ensures in
    let before = inner_of c.args.store.now in
    let mid = inner_of c.open.new.self in
    let p = c.args.partition.now in
    let n = c.args.name.now in
    let opened = c.in_ok-blob.ensures.opened in
    let test_of : Test = λ x. test (record_in c.args.len x i) in
    let there : current (directory before) p n ≡ Some o = ap₂ (λ (q : List ℕ) (m : List ℕ). current (directory before) q m) (sym named.partition) (sym named.name) ∙ was.here in
    let is : at ≡ o = (c.accepted_opens.ensures.goes_on (directory before) (directory mid) (durable before) (durable mid) p n 0 0 at bytes 0 o opened there).same in
    let found = c.accepted_opens.ensures.durable (directory before) (directory mid) (durable before) (durable mid) p n 0 0 at bytes 0 opened in
    let left = c.accepted_opens-2.ensures c.args.store.now c.open.new.self p n 0 0 at bytes 0 o test_of opened c.in_ok-blob.ensures.leaves was in
    let here = subst (λ (q : Place). LeavesOnly (λ r. r) directory durable c.open.new.self q test_of) (sym is) left in
    let passes : test_of bytes ≡ true = c.found.ensures.found c.open.new.self at test_of bytes here found in (
      s.place ∙ is,
      record {
        found = subst (λ (q : Place). FindsOnly c.sync.new.store q c.args.len i test) (sym s.place)
            (c.synced.ensures c.open.new.self c.sync.new.store at test_of test_of bytes s.directory (inl (s.leaves.published refl)) passes here);
        read = ap (λ (x : List ℕ). test (record_in c.args.len x i)) s.live ∙ passes;
        size = s.leaves.size ∙ (c.in_ok-blob.ensures.kept_size).0 ∙ c.in_ok-blob.ensures.size ∙ ap (λ (x : List ℕ). length x) (sym s.live);
      },
    )

pub returns-clause-synced : goal.returns-clause-synced
returns-clause-synced g c = λ files stands i test reads.
    let b = c.in_ok-blob.blob in
    let at = place (inside b) in
    let bytes = live (inside b) in
    let s = c.in_ok-sync.ensures in
    let before = inner_of c.args.store.now in
    let mid = inner_of c.open.new.self in
    let p = c.args.partition.now in
    let n = c.args.name.now in
    let opened = c.in_ok-blob.ensures.opened in
    let named = c.accepted_opens.ensures.named (directory before) (directory mid) (durable before) (durable mid) p n 0 0 at bytes 0 opened in
    let now = c.accepted_opens.ensures.current (directory before) (directory mid) (durable before) (durable mid) p n 0 0 at bytes 0 opened in
    let found = c.accepted_opens.ensures.durable (directory before) (directory mid) (durable before) (durable mid) p n 0 0 at bytes 0 opened in
    let here : LeavesOnly (λ o. o) directory durable c.open.new.self at (λ _. true) = record {
      files = after_open files p n 0 0;
      stands = c.opens.ensures.accepted c.args.store.now c.open.new.self p n 0 0 at bytes 0 opened c.in_ok-blob.ensures.leaves files stands;
      here = ap₂ (λ (q : List ℕ) (m : List ℕ). current (directory mid) q m) named.partition named.name ∙ now;
      given = c.numbers_are_given.ensures.durable mid at bytes found;
      durable = refl;
      crash = λ t fits. refl;
    } in
    let passes : test (record_in c.args.len bytes i) ≡ true = ap (λ (x : List ℕ). test (record_in c.args.len x i)) (sym s.live) ∙ reads in
    record {
      found = subst (λ (q : Place). FindsOnly c.sync.new.store q c.args.len i test) (sym s.place)
          (c.synced.ensures c.open.new.self c.sync.new.store at (λ _. true) (λ x. test (record_in c.args.len x i)) bytes s.directory (inl (s.leaves.published refl)) passes here);
      read = reads;
      size = s.leaves.size ∙ (c.in_ok-blob.ensures.kept_size).0 ∙ c.in_ok-blob.ensures.size ∙ ap (λ (x : List ℕ). length x) (sym s.live);
    }

pub returns-in_err-sync-clause-answer : goal.returns-in_err-sync-clause-answer
returns-in_err-sync-clause-answer g c =
    let b = c.in_ok-blob.blob in
    let at = place (inside b) in
    let before = inner_of c.args.store.now in
    let mid = inner_of c.open.new.self in
    let p = c.args.partition.now in
    let n = c.args.name.now in
    let opened = c.in_ok-blob.ensures.opened in
    let named = c.accepted_opens.ensures.named (directory before) (directory mid) (durable before) (durable mid) p n 0 0 at (live (inside b)) 0 opened in
    let now = c.accepted_opens.ensures.current (directory before) (directory mid) (durable before) (durable mid) p n 0 0 at (live (inside b)) 0 opened in
    let same : error_of c.sync.result ≡ error_of c.from_residual-in_err-sync.result = first_of (search rules, cc, grind (arith, common_steps)) in
    subst (λ (answer : Option Refusal). MayRecover g.R.Rng.stream c.args.store.now p n answer) same
    (recovers g.R.Rng.stream c.args.store.now c.open.new.self p n at (error_of c.sync.result) (ap₂ (λ (q : List ℕ) (m : List ℕ). current (directory mid) q m) named.partition named.name ∙ now)
    c.in_ok-blob.ensures.allowed c.in_ok-blob.ensures.leaves.drawn c.in_ok-blob.ensures.leaves.records.numbers.config c.sync.ensures.allowed)

pub returns-clause-answer : goal.returns-clause-answer
returns-clause-answer g c =
    let b = c.in_ok-blob.blob in
    let at = place (inside b) in
    let before = inner_of c.args.store.now in
    let mid = inner_of c.open.new.self in
    let p = c.args.partition.now in
    let n = c.args.name.now in
    let opened = c.in_ok-blob.ensures.opened in
    let named = c.accepted_opens.ensures.named (directory before) (directory mid) (durable before) (durable mid) p n 0 0 at (live (inside b)) 0 opened in
    let now = c.accepted_opens.ensures.current (directory before) (directory mid) (durable before) (durable mid) p n 0 0 at (live (inside b)) 0 opened in
    recovers g.R.Rng.stream c.args.store.now c.open.new.self p n at _ (ap₂ (λ (q : List ℕ) (m : List ℕ). current (directory mid) q m) named.partition named.name ∙ now)
    c.in_ok-blob.ensures.allowed c.in_ok-blob.ensures.leaves.drawn c.in_ok-blob.ensures.leaves.records.numbers.config c.in_ok-sync.ensures.allowed
