use Rattle.std.proofs.Common.{◌≡◌, ℕ, List, length, true, inl, sym, ◌∙◌, ap, subst}
use Rattle.blob_header.specs.Refusals.{error_of}
use Rattle.blob_model.specs.Places.{Place}
use Rattle.blob_faulty.specs.Wrapper.{inside}
use Rattle.blob_memory.specs.Store.{live}
use Rattle.blob_records.specs.Records.{FindsOnly, place_of, record_in}
use Rattle.blob_records.proofs.Answering.{at_ok, by_answer}
use Rattle.blob_records.proofs.records.Records.sync.Goals as goal

pub returns-clause-synced : goal.returns-clause-synced
returns-clause-synced g c = at_ok c.sync.result _ (λ ok now i test passes.
    let r = c.args.self.now in
    let s = c.sync.ensures in
    let was : test (record_in r.len (live (inside r.blob)) i) ≡ true = ap (λ (bytes : List ℕ). test (record_in r.len bytes i)) (sym s.live) ∙ passes in
    record {
      found = subst (λ (o : Place). FindsOnly c.sync.new.store o r.len i test) (sym s.place)
          (c.synced.ensures c.args.store.now c.sync.new.store (place_of r) (λ bytes. true) (λ bytes. test (record_in r.len bytes i)) (live (inside r.blob)) s.directory (inl (s.leaves.published ok)) was now.found);
      read = passes;
      size = s.leaves.size ∙ now.size ∙ ap (λ (bytes : List ℕ). length bytes) (sym s.live);
    })

pub returns-clause-found : goal.returns-clause-found
returns-clause-found g c = λ i test was.
    let r = c.args.self.now in
    let s = c.sync.ensures in
    let found : FindsOnly c.sync.new.store (place_of r) r.len i test = by_answer (error_of c.sync.result) _
    (λ ok. c.synced.ensures c.args.store.now c.sync.new.store (place_of r) (λ bytes. test (record_in r.len bytes i)) (λ bytes. test (record_in r.len bytes i)) (live (inside r.blob)) s.directory (inl (s.leaves.published ok)) was.read was.found)
    (λ err. c.same_bytes.ensures.same c.args.store.now c.sync.new.store (place_of r) (λ bytes. test (record_in r.len bytes i)) s.directory (s.leaves.same_files err) was.found)
    in
    record {
      found = subst (λ (o : Place). FindsOnly c.sync.new.store o r.len i test) (sym s.place) found;
      read = ap (λ (bytes : List ℕ). test (record_in r.len bytes i)) s.live ∙ was.read;
      size = s.leaves.size ∙ was.size ∙ ap (λ (bytes : List ℕ). length bytes) (sym s.live);
    }
