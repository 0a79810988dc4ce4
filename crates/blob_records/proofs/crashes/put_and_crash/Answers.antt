use Rattle.std.proofs.Common.{ℕ, true, refl, sym, ◌∙◌, subst}
use Rattle.blob_model.specs.Opened.{IsNamed}
use Rattle.blob_model.specs.Places.{Place}
use Rattle.blob_faulty.specs.Leaves.{LeavesOnly}
use Rattle.blob_memory.specs.Store.{directory, durable}
use Rattle.blob_records.specs.Records.{FindsOnly, place_of}
use Rattle.blob_records.proofs.Answering.{if_both}
use Rattle.blob_records.proofs.crashes.put_and_crash.Goals as goal

pub returns-clause-found : goal.returns-clause-found
returns-clause-found g c = if_both c.recover.result _ _ _ c.recover.ensures.found c.recover.ensures.len (λ r finds len named i test was put.
    let p = c.put.ensures.found i test was put in
    let o = place_of c.put.new.self in
    let left : FindsOnly c.crash.new.store o r.len i test = subst (λ (n : ℕ). FindsOnly c.crash.new.store o n i test)
    (c.put.ensures.len ∙ sym (len ∙ c.record_len-len.ensures)) (c.in_ok-crash.ensures.found o _ p.found) in
    (finds o i test (subst (λ (q : Place). IsNamed q c.args.partition.now c.args.name.now) (sym c.put.ensures.place) named) left).1)

pub returns-clause-synced : goal.returns-clause-synced
returns-clause-synced g c = if_both c.recover.result _ _ _ c.recover.ensures.synced c.recover.ensures.len (λ r finds len now.
    let p = c.put.ensures.found 0 (λ _. true) now (λ _. refl) in
    let left : LeavesOnly (λ q. q) directory durable c.crash.new.store (place_of c.put.new.self) (λ _. true) = c.in_ok-crash.ensures.found (place_of c.put.new.self) _ p.found in
    finds left.files left.stands)
