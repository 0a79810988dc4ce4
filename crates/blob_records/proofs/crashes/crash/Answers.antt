use Rattle.blob_records.proofs.crashes.crash.Goals as goal

pub returns-clause-found : goal.returns-clause-found
returns-clause-found g c = λ o test was.
    let s = c.in_ok-crash.ensures in
    c.crashed.ensures c.args.store.now c.crash.new.self o test c.in_ok-crash.field-0 s.directory s.rows s.stands was
