use Rattle.std.proofs.Common.{◌∙◌, ap, ap₂, ℕ}
use Rattle.blob_model.specs.Places.{Place}
use Rattle.blob_memory.specs.Store.{place, live}
use Rattle.blob_memory.proofs.Openings.{continues, begins}
use Rattle.blob_memory.proofs.storage.StorageStorage.open_versioned.Goals as goal

pub returns-in_ok-origin-in-Some-clause-opened : goal.returns-in_ok-origin-in-Some-clause-opened
returns-in_ok-origin-in-Some-clause-opened c =
    let at : ℕ → Place = λ start. record { partition = c.args.partition.now; name = c.args.name.now; number = c.in-Some.number; start = start } in
    continues c.args.self.now.contents c.args.partition.now c.args.name.now _ _ c.in_ok-found.found c.in_ok-found.ensures.opening
    (place c.opened.result.0) (live c.opened.result.0) c.opened.result.2 c.opened.ensures.live c.opened.ensures.version
    c.in-Some.number c.in-Some.is c.in_ok-found.ensures.found (c.opened.ensures.place ∙ c.in_ok-origin-in-Some.ensures ∙ ap at c.data_offset-start.ensures)

pub returns-in_ok-begin-in-None-clause-opened : goal.returns-in_ok-begin-in-None-clause-opened
returns-in_ok-begin-in-None-clause-opened c =
    let at : ℕ → ℕ → Place = λ number start. record { partition = c.args.partition.now; name = c.args.name.now; number = number; start = start } in
    begins c.args.self.now.contents c.args.partition.now c.args.name.now _ _ c.in_ok-found.found c.in_ok-found.ensures.opening
    (place c.opened-in-None.result.0) (live c.opened-in-None.result.0) c.opened-in-None.result.2 c.opened-in-None.ensures.live c.opened-in-None.ensures.version
    c.begin.new.self c.in-None.is (c.opened-in-None.ensures.place ∙ c.in_ok-origin-in-None.ensures ∙ ap₂ at c.next-number.ensures c.data_offset-start.ensures)
    c.in_ok-begin-in-None.ensures.directory c.in_ok-begin-in-None.ensures.durable
