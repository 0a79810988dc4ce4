use Rattle.std.proofs.Common.{Some, refl, ap, ◌+◌, ◌∙◌}
use Rattle.blob_debt.specs.History.{Admit}
use Rattle.blob_debt.proofs.Keeping.{keeps_done, unchanged_stands, after_refused}
use Rattle.blob_debt.proofs.pending.Pending.admit.Goals as goal

pub returns-in_err-insert-clause-stands : goal.returns-in_err-insert-clause-stands
returns-in_err-insert-clause-stands c = λ h s.
    rw (after_refused h c.args.existing c.from_residual-in_err-insert.result c.from_residual-in_err-insert.ensures.0)
    (unchanged_stands c.args.self.now (record { names = c.insert.new.self; outstanding = c.args.self.now.outstanding; next_generation = c.args.self.now.next_generation; next_token = c.args.self.now.next_token; alloc = c.args.self.now.alloc }) h
    (record { names = c.in_err-insert.ensures.err; outstanding = refl; generations = refl; tokens = refl }) s)

pub returns-clause-stands : goal.returns-clause-stands
returns-clause-stands c = λ h s.
    let e = c.in_ok-entry.entry in
    let p = c.args.partition.now in
    let n = c.args.name.now in
    rw (c.in_ok-from_str.ensures.ok, c.in_ok-from_slice.ensures.items) (record {
      names = keeps_done c.args.self.now.names c.insert.new.self p n (Some e) (Admit c.args.existing e.generation) h c.in_ok-insert.ensures.ok (c.in_ok-entry.ensures.entry h s) s.names;
      outstanding = s.outstanding;
      generations = ap (λ k. k + 1) (c.in_ok-entry.ensures.number ∙ s.generations);
      tokens = s.tokens;
      numbered = (c.in_ok-entry.ensures.number ∙ s.generations, s.numbered);
    })
