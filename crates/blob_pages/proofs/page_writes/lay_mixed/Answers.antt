use Rattle.std.proofs.Common.{◌∙◌, ◌-◌, ℕ, ap, sym, refl, length, replicate, arith}
use Rattle.std.proofs.lemmas.List.{length-replicate, take-replicate}
use Rattle.blob_model.specs.Runs.{is_chosen}
use Rattle.blob_pages.specs.Values.{bytes}
use Rattle.blob_pages.proofs.Mixed.{none_reached}
use Rattle.blob_pages.proofs.page_writes.lay_mixed.Goals as goal

pub returns-then-end-offset : goal.returns-then-end-offset
returns-then-end-offset c =
    record { ok = sym (none_reached (bytes c.args.pages.now) c.args.offset c.args.run.now (is_chosen c.args.keep.now) (omega (arith, c.requires.end))); err = tt; room = refl }

pub mix-requires-clause-zeros : goal.mix-requires-clause-zeros
mix-requires-clause-zeros c =
    let count = c.args.end - c.args.offset in
    let zeros = take-replicate {X = ℕ} count 64 0 c.if-end-offset-le-SMALL.true in
    zeros ∙ ap (λ n. replicate n 0) (sym (ap length zeros ∙ length-replicate {A = ℕ} count 0))
