use Rattle.std.proofs.Common.{List, ap, sym, subst}
use Rattle.blob_model.specs.Draws.{Row, chosen_by}
use Rattle.blob_draws.specs.Rows.{table_of}
use Rattle.blob_faulty.specs.Fits.{FitsLog}
use Rattle.blob_faulty.proofs.FoundSteps.{fits_of, leaves_crashed}
use Rattle.blob_memory.specs.Store.{directory, durable}
use Rattle.blob_faulty.proofs.laws.leaves.crashed.Goals as goal

pub returns : goal.returns
returns g c = λ old new o test kept same drawn leaves k.
    let fits : FitsLog (chosen_by (table_of kept)) k.files.log =
    subst (λ (rows : List Row). FitsLog (chosen_by rows) k.files.log) (sym (ap (λ r. r.0) (drawn k.files k.stands))) (c.draws.ensures k.files.log _ _ k.stands.rising) in
    leaves_crashed (λ o. o) directory durable old new o test same k (chosen_by (table_of kept)) (fits_of (chosen_by (table_of kept)) k.files.log o fits) leaves
