use Rattle.std.proofs.Common.{rules, ◌≡◌, ◌≢◌, [], true, Some, arith}
use Rattle.std.proofs.lemmas.Grind.{common_steps}
use Rattle.blob_base.specs.Options.{is_sync}
use Rattle.blob_header.specs.Refusals.{error_of, Memory}
use Rattle.blob_faulty.proofs.WriteLeaving.{write_undrawn}
use Rattle.blob_faulty.proofs.blob.BlobBlobStorage.write_at.Goals as goal

-- The pieces can't be joined.

pub returns-in_err-joined-clause-leaves : goal.returns-in_err-joined-clause-leaves
returns-in_err-joined-clause-leaves g c =
    let memory : error_of c.from_residual.result ≡ Some Memory = first_of (search rules, grind (arith, common_steps)) in
    let some : is_sync c.args.options ≡ true → c.args.bytes ≢ [] = first_of (search rules, grind (arith, common_steps)) in
    write_undrawn g.S.Durable g.B.Blob g.R.Rng.stream c.args.self.now c.args.store.now c.args.store.now.rng (is_sync c.args.options) c.args.offset c.args.bytes (error_of c.from_residual.result) some memory
