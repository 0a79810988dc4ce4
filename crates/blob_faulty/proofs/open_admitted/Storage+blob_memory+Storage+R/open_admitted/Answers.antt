use Rattle.std.proofs.Common.{ap, ◌≡◌, Some, None, rules}
use Rattle.blob_header.specs.Refusals.{error_of, refusal_of}
use Rattle.blob_header.specs.declared.version.BlobVersion.{BlobVersion}
use Rattle.blob_model.proofs.Openings.{one_version}
use Rattle.blob_faulty.specs.Admitted.{AdmitsOpen, OpensAdmitted}
use Rattle.blob_faulty.proofs.AdmittedOpens.{at_versions}
use Rattle.blob_faulty.proofs.open_admitted.Storage+blob_memory+Storage+R.open_admitted.Goals as goal

pub returns-clause-answer : goal.returns-clause-answer
returns-clause-answer g c =
    let v = c.new-versions.ensures in
    at_versions (λ first last. AdmitsOpen c.args.self.now c.open_versioned_admitted.new.self c.args.partition.now c.args.name.now first last g.R.Rng.stream None) _ _ 0 0
    (ap (λ (v : BlobVersion). v.0) v.start) (ap (λ (v : BlobVersion). v.0) v.end) c.in_ok-blob.ensures.answer

pub returns-clause-accepted : goal.returns-clause-accepted
returns-clause-accepted g c =
    let v = c.new-versions.ensures in
    let found = c.in_ok-blob.ensures.accepted in
    record {
      opened = one_version _ _ _ _ _ _ _ _ 0 _ _ _ (ap (λ (v : BlobVersion). v.0) v.start) (ap (λ (v : BlobVersion). v.0) v.end) found.opened;
      size = found.size;
      tracked = found.tracked;
      files = at_versions (OpensAdmitted c.args.self.now c.open_versioned_admitted.new.self c.args.partition.now c.args.name.now) _ _ 0 0 (ap (λ (v : BlobVersion). v.0) v.start) (ap (λ (v : BlobVersion). v.0) v.end) found.files;
      fixed = found.fixed;
      found = found.found;
    }

pub returns-in_err-blob-clause-answer : goal.returns-in_err-blob-clause-answer
returns-in_err-blob-clause-answer g c =
    let v = c.new-versions.ensures in
    let e : error_of c.from_residual.result ≡ Some (refusal_of c.in_err-blob.field-0.0) = search rules in
    rw e (at_versions (λ first last. AdmitsOpen c.args.self.now c.open_versioned_admitted.new.self c.args.partition.now c.args.name.now first last g.R.Rng.stream (Some (refusal_of c.in_err-blob.field-0.0))) _ _ 0 0
    (ap (λ (v : BlobVersion). v.0) v.start) (ap (λ (v : BlobVersion). v.0) v.end) c.in_err-blob.ensures.answer)
