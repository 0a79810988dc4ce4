use Rattle.std.proofs.Common.{rules, ◌≡◌, subst, Bool, Some, None}
use Rattle.blob_base.specs.Callers.{First, Second}
use Rattle.blob_model.specs.Live.{live_written}
use Rattle.blob_header.specs.Refusals.{error_of, refusal_of}
use Rattle.blob_base.proofs.any_store.write_and_sync.Goals as goal

pub returns-in_err-write_at-clause-answer : goal.returns-in_err-write_at-clause-answer
returns-in_err-write_at-clause-answer g c =
    let e : error_of c.from_residual.result ≡ Some (refusal_of c.in_err-write_at.field-0.0) = search rules in
    rw e (First _ (subst (λ (sync : Bool). g.B.Blob.allows_write c.args.blob.now c.args.store.now c.args.offset c.args.bytes sync (Some (refusal_of c.in_err-write_at.field-0.0))) c.requires c.in_err-write_at.ensures.allowed))

pub returns-clause-answer : goal.returns-clause-answer
returns-clause-answer g c =
    let left = c.in_ok-write_at.ensures in
    let allowed = subst (λ (sync : Bool). g.B.Blob.allows_write c.args.blob.now c.args.store.now c.args.offset c.args.bytes sync None) c.requires left.allowed in
    let live = subst (λ (sync : Bool). g.B.Blob.live c.write_at.new.self ≡ live_written sync (g.B.Blob.live c.args.blob.now) c.args.offset c.args.bytes) c.requires left.live in
    Second c.write_at.new.self c.write_at.new.store _ allowed (live, left.place, left.plain c.requires, left.directory) c.sync.ensures.allowed
