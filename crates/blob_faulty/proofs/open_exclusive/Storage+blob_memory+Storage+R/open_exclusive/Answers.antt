use Rattle.std.proofs.Common.{rules, ◌≡◌, Some, refl}
use Rattle.blob_header.specs.Refusals.{error_of, refusal_of}
use Rattle.blob_opens.specs.Opens.{names_of}
use Rattle.blob_faulty.specs.Admitted.{OpensAlone}
use Rattle.blob_faulty.specs.Exclusive.{ExclusiveAnswer}
use Rattle.blob_faulty.specs.Names.{OpenLeaves}
use Rattle.blob_header.specs.Versions.{lower, upper}
use Rattle.blob_faulty.proofs.AdmittedOpens.{leaves_admitted, files_admitted, finds_kept}
use Rattle.blob_faulty.proofs.Exclusives.{asked, told_admitted, told_refused, keeps_refused}
use Rattle.blob_faulty.proofs.open_exclusive.Storage+blob_memory+Storage+R.open_exclusive.Given.{Over}
use Rattle.blob_faulty.proofs.open_exclusive.Storage+blob_memory+Storage+R.open_exclusive.Goals as goal

-- what the wrapper's own open left
left : (g : Over) (c : goal.After-admit g) → OpenLeaves (λ o. o) g.R.Rng.stream (λ _. Unit {0}) c.args.self.now c.open.new.store
left g c = (asked g.R.Rng.stream (names_of c.args.registry.now) c.args.partition.now c.args.name.now (lower c.args.versions) (upper c.args.versions) c.args.self.now c.open.new.store _ c.in_ok-opened.ensures.answer refl).1

steps : (g : Over) (c : goal.After-admit g) → OpensAlone c.args.self.now c.open.new.store c.args.partition.now c.args.name.now (lower c.args.versions) (upper c.args.versions)
steps g c = c.opens.ensures.accepted c.args.self.now c.open.new.store c.args.partition.now c.args.name.now _ _ _ _ _ c.in_ok-opened.ensures.opened (left g c)

pub returns-clause-answer : goal.returns-clause-answer
returns-clause-answer g c =
    let now = c.admit.ensures in
    told_admitted g.R.Rng.stream (names_of c.args.registry.now) c.args.partition.now c.args.name.now (lower c.args.versions) (upper c.args.versions) c.args.self.now c.open.new.store c.admit.new.self _ c.in_ok-opened.ensures.answer refl
    (λ leaves. leaves_admitted g.R.Rng.stream c.args.partition.now c.args.name.now c.args.self.now c.open.new.store c.admit.new.self leaves now) now.inner
    (files_admitted _ _ _ _ c.args.self.now c.open.new.store c.admit.new.self _ _ _ c.in_ok-opened.ensures.opened (steps g c) now.inner now.stands)

pub returns-clause-accepted : goal.returns-clause-accepted
returns-clause-accepted g c =
    let found = c.in_ok-opened.ensures in
    finds_kept c.args.partition.now c.args.name.now _ _ c.args.self.now c.open.new.store c.admit.new.self _ _ _ found.opened (steps g c) c.admit.ensures c.numbers_are_given.ensures.durable found.size found.kept_size.0

pub returns-clause-keeps : goal.returns-clause-keeps
returns-clause-keeps g c = λ o bytes k.
    c.admit.ensures.keeps o bytes (c.accepted_opens.ensures c.args.self.now c.open.new.store c.args.partition.now c.args.name.now _ _ _ _ _ o bytes c.in_ok-opened.ensures.opened (left g c) k)

-- Refused.

told : (g : Over) (c : goal.After-from_residual g) → ExclusiveAnswer c.args.self.now c.open.new.store c.args.partition.now c.args.name.now (lower c.args.versions) (upper c.args.versions) g.R.Rng.stream (names_of c.args.registry.now) (Some (refusal_of c.in_err-opened.field-0.0))
told g c =
    told_refused g.R.Rng.stream (names_of c.args.registry.now) c.args.partition.now c.args.name.now (lower c.args.versions) (upper c.args.versions) c.args.self.now c.open.new.store
    (c.opens.ensures.accepted c.args.self.now c.open.new.store c.args.partition.now c.args.name.now (lower c.args.versions) (upper c.args.versions)) (c.opens.ensures.refused c.args.self.now c.open.new.store c.args.partition.now c.args.name.now (lower c.args.versions) (upper c.args.versions))
    _ c.in_err-opened.ensures.answer refl

pub returns-in_err-opened-clause-answer : goal.returns-in_err-opened-clause-answer
returns-in_err-opened-clause-answer g c =
    let e : error_of c.from_residual.result ≡ Some (refusal_of c.in_err-opened.field-0.0) = search rules in
    rw e (told g c)

pub returns-in_err-opened-clause-keeps : goal.returns-in_err-opened-clause-keeps
returns-in_err-opened-clause-keeps g c = keeps_refused _ _ _ _ _ _ c.args.self.now c.open.new.store _ (told g c) refl
