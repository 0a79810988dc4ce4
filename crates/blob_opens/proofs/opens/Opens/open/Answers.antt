use Rattle.std.proofs.Common.{rules, refl, ◌≡◌, Some, None, is_some, true, sym, ap, ◌∙◌, arith}
use Rattle.std.proofs.lemmas.Bool.{false≢true}
use Rattle.blob_header.specs.Refusals.{error_of, refusal_of, Memory}
use Rattle.blob_opens.specs.OpenNames.{Accepted, Declined, NoMemory, end_names}
use Rattle.blob_opens.specs.Opens.{names_of}
use Rattle.blob_names.specs.Names.{with_name}
use Rattle.blob_opens.proofs.OpenNames.{taken_back, held, unregistered, is_made}
use Rattle.blob_opens.proofs.opens.Opens.open.Goals as goal

pub returns-in_err-refusal-clause-answer : goal.returns-in_err-refusal-clause-answer
returns-in_err-refusal-clause-answer g c =
    let e : error_of c.from_residual.result ≡ Some Memory = search rules in
    rw e (NoMemory refl)

pub returns-in_err-open_versioned-clause-answer : goal.returns-in_err-open_versioned-clause-answer
returns-in_err-open_versioned-clause-answer g c =
    let e : error_of c.from_residual-in_err-open_versioned.result ≡ Some (refusal_of c.in_err-open_versioned.field-0.0) = search rules in
    let there : is_some ((names_of c.args.self.now).registered c.args.partition.now c.args.name.now) ≡ true = search rules in
    rw e (Declined _ (λ last. absurd (false≢true (sym (ap is_some last.free) ∙ there))) (c.in_err-open_versioned.ensures.allowed, c.in_err-open_versioned.ensures.leaves) c.in_err-open_versioned.ensures.err)

pub returns-then-is_some-clause-answer : goal.returns-then-is_some-clause-answer
returns-then-is_some-clause-answer g c =
    let there : is_some ((names_of c.args.self.now).registered c.args.partition.now c.args.name.now) ≡ true = search rules in
    held _ _ _ _ _ _ _ _ there c.in_ok-refusal.ensures.ok (c.in_ok-open_versioned.ensures.allowed, c.in_ok-open_versioned.ensures.leaves) (is_made c.in_ok-open_versioned.ensures.opened)

pub returns-in_err-registration-clause-answer : goal.returns-in_err-registration-clause-answer
returns-in_err-registration-clause-answer g c =
    let free : (names_of c.args.self.now).registered c.args.partition.now c.args.name.now ≡ None = search rules in
    let e : error_of c.from_residual-in_err-registration.result ≡ Some (refusal_of c.in_err-registration.field-0.0) = search rules in
    rw e (unregistered _ _ _ _ _ _ _ _ c.in_err-registration.ensures.refused free refl)

pub returns-in-Ok-clause-answer : goal.returns-in-Ok-clause-answer
returns-in-Ok-clause-answer g c =
    let free : (names_of c.args.self.now).registered c.args.partition.now c.args.name.now ≡ None = search rules in
    Accepted free c.in_ok-registration.ensures.left (c.in-Ok.ensures.allowed, c.in-Ok.ensures.leaves) (is_made c.in-Ok.ensures.opened)

pub returns-in-Err-clause-answer : goal.returns-in-Err-clause-answer
returns-in-Err-clause-answer g c = Declined _ (λ last. let left = c.in_ok-registration.ensures.left in absurd (omega arith)) (c.in-Err.ensures.allowed, c.in-Err.ensures.leaves) c.in-Err.ensures.err

pub returns-in-Err-clause-err : goal.returns-in-Err-clause-err
returns-in-Err-clause-err g c =
    let s = names_of c.args.self.now in
    let r = c.in_ok-registration.registration in
    let free : s.registered c.args.partition.now c.args.name.now ≡ None = search rules in
    let partition : c.deref.result.now ≡ r.partition = search rules in
    let name : c.deref-in-Err.result.now ≡ r.name = search rules in
    c.withdraw.ensures
    ∙ ap (λ q. end_names (names_of c.register.new.self) q (Some c.deref-in-Err.result.now)) partition
    ∙ ap (λ m. end_names (names_of c.register.new.self) r.partition (Some m)) name
    ∙ ap (λ t. end_names t r.partition (Some r.name)) c.in_ok-registration.ensures.registered
    ∙ ap (λ q. end_names (record s { registered = with_name s.registered c.args.partition.now c.args.name.now (Some s.next) }) q.partition (Some q.name)) c.in_ok-registration.ensures.ok
    ∙ taken_back s c.args.partition.now c.args.name.now (Some s.next) free
