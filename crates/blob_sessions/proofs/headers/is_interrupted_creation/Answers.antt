use Rattle.std.proofs.Common.{rules, ◌≡◌, ◌↔◌, IsTrue, IfSome, Option, Some, subst}
use Rattle.blob_header.specs.Header.{IsFrontOfCreation}
use Rattle.blob_header.specs.declared.layout.Layout.{Layout}
use Rattle.blob_sessions.specs.Headers.{layout_numbered}
use Rattle.blob_sessions.proofs.headers.is_interrupted_creation.Goals as goal

pub returns-in-Some-clause-known : goal.returns-in-Some-clause-known
returns-in-Some-clause-known c =
    let P : Option Layout → Type 0 = λ o. IfSome o (λ layout. IsTrue c.interrupted_creation.result ↔ IsFrontOfCreation layout c.args.raw.now) in
    let is : Some c.in-Some.layout ≡ layout_numbered c.args.number = search rules in
    subst P is c.interrupted_creation.ensures
