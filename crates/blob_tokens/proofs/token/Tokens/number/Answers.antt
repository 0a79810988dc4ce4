use Rattle.std.proofs.Common.{rules, ◌≡◌, ◌∷◌, sym, ap, ◌∙◌}
use Rattle.blob_tokens.specs.Forms.{digits, gives_some}
use Rattle.blob_tokens.specs.Tokens.{number_of}
use Rattle.blob_tokens.proofs.token.Tokens.number.Goals as goal

pub returns-in-Some-clause-ok : goal.returns-in-Some-clause-ok
returns-in-Some-clause-ok c =
    let split : c.args.self.now ≡ c.in_ok-token.token.now ∷ c.next.new.self = search rules in
    let same : c.as_bytes.result.now ≡ c.in_ok-token.token.now = search rules in
    ap digits split ∙ ap (λ found. gives_some found c.next.new.self) (ap number_of (sym same) ∙ sym c.parse.ensures ∙ c.in-Some.is)

pub returns-in-None-clause-bad : goal.returns-in-None-clause-bad
returns-in-None-clause-bad c =
    let split : c.args.self.now ≡ c.in_ok-token.token.now ∷ c.next.new.self = search rules in
    let same : c.as_bytes.result.now ≡ c.in_ok-token.token.now = search rules in
    ap digits split ∙ ap (λ found. gives_some found c.next.new.self) (ap number_of (sym same) ∙ sym c.parse.ensures ∙ c.in-None.is)
