use Rattle.std.proofs.Common.{rules, ◌≡◌, ap, ◌∙◌}
use Rattle.blob_tokens.specs.Tokens.{number_of}
use Rattle.blob_tokens.proofs.Numbers.{read_value, read_found}
use Rattle.blob_tokens.proofs.token.number.Goals as goal

pub returns-clause-value : goal.returns-clause-value
returns-clause-value c =
    let same : c.as_bytes.result.now ≡ c.args.token.now = search rules in
    read_value c.args.token.now c.parse.result (c.parse.ensures ∙ ap number_of same)

pub returns-clause-found : goal.returns-clause-found
returns-clause-found c =
    let same : c.as_bytes.result.now ≡ c.args.token.now = search rules in
    read_found c.args.token.now c.parse.result (c.parse.ensures ∙ ap number_of same)
