use Rattle.std.proofs.Common.{rules, ◌≡◌, ◌∷◌, [], ◌<◌, length, true, cond, ◌∙◌, sym, ap}
use Rattle.std.specs.List.{position_or_len, before_first, after_first}
use Rattle.blob_tokens.specs.Tokens.{tokens}
use Rattle.blob_tokens.proofs.Tokens.{is_space, has_bytes, tokens_take, tokens_none, nonempty_has}
use Rattle.blob_tokens.proofs.token.Tokens.next.Goals as goal

pub returns-then-not-is_empty-clause-some : goal.returns-then-not-is_empty-clause-some
returns-then-not-is_empty-clause-some c =
    let s = c.loop-piece.self-inside.rest.now in
    let all : c.args.self.now ≡ tokens s = search rules in
    let cut : (c.in-Some.piece.now ≡ before_first is_space s) × (c.in-Some.rest.now ≡ after_first is_space s) × (position_or_len is_space s < length s) = search rules in
    let some : has_bytes c.in-Some.piece.now ≡ true = nonempty_has _ (λ e. search rules) in
    all ∙ tokens_take s _ _ cut.2 cut.0 cut.1 some

pub returns-clause-some : goal.returns-clause-some
returns-clause-some c =
    let s = c.loop-piece.self-inside.rest.now in
    let all : c.args.self.now ≡ tokens s = search rules in
    let none : position_or_len is_space s ≡ length s = search rules in
    let last : c.replace-last.result.now ≡ s = search rules in
    let some : has_bytes s ≡ true = nonempty_has _ (λ e. search rules) in
    let rest : tokens c.replace-last.new.dest.now ≡ [] = search rules in
    all ∙ tokens_none s none ∙ ap (λ b. cond b (s ∷ []) []) some
    ∙ ap (λ t. t ∷ []) (sym last) ∙ ap (λ ts. c.replace-last.result.now ∷ ts) (sym rest)
