use Rattle.std.proofs.Common.{rules, arith, ◌≡◌, ◌∙◌, sym, Some, None, [], ◌∷◌, ap}
use Rattle.std.proofs.lemmas.Grind.{common_steps}
use Rattle.blob_tokens.specs.Forms.{all_tokens}
use Rattle.blob_tokens.specs.Tokens.{word_of}
use Rattle.blob_script.proofs.WordLists.{behind, words_stop, words_bad, words_missing, words_all, words_end}
use Rattle.blob_script.proofs.script.line.words.Goals as goal

pub returns-in_err-word-clause-bad : goal.returns-in_err-word-clause-bad
returns-in_err-word-clause-bad c = λ _.
    let split : c.loop-token.tokens ≡ c.in-Some.token.now ∷ c.next.new.self = search rules in
    let none : word_of c.in-Some.token.now ≡ None = grind (arith, common_steps) in
    words_bad c.args.tokens.now
    (sym c.loop-token.invariant ∙ ap (λ ts. behind c.loop-token.words.items (all_tokens word_of ts)) split
    ∙ words_stop c.loop-token.words.items c.in-Some.token.now c.next.new.self none)

pub returns-then-is_empty-clause-bad : goal.returns-then-is_empty-clause-bad
returns-then-is_empty-clause-bad c = λ _.
    let over : c.loop-token.tokens ≡ [] = search rules in
    let empty : c.loop-token.words.items ≡ [] = grind (arith, common_steps) in
    words_missing c.args.tokens.now
    (words_end c.loop-token.words.items _ (ap (λ ts. behind c.loop-token.words.items (all_tokens word_of ts)) (sym over) ∙ c.loop-token.invariant) ∙ ap Some empty)

pub returns-clause-ok : goal.returns-clause-ok
returns-clause-ok c =
    let over : c.loop-token.tokens ≡ [] = search rules in
    let done : c.next.new.self ≡ [] = search rules in
    let all = words_end c.loop-token.words.items (all_tokens word_of c.args.tokens.now) (ap (λ ts. behind c.loop-token.words.items (all_tokens word_of ts)) (sym over) ∙ c.loop-token.invariant) in
    words_all c.args.tokens.now c.loop-token.words.items all (λ e. grind (arith, common_steps))
    ∙ ap (λ left. Some (c.loop-token.words.items, left)) (sym done)
