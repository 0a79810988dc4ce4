use Rattle.std.proofs.Common.{rules, ◌≡◌, ◌∙◌, ap, Some, [], ◌∷◌, true, false}
use Rattle.blob_script.specs.Lines.{line_of, said_by, statement}
use Rattle.blob_tokens.specs.Tokens.{tokens}
use Rattle.blob_script.proofs.SaidLines.{is_comment, unless_left, not_ended, line_no_text, line_said, said_comment, said_statement, call_said}
use Rattle.blob_script.proofs.OtherWords.{passes}
use Rattle.blob_script.proofs.script.line.read_line.Goals as goal
use Rattle.blob_script.proofs.script.line.read_line.Goals.{After-end, in-image+in_ok-text-in-image+in_ok-bytes-in-image+in_ok-bytes-in-image-2, in-words+in_ok-words-in-words, in-seed+in_ok-number-in-seed, in-config+in_ok-ok_or-in-config, in_default-word+in_ok-call-in_default-word}

pub returns-in_default-clause-bad : goal.returns-in_default-clause-bad
returns-in_default-clause-bad c = λ _. line_no_text c.args.line.now (search rules)

pub returns-in-None-clause-ok : goal.returns-in-None-clause-ok
returns-in-None-clause-ok c =
    let all : [] ≡ tokens c.in-Ok.decoded.now = search rules in
    line_said c.args.line.now c.in-Ok.decoded.now [] (search rules) (search rules) all

pub returns-then-starts_with-clause-ok : goal.returns-then-starts_with-clause-ok
returns-then-starts_with-clause-ok c =
    let all : c.in-Some.word.now ∷ c.next.new.self ≡ tokens c.in-Ok.decoded.now = search rules in
    let comment : is_comment c.in-Some.word.now ≡ true = search rules in
    line_said c.args.line.now c.in-Ok.decoded.now _ (search rules) (search rules) all
    ∙ said_comment c.in-Some.word.now c.next.new.self comment

-- the statement after the first word was read
read : (c : After-end) → statement c.in-Some.word.now c.next.new.self ≡ Some (said_by c.match-word.read, c.match-word.tokens)
read c = elim c.match-word.branch [
  | in-image+in_ok-text-in-image+in_ok-bytes-in-image+in_ok-bytes-in-image-2 w ↦ rw (w.read-is, w.tokens-is) (search rules)
  | in-words+in_ok-words-in-words w ↦ rw (w.read-is, w.tokens-is) (search rules)
  | in-seed+in_ok-number-in-seed w ↦ rw (w.read-is, w.tokens-is) (search rules)
  | in-config+in_ok-ok_or-in-config w ↦ rw (w.read-is, w.tokens-is) (search rules)
  | in_default-word+in_ok-call-in_default-word w ↦
      let is = w.in_default-word in
      rw (w.read-is, w.tokens-is)
      (passes _ _ _ _ _ is.not-image ∙ (passes _ _ _ _ _ is.not-words ∙ (passes _ _ _ _ _ is.not-seed ∙ (passes _ _ _ _ _ is.not-config
      ∙ call_said c.in-Some.word.now c.next.new.self _ _ (search rules)))))
]

-- the meaning of the line, by the tokens after its statement
said : (c : After-end) → line_of c.args.line.now ≡ unless_left (said_by c.match-word.read) c.match-word.tokens
said c =
    let all : c.in-Some.word.now ∷ c.next.new.self ≡ tokens c.in-Ok.decoded.now = search rules in
    let statement_not : is_comment c.in-Some.word.now ≡ false = search rules in
    line_said c.args.line.now c.in-Ok.decoded.now _ (search rules) (search rules) all
    ∙ said_statement c.in-Some.word.now c.next.new.self _ _ statement_not (read c)

pub returns-clause-ok : goal.returns-clause-ok
returns-clause-ok c =
    let none : c.match-word.tokens ≡ [] = search rules in
    said (goal.at.returns-clause-ok c).After-end ∙ ap (unless_left (said_by c.match-word.read)) none

pub returns-in_err-end-clause-bad : goal.returns-in_err-end-clause-bad
returns-in_err-end-clause-bad c = λ _.
    said (goal.at.returns-in_err-end-clause-bad c).After-end
    ∙ not_ended (said_by c.match-word.read) c.match-word.tokens c.in_err-end.ensures.bad
