use Rattle.std.proofs.Common.{rules, ◌≡◌, ℕ, List, [], Option, Some, IfSome, subst}
use Rattle.blob_explain.specs.Explanations.{ExplainsBefore, ExplainsScript}
use Rattle.blob_c.proofs.explain_calls.explained_by.Goals as goal

-- what is said of known bytes and of a writer, of the bytes and of what it had and has
moved : (P : List ℕ → Option (List ℕ) → Option (List ℕ) → Type 0) (known : Option (List ℕ)) (bytes : List ℕ) (old old' new new' : Option (List ℕ)) → known ≡ Some bytes → old ≡ old' → new ≡ new'
    → IfSome known (λ bs. P bs old new) → P bytes old' new'
moved P known bytes old old' new new' k o n h = subst (λ (x : Option (List ℕ)). P bytes x new') o (subst (λ (x : Option (List ℕ)). P bytes old x) n (subst (λ (x : Option (List ℕ)). IfSome x (λ bs. P bs old new)) k h))

pub returns-clause-done : goal.returns-clause-done
returns-clause-done c = λ e.
    moved ExplainsScript (Some c.new-input.result.reader.now) c.args.script.now (Some c.new-output.result.writer.items) (Some []) (Some c.explain_script-ending.new.output.writer.items) (Some c.into_writer.result.items) (search rules) (search rules) (search rules) (c.explain_script-ending.ensures.done e)

pub returns-clause-bad_call : goal.returns-clause-bad_call
returns-clause-bad_call c = λ number e.
    moved (λ bs old new. ExplainsBefore number bs old new) (Some c.new-input.result.reader.now) c.args.script.now (Some c.new-output.result.writer.items) (Some []) (Some c.explain_script-ending.new.output.writer.items) (Some c.into_writer.result.items) (search rules) (search rules) (search rules) (c.explain_script-ending.ensures.bad_call number e)
