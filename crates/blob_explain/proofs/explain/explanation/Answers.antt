use Rattle.std.proofs.Common.{rules, ◌≡◌, ℕ, List, [], ◌++◌, Some, ap, sym, ◌∙◌, subst, arith}
use Rattle.std.proofs.lemmas.Grind.{common_steps}
use Rattle.std.proofs.lemmas.Option.{IfSome_then}
use Rattle.blob_lab.specs.declared.ending.Ending.TheVariants.{Done, BadCall}
use Rattle.blob_lab.specs.Scripts.{Prints, PrintsBeforeLine, lines_of, script_of}
use Rattle.blob_lab.specs.Streams.{reader_of}
use Rattle.blob_explain.specs.Explained.{IsExplained}
use Rattle.blob_explain.proofs.explain.explanation.Goals as goal

pub returns-clause-text : goal.returns-clause-text
returns-clause-text g c =
    let script : List ℕ = c.read_all.new.bytes.items in
    let printed : List ℕ = c.into_writer-printed.result.items in
    let done : c.serve_script_to-ending.result ≡ Done → Prints (script_of (lines_of script)) (Some []) (Some printed) = λ e. first_of (search rules, grind (arith, common_steps)) in
    let bad_call : (number : ℕ) → c.serve_script_to-ending.result ≡ BadCall number → PrintsBeforeLine number script (Some []) (Some printed) = λ number e. first_of (search rules, grind (arith, common_steps)) in
    let explained : IsExplained printed c.in-Ok.text.items = first_of (search rules, grind (arith, common_steps)) in
    let none : c.new-script.result.items ≡ [] = first_of (search rules, cc) in
    IfSome_then (g.R.Read.remaining (reader_of c.args.input.now)) c.in_ok-read_all.ensures.read (λ bytes is.
    let same : script ≡ bytes = is ∙ ap (λ (xs : List ℕ). xs ++ bytes) none in
    record {
      printed = printed;
      explained = explained;
      done = λ e. subst (λ (xs : List ℕ). Prints (script_of (lines_of xs)) (Some []) (Some printed)) same (done e);
      bad_call = λ number e. subst (λ (xs : List ℕ). PrintsBeforeLine number xs (Some []) (Some printed)) same (bad_call number e);
    })
