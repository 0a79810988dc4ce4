use Rattle.std.proofs.Common.{rules, ◌≡◌, ℕ, List, [], string_bytes, subst}
use Rattle.blob_file_scripts.specs.Takes.{TakesFirst}
use Rattle.blob_file_scripts.proofs.shared.Shared.new.Goals as goal

pub returns : goal.returns
returns c =
    let none : string_bytes c.new-text.result ≡ [] = search rules in
    record {
      begun = c.in_ok-files.files;
      empty = c.in_ok-files.ensures.names;
      one = c.in_ok-files.ensures.word;
      still = search rules;
      first = subst (λ (t : List ℕ). TakesFirst c.args.last c.args.script.now c.in_ok-rest.rest.now c.in_ok-files.files c.take_first.new.files t (string_bytes c.take_first.new.text)) none c.in_ok-rest.ensures;
    }
