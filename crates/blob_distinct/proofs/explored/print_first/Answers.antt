use Rattle.std.proofs.Common.{rules, arith, ◌<◌, ◌≡◌, ◌++◌, length, ◌∙◌, ap, sym, string_bytes}
use Rattle.std.specs.Prelude.{codes}
use Rattle.std.specs.List.{flat_map}
use Rattle.std.proofs.lemmas.Result.{on_ok_weaker}
use Rattle.blob_distinct.specs.Printed.{word_text}
use Rattle.blob_distinct.proofs.Printing.{some_words, two_parts}
use Rattle.blob_distinct.proofs.explored.print_first.Goals as goal

pub returns : goal.returns
returns c =
    let words = c.args.words.now in
    let old = string_bytes c.args.printed.now in
    let mid = string_bytes c.push_str-2.new.self in
    let some : 0 < length words = search (rules, arith) in
    let first : mid ≡ old ++ codes ", first: words" = c.in_ok-push_str.ensures.bytes in
    on_ok_weaker c.print_words.result (λ then.
    two_parts old mid _ (codes ", first: words") (flat_map word_text words) first then ∙ ap (λ t. old ++ t) (sym (some_words words some)))
    c.print_words.ensures
