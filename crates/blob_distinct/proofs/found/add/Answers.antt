use Rattle.std.proofs.Common.{rules, ◌≡◌, true, false, map, string_bytes, sym, ap, ◌∙◌}
use Rattle.std.specs.List.{list_any}
use Rattle.std.specs.Map.{keys_of}
use Rattle.std.proofs.lemmas.Map.Made.{is_some-lookup}
use Rattle.blob_distinct.specs.Found.{left_by, state_in, states_in}
use Rattle.blob_distinct.proofs.Table.{added, has_key, is_at, not_there, there}
use Rattle.blob_distinct.proofs.found.add.Goals as goal

pub returns-then-contains_key : goal.returns-then-contains_key
returns-then-contains_key c =
    let es = c.args.states.now.entries in
    let text = string_bytes c.args.lines in
    let found : list_any (is_at text) (keys_of es) ≡ true = sym (is_some-lookup (is_at text) es) ∙ search rules in
    there (states_in c.args.states.now) (left_by c.args.words.items text) (sym (has_key text es) ∙ found)

pub returns : goal.returns
returns c =
    let es = c.args.states.now.entries in
    let text = string_bytes c.args.lines in
    let none : list_any (is_at text) (keys_of es) ≡ false = sym (is_some-lookup (is_at text) es) ∙ search rules in
    ap (map state_in) c.in_ok-insert.ensures.entries ∙ added c.args.lines c.args.words es none
    ∙ not_there (states_in c.args.states.now) (left_by c.args.words.items text) (sym (has_key text es) ∙ none)
