use Rattle.std.proofs.Common.{rules, Bor, ℕ, ◌≡◌, ◌++◌, ◌∷◌, [], List, map, string_bytes, sym, ap, ◌∙◌}
use Rattle.std.specs.Prelude.{String, Vec}
use Rattle.std.specs.Global.{Global}
use Rattle.std.specs.List.{flat_map}
use Rattle.std.specs.Map.Iter.{deref_pair}
use Rattle.std.proofs.lemmas.List.{flat_map_more, map-append}
use Rattle.std.proofs.lemmas.Map.Iter.{iter_end}
use Rattle.blob_distinct.specs.Found.{LeftState, left_by}
use Rattle.blob_states.specs.Printed.{state_text}
use Rattle.blob_distinct.specs.Found.{state_in}
use Rattle.blob_states.proofs.print.print_states.Goals as goal

pub loop-lines-preserved : goal.loop-lines-preserved
loop-lines-preserved c =
    let calls = c.args.calls in
    let one : Bor (String Global) × Bor (Vec ℕ Global) = (c.in-Some.lines, c.in-Some.words) in
    let state : LeftState = left_by c.in-Some.words.now.items (string_bytes c.in-Some.lines.now) in
    let states : List LeftState = map state_in (map deref_pair c.loop-lines.yielded) in
    let here : string_bytes c.print_state.new.printed ≡ string_bytes c.loop-lines.printed ++ state_text calls state = search rules in
    here ∙ ap (λ bytes. bytes ++ state_text calls state) c.loop-lines.invariant ∙ flat_map_more (state_text calls) (string_bytes c.args.printed.now) states state
    ∙ ap (λ (all : List LeftState). string_bytes c.args.printed.now ++ flat_map (state_text calls) all)
    (sym (ap (map state_in) (map-append deref_pair c.loop-lines.yielded (one ∷ [])) ∙ map-append state_in (map deref_pair c.loop-lines.yielded) (deref_pair one ∷ [])))

pub returns : goal.returns
returns c =
    let all : map deref_pair c.loop-lines.yielded ≡ c.args.found.now.states.entries = search (rules, iter_end) in
    c.loop-lines.invariant ∙ ap (λ es. string_bytes c.args.printed.now ++ flat_map (state_text c.args.calls) (map state_in es)) all
