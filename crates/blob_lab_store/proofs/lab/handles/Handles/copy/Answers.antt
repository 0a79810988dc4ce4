use Rattle.std.proofs.Common.{◌≡◌, ◌∙◌, ◌≤◌, length, map, ap, arith}
use Rattle.std.specs.Prelude.{option_map}
use Rattle.std.proofs.lemmas.List.{take_all}
use Rattle.blob_lab_store.specs.Tables.{as_held}
use Rattle.blob_lab_store.proofs.Copies.{seen_alike}
use Rattle.blob_lab_store.proofs.lab.handles.Handles.copy.Goals as goal

pub returns-clause-handles : goal.returns-clause-handles
returns-clause-handles c =
    let s = c.args.self.now.slots in
    let copies = c.loop-slot.values.items in
    let len : length s.values.items ≤ c.loop-slot.slot-index = omega (arith, c.loop-slot-test.false, ap length c.deref-slot-items.ensures.value) in
    let same : map (option_map as_held) copies ≡ map (option_map as_held) s.values.items = c.loop-slot.invariant.values ∙ ap (map (option_map as_held)) (take_all c.loop-slot.slot-index s.values.items len) in
    ap (map (option_map as_held)) c.with_values.ensures ∙ seen_alike as_held s.numbers.items s.values.items copies s.given same
