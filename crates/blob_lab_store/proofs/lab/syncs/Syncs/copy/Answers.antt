use Rattle.std.proofs.Common.{◌≡◌, ◌∙◌, ◌≤◌, length, map, ap, arith}
use Rattle.std.specs.Prelude.{option_map}
use Rattle.std.proofs.lemmas.List.{take_all}
use Rattle.blob_lab_store.specs.Tables.{started_by}
use Rattle.blob_lab_store.proofs.Copies.{seen_alike}
use Rattle.blob_lab_store.proofs.lab.syncs.Syncs.copy.Goals as goal

pub returns-clause-syncs : goal.returns-clause-syncs
returns-clause-syncs c =
    let s = c.args.self.now.slots in
    let copies = c.loop-slot.values.items in
    let len : length s.values.items ≤ c.loop-slot.slot-index = omega (arith, c.loop-slot-test.false, ap length c.deref-slot-items.ensures.value) in
    let same : map (option_map started_by) copies ≡ map (option_map started_by) s.values.items = c.loop-slot.invariant.values ∙ ap (map (option_map started_by)) (take_all c.loop-slot.slot-index s.values.items len) in
    ap (map (option_map started_by)) c.with_values.ensures ∙ seen_alike started_by s.numbers.items s.values.items copies s.given same
