use Rattle.std.proofs.Common.{rules, ◌≡◌, ◌∙◌, ap, string_bytes}
use Rattle.std.specs.Prelude.{IfSome}
use Rattle.blob_tree.specs.WordsLeft.{EndsAfter}
use Rattle.blob_faulty.specs.Wrapper.{inner_of}
use Rattle.blob_lab_store.specs.LabStands.{stream_of}
use Rattle.blob_memory.specs.Store.{raw_blob}
use Rattle.blob_states.specs.Crashed.{image_lines}
use Rattle.blob_states.specs.Recorded.{names_of}
use Rattle.blob_states.proofs.Replaying.{leaves_by}
use Rattle.blob_states.proofs.visit.crash_by.Goals as goal

pub returns-clause-ok : goal.returns-clause-ok
returns-clause-ok c v stands =
    let names = names_of c.args.names.now in
    let left = c.in_ok-left.left in
    let printed : string_bytes c.in_ok-lines.lines ≡ image_lines (raw_blob (inner_of left)) names = c.in_ok-lines.ensures.ok ∙ ap (λ store. image_lines (raw_blob store) names) c.inner.ensures in
    let ends : IfSome c.left.result (EndsAfter (stream_of left)) = search rules in
    leaves_by v names c.args.words.items (string_bytes c.in_ok-lines.lines) left c.left.result (c.in_ok-left.ensures.left v stands) printed ends
