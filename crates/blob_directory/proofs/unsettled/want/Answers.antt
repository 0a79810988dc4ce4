use Rattle.std.proofs.Common.{◌≡◌, Bool, true, sym, ap, ◌∙◌, get_or, set, map, take, drop, ◌++◌, ◌+◌}
use Rattle.std.proofs.lemmas.List.Edits.{map_over_more}
use Rattle.blob_directory.specs.Syncs.{marked}
use Rattle.blob_directory.specs.Wanted.{wants}
use Rattle.blob_directory.specs.declared.unsettled.Unsettled.{Unsettled}
use Rattle.blob_directory.proofs.unsettled.want.Goals as goal

pub loop-edit-preserved : goal.loop-edit-preserved
loop-edit-preserved c =
    let edits = c.loop-edit.edits in
    let k = c.loop-edit.edit-index in
    let all = c.args.edits.now in
    let item = get_or edits k c.edit-item.result in
    let w = wants c.in_ok-wanted.wanted in
    let more : set edits k (marked w c.edit-item.result) ≡ map (marked w) (take (k + 1) all) ++ drop (k + 1) all =
    map_over_more (marked w) all edits k c.edit-item.result c.loop-edit-test.true c.loop-edit.invariant c.edit-item.is in
    let same : marked w c.edit-item.result ≡ marked w item = ap (marked w) c.edit-item.is in
    ap (λ (b : Bool). set edits k (record item { is_wanted = b; is_seen = true })) c.has-edit.ensures ∙ ap (λ (e : Unsettled). set edits k e) (sym same) ∙ more
