use Rattle.std.proofs.Common.{◌≡◌, ◌∙◌, List, length, vec_len, ap, map, arith}
use Rattle.std.proofs.lemmas.List.{take_at}
use Rattle.blob_pending.specs.Lists.{lists_of, finished_in}
use Rattle.blob_pending.specs.declared.incarnation.Incarnation.{Incarnation}
use Rattle.blob_pending.proofs.lists.finish_all.Goals as goal

pub returns : goal.returns
returns g c place =
    let len : length c.finish_each.new.lists ≡ vec_len c.args.lists.now = omega (arith, c.finish_each.auto.lists, c.as_mut_slice.ensures.len) in
    ap (lists_of place) (take_at _ _ _ len) ∙ c.finish_each.ensures place ∙ ap (λ (is : List (Incarnation g.row.O.Denot)). map (finished_in c.args.marker) (lists_of place is)) c.as_mut_slice.ensures.value
