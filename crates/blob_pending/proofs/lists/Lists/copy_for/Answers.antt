use Rattle.std.proofs.Common.{rules, ◌≡◌, ◌∙◌, ap, sym, false, get_or}
use Rattle.std.proofs.lemmas.Bool.{false≢true}
use Rattle.blob_model.specs.Pending.{has_barrier}
use Rattle.blob_pending.specs.Lists.{list_of}
use Rattle.blob_pending.specs.Views.{views, left_in}
use Rattle.blob_pending.proofs.Left.{barrier_left}
use Rattle.blob_pending.proofs.ListSteps.{found}
use Rattle.blob_pending.proofs.lists.Lists.copy_for.Goals as goal

pub returns-clause-copied : goal.returns-clause-copied
returns-clause-copied g c = rw (← c.self.view_is) (λ o i queued.
    let is = c.self.inside.all.lists.items in
    let at : c.index.result.now ≡ get_or is c.args.i c.index.result.now = search rules in
    let idle : c.index.result.now.queues ≡ false = search rules in
    let here : left_in c.index.result.now.entries.items ≡ list_of g.S.Durable.place is o = found g.S.Durable.place is c.args.i c.index.result.now o (search rules) at i in
    absurd (false≢true (sym idle ∙ c.index.result.now.queued ∙ sym (barrier_left (views c.index.result.now.entries.items)) ∙ ap has_barrier here ∙ queued)))
